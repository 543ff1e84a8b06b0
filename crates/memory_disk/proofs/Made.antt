-- What a call makes of a rack that tells nothing of what it holds.
use Rattle.std.proofs.Common.{◌≡◌, ◌∙◌, ℕ, refl, sym, ap, subst}
use Rattle.volume_disk.specs.Disk.{Disk, Makes, Tells, raised_at}
use Rattle.memory_disk.specs.Files.{ticked}

-- a call that failed no device
pub made : (old new : Disk) → new ≡ ticked old → ¬ Tells old → Makes old new old.read_faults old.write_faults old.now
made old new counted hidden = record {
  calls = ap (λ d. d.calls) counted;
  read_faults = ap (λ d. d.read_faults) counted;
  write_faults = ap (λ d. d.write_faults) counted;
  sizes = ap (λ d. d.sizes) counted;
  fails = ap (λ d. d.fails) counted;
  told = ap (λ d. d.told) counted;
  kept = ap (λ d. d.kept) counted;
  now = λ told. absurd (hidden told);
  past = λ told. absurd (hidden told);
}

-- a read that failed
pub failed_read : (old new : Disk) (vol : ℕ) (faults : ℕ → ℕ) → new ≡ ticked old → ¬ Tells old → faults ≡ raised_at new.read_faults vol
    → Makes old (record new { read_faults = faults }) (raised_at old.read_faults vol) old.write_faults old.now
failed_read old new vol faults counted hidden raised =
    let is = made old new counted hidden in
    record {
      calls = is.calls;
      read_faults = raised ∙ ap (λ counts. raised_at counts vol) is.read_faults;
      write_faults = is.write_faults;
      sizes = is.sizes;
      fails = is.fails;
      told = is.told;
      kept = is.kept;
      now = λ told. absurd (hidden told);
      past = λ told. absurd (hidden told);
    }

-- a write or a sync that failed
pub failed_write : (old new : Disk) (vol : ℕ) (faults : ℕ → ℕ) → new ≡ ticked old → ¬ Tells old → faults ≡ raised_at new.write_faults vol
    → Makes old (record new { write_faults = faults }) old.read_faults (raised_at old.write_faults vol) old.now
failed_write old new vol faults counted hidden raised =
    let is = made old new counted hidden in
    record {
      calls = is.calls;
      read_faults = is.read_faults;
      write_faults = raised ∙ ap (λ counts. raised_at counts vol) is.write_faults;
      sizes = is.sizes;
      fails = is.fails;
      told = is.told;
      kept = is.kept;
      now = λ told. absurd (hidden told);
      past = λ told. absurd (hidden told);
    }
