-- What a call of a rack is to a rack with a fuse round it.
use Rattle.std.proofs.Common.{◌≡◌, ◌||◌, ℕ, ◌+◌, ◌<◌, nat_lt, false, List, refl, arith}
use Rattle.std.proofs.lemmas.Bool.{le-ltb}
use Rattle.volume_disk.specs.Disk.{Disk, Moment, MayPass, Makes, ReadDone, WriteDone, WriteFailed, SyncDone}
use Rattle.memory_disk.specs.Fuse.{fused}

module _ (old new : Disk) (last : ℕ) where
  pub Makes-fused : (reads writes : ℕ → ℕ) (moment : Moment) → Makes old new reads writes moment → Makes (fused old last) (fused new last) reads writes moment
  Makes-fused reads writes moment makes = record {
    calls = makes.calls;
    read_faults = makes.read_faults;
    write_faults = makes.write_faults;
    sizes = makes.sizes;
    fails = λ i n. makes.fails i n || nat_lt last n;
    told = makes.told;
    kept = makes.kept;
    now = makes.now;
    past = makes.past;
  }

  MayPass-fused : old.calls < last → MayPass old → MayPass (fused old last)
  MayPass-fused before passed =
      let blown : nat_lt last (old.calls + 1) ≡ false = le-ltb last (old.calls + 1) (omega arith) in
      (passed.0, rw (passed.1, blown) refl)

  pub ReadDone-fused : (vol at n : ℕ) (out : List ℕ) → old.calls < last → ReadDone old new vol at n out → ReadDone (fused old last) (fused new last) vol at n out
  ReadDone-fused vol at n out before done = record {
    makes = Makes-fused old.read_faults old.write_faults old.now done.makes;
    bytes = done.bytes;
    passed = MayPass-fused before done.passed;
  }

  pub WriteDone-fused : (vol at : ℕ) (bytes : List ℕ) → old.calls < last → WriteDone old new vol at bytes → WriteDone (fused old last) (fused new last) vol at bytes
  WriteDone-fused vol at bytes before done = record {
    makes = Makes-fused old.read_faults old.write_faults new.now done.makes;
    writes = done.writes;
    passed = MayPass-fused before done.passed;
  }

  pub WriteFailed-fused : (vol at n : ℕ) → WriteFailed old new vol at n → WriteFailed (fused old last) (fused new last) vol at n
  WriteFailed-fused vol at n failed = record { makes = Makes-fused old.read_faults _ new.now failed.makes; tears = failed.tears }

  pub SyncDone-fused : (vol : ℕ) → old.calls < last → SyncDone old new vol → SyncDone (fused old last) (fused new last) vol
  SyncDone-fused vol before done = record {
    makes = Makes-fused old.read_faults old.write_faults new.now done.makes;
    syncs = done.syncs;
    passed = MayPass-fused before done.passed;
  }
