-- A call of a rack is one of the same rack that tells nothing, and whose volumes are folded.
use Rattle.std.proofs.Common.{◌≡◌, ◌+◌, ◌*◌, ◌%◌, ◌<◌, ◌≤◌, ℕ, zero, suc, List, [], ◌∷◌, arith, refl, ap, sym, subst, map, length, slice_index}
use Rattle.std.proofs.lemmas.List.{length-map}
use Rattle.log_recovery.specs.volume_disk.Disk.{AreBlocks, Disk, HasVolume, Makes, Moment, ReadDone, SyncDone, Tells, WriteDone, WriteFailed, volume_pages}
use Rattle.log_tables.specs.Untold.{unfolded, untold}

not_told : (fold : ℕ) (disk : Disk) → Tells (untold fold disk) → ⊥
not_told fold disk told = cc

pub Makes-untold : (fold : ℕ) (old new : Disk) (reads writes : ℕ → ℕ) (moment other : Moment) → Makes old new reads writes moment → Makes (untold fold old) (untold fold new) reads writes other
Makes-untold fold old new reads writes moment other makes = record {
  calls = makes.calls;
  read_faults = makes.read_faults;
  write_faults = makes.write_faults;
  sizes = ap (map (unfolded fold)) makes.sizes;
  fails = makes.fails;
  told = refl;
  kept = makes.kept;
  now = λ told. absurd (not_told fold old told);
  past = λ told. absurd (not_told fold old told);
}

pub ReadDone-untold : (fold : ℕ) (old new : Disk) (vol at n at' n' : ℕ) (out out' : List ℕ) → ReadDone old new vol at n out → ReadDone (untold fold old) (untold fold new) vol at' n' out'
ReadDone-untold fold old new vol at n at' n' out out' done = record {
  makes = Makes-untold fold old new old.read_faults old.write_faults old.now old.now done.makes;
  bytes = λ told. absurd (not_told fold old told);
  passed = done.passed;
}

pub WriteDone-untold : (fold : ℕ) (old new : Disk) (vol at at' : ℕ) (bytes bytes' : List ℕ) → WriteDone old new vol at bytes → WriteDone (untold fold old) (untold fold new) vol at' bytes'
WriteDone-untold fold old new vol at at' bytes bytes' done = record {
  makes = Makes-untold fold old new old.read_faults old.write_faults new.now new.now done.makes;
  writes = λ told. absurd (not_told fold old told);
  passed = done.passed;
}

pub WriteFailed-untold : (fold : ℕ) (old new : Disk) (vol at n at' n' : ℕ) → WriteFailed old new vol at n → WriteFailed (untold fold old) (untold fold new) vol at' n'
WriteFailed-untold fold old new vol at n at' n' failed = record {
  makes = Makes-untold fold old new old.read_faults _ new.now new.now failed.makes;
  tears = λ told. absurd (not_told fold old told);
}

pub SyncDone-untold : (fold : ℕ) (old new : Disk) (vol : ℕ) → SyncDone old new vol → SyncDone (untold fold old) (untold fold new) vol
SyncDone-untold fold old new vol done = record {
  makes = Makes-untold fold old new old.read_faults old.write_faults new.now new.now done.makes;
  syncs = λ told. absurd (not_told fold old told);
  passed = done.passed;
}

-- The volumes.

no_pages : (fold : ℕ) → unfolded fold zero ≡ zero
no_pages fold = omega arith

unfolded-at : (fold : ℕ) (sizes : List ℕ) (i : ℕ) → slice_index (map (unfolded fold) sizes) i ≡ unfolded fold (slice_index sizes i)
unfolded-at fold [] i = sym (no_pages fold)
unfolded-at fold (pages ∷ sizes) zero = refl
unfolded-at fold (pages ∷ sizes) (suc i) = unfolded-at fold sizes i

pub pages-unfolded : (fold : ℕ) (sizes : List ℕ) (vol : ℕ) → unfolded fold (volume_pages sizes vol) ≡ volume_pages (map (unfolded fold) sizes) vol
pages-unfolded fold sizes zero = no_pages fold
pages-unfolded fold sizes (suc v) = sym (unfolded-at fold sizes v)

pub volumes-unfolded : (fold : ℕ) (sizes : List ℕ) → length sizes ≡ length (map (unfolded fold) sizes)
volumes-unfolded fold sizes = sym (length-map sizes (unfolded fold))

pub has_volume : (fold : ℕ) (disk : Disk) (vol : ℕ) → HasVolume (untold fold disk) vol → HasVolume disk vol
has_volume fold disk vol has = (has.0, omega (arith, has.1, volumes-unfolded fold disk.sizes))

has_some : (fold pages at n : ℕ) → 0 < n → at + n ≤ 8192 * unfolded fold pages → 0 < pages
has_some fold zero at n some within = omega (arith, some, within, no_pages fold)
has_some fold (suc pages) at n some within = omega arith

-- a volume that has blocks has a page in memory
pub has_pages : (fold : ℕ) (disk : Disk) (vol block n : ℕ) → AreBlocks (untold fold disk) vol block n → 0 < volume_pages disk.sizes vol
has_pages fold disk vol block n blocks =
    let held : ℕ = volume_pages disk.sizes vol in
    let within : 512 * block + n ≤ 8192 * unfolded fold held = subst (λ pages. 512 * block + n ≤ 8192 * pages) (sym (pages-unfolded fold disk.sizes vol)) blocks.within in
    has_some fold held (512 * block) n blocks.some within

-- blocks that lie on a volume in memory are blocks of it
pub are_blocks : (fold : ℕ) (disk : Disk) (vol block n block' n' : ℕ) → AreBlocks (untold fold disk) vol block n → n' % 512 ≡ 0 → 0 < n' → 512 * block' + n' ≤ 8192 * volume_pages disk.sizes vol → AreBlocks disk vol block' n'
are_blocks fold disk vol block n block' n' blocks whole some within = record {
  in_rack = has_volume fold disk vol blocks.in_rack;
  whole = whole;
  some = some;
  within = within;
}
