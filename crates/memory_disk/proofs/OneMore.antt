-- What one call more makes of a rack in memory.
use Rattle.std.proofs.Common.{◌≡◌, ℕ, ◌+◌, ◌-◌, ◌*◌, ◌%◌, ◌^◌, ◌<◌, ◌≤◌, IsTrue, List, length, refl, sym, ◌∙◌, ap, subst, arith}
use Rattle.volume_disk.specs.domain_base.Counts.{raised}
use Rattle.volume_disk.specs.Disk.{Disk, Moment, Makes, MayTear, SyncFailed, WriteFailed, volume_pages}
use Rattle.memory_disk.specs.Kept.{replayed, Adds}
use Rattle.memory_disk.specs.Memory.{memory_disk, past_of}
use Rattle.memory_disk.specs.Volume.{moment_of, settled_of, sizes_of, read_faults_of, write_faults_of}
use Rattle.memory_disk.proofs.Moments.{MayTear-same}
use Rattle.memory_disk.proofs.Replays.{AreUpTo, AreFit, AreFit-same, AreUpTo-later, AreUpTo-added, AreFit-added, replayed-past, replayed-added, replayed-added_before, past_goes_on}
use Rattle.memory_disk.specs.declared.kept.KeptCall.{KeptCall}
use Rattle.memory_disk.specs.declared.memory.MemoryRack.{MemoryRack}
use Rattle.memory_disk.specs.declared.volume.Volume.{Volume}

-- where the moments of before are the same
pub SyncFailed-past : (old new : Disk) (vol : ℕ) (past : ℕ → Moment) → past ≡ old.past → SyncFailed (record old { past = past }) new vol → SyncFailed old new vol
SyncFailed-past old new vol past same failed = subst (λ (p : ℕ → Moment). SyncFailed (record old { past = p }) new vol) same failed

-- a write that failed as a sync does has torn nothing
pub WriteFailed-untorn : (old new : Disk) (vol at n : ℕ) → SyncFailed old new vol → WriteFailed old new vol at n
WriteFailed-untorn old new vol at n failed = record {
  makes = record {
    calls = failed.calls;
    read_faults = failed.read_faults;
    write_faults = failed.write_faults;
    sizes = failed.sizes;
    fails = failed.fails;
    told = failed.told;
    kept = failed.kept;
    now = λ told. refl;
    past = failed.past;
  };
  tears = λ told. subst (MayTear vol at n old.now) (sym (failed.now told)) (MayTear-same old.now vol at n);
}

-- these calls are right for these volumes of a rack, after this call
pub record AreKept (rack : MemoryRack) (kept : List KeptCall) (volumes : List Volume) (calls : ℕ) : Type 0 where
  pub numbered : AreUpTo calls kept
  pub fit : AreFit (sizes_of volumes) kept
  pub same_sizes : IsTrue rack.keeps → sizes_of rack.first.items.items ≡ sizes_of volumes
  pub replays : IsTrue rack.keeps → replayed (settled_of rack.first.items.items) kept calls ≡ moment_of volumes

-- what the rack with them stands for
abbrev disk_after : MemoryRack → List KeptCall → List Volume → ℕ → Disk
disk_after rack kept volumes next = record (memory_disk rack) {
  calls = next;
  sizes = sizes_of volumes;
  read_faults = read_faults_of volumes;
  write_faults = write_faults_of volumes;
  now = moment_of volumes;
  past = past_of rack.keeps next (settled_of rack.first.items.items) kept;
}

module _ (rack : MemoryRack) (kept : List KeptCall) (volumes : List Volume) (next : ℕ) (sizes : sizes_of volumes ≡ sizes_of rack.volumes.items.items) where
  abbrev first : Moment
  first = settled_of rack.first.items.items

  makes : (reads writes : ℕ → ℕ) (now : Moment) → moment_of volumes ≡ now → next ≡ raised rack.calls → rack.calls ≤ 2 ^ 64 - 1 → read_faults_of volumes ≡ reads → write_faults_of volumes ≡ writes
      → ((t : ℕ) → t ≤ rack.calls → replayed first kept t ≡ replayed first rack.kept.items t) → Makes (memory_disk rack) (disk_after rack kept volumes next) reads writes now
  makes reads writes now moment one_more range read_faults write_faults same = record {
    calls = one_more;
    read_faults = read_faults;
    write_faults = write_faults;
    sizes = sizes;
    fails = refl;
    told = refl;
    kept = refl;
    now = λ told. moment;
    past = λ told. past_goes_on rack.keeps rack.calls next one_more first (moment_of rack.volumes.items.items) rack.kept.items kept range same rack.replays;
  }

-- A call that kept nothing and changed no byte, and no mark.
module _ (rack : MemoryRack) (volumes : List Volume) (next : ℕ) (sizes : sizes_of volumes ≡ sizes_of rack.volumes.items.items) (moment : moment_of volumes ≡ moment_of rack.volumes.items.items) where
  pub kept_still : rack.calls ≤ next → AreKept rack rack.kept.items volumes next
  kept_still later = record {
    numbered = AreUpTo-later rack.calls next rack.kept.items later rack.numbered;
    fit = AreFit-same (sizes_of rack.volumes.items.items) (sizes_of volumes) rack.kept.items sizes rack.fit;
    same_sizes = λ keeps. rack.same_sizes keeps ∙ sym sizes;
    replays = λ keeps. replayed-past (settled_of rack.first.items.items) rack.kept.items rack.calls next rack.numbered later ∙ rack.replays keeps ∙ sym moment;
  }

  pub makes_still : (reads writes : ℕ → ℕ) → next ≡ raised rack.calls → rack.calls ≤ 2 ^ 64 - 1 → read_faults_of volumes ≡ reads → write_faults_of volumes ≡ writes
      → Makes (memory_disk rack) (disk_after rack rack.kept.items volumes next) reads writes (moment_of rack.volumes.items.items)
  makes_still reads writes one_more range read_faults write_faults =
      makes rack rack.kept.items volumes next sizes reads writes (moment_of rack.volumes.items.items) moment one_more range read_faults write_faults (λ t le. refl)

-- A call that was kept, with what it makes of a moment.
module _ (rack : MemoryRack) (kept : List KeptCall) (vol block size : ℕ) (effect : Moment → Moment) (adds : Adds rack.keeps rack.kept.items kept (rack.calls + 1) vol block size effect) (volumes : List Volume)
    (sizes : sizes_of volumes ≡ sizes_of rack.volumes.items.items) where
  pub kept_added : moment_of volumes ≡ effect (moment_of rack.volumes.items.items) → vol ≤ length (sizes_of rack.volumes.items.items) → size % 512 ≡ 0 → 512 * block + size ≤ 8192 * volume_pages (sizes_of rack.volumes.items.items) vol
      → AreKept rack kept volumes (rack.calls + 1)
  kept_added moment in_rack whole within = record {
    numbered = AreUpTo-added rack.kept.items kept rack.calls (rack.calls + 1) vol block size effect refl rack.numbered rack.keeps adds;
    fit = AreFit-same (sizes_of rack.volumes.items.items) (sizes_of volumes) kept sizes
        (AreFit-added rack.kept.items kept rack.calls (rack.calls + 1) vol block size effect refl rack.numbered rack.keeps adds (sizes_of rack.volumes.items.items) in_rack whole within rack.fit);
    same_sizes = λ keeps. rack.same_sizes keeps ∙ sym sizes;
    replays = λ keeps.
        replayed-added rack.kept.items kept rack.calls (rack.calls + 1) vol block size effect refl rack.numbered rack.keeps adds (settled_of rack.first.items.items) keeps
        ∙ ap effect (rack.replays keeps)
        ∙ sym moment;
  }

  pub makes_added : (reads writes : ℕ → ℕ) → rack.calls < 2 ^ 64 - 1 → read_faults_of volumes ≡ reads → write_faults_of volumes ≡ writes → Makes (memory_disk rack) (disk_after rack kept volumes (rack.calls + 1)) reads writes (moment_of volumes)
  makes_added reads writes range read_faults write_faults =
      makes rack kept volumes (rack.calls + 1) sizes reads writes (moment_of volumes) refl (omega arith) (omega arith) read_faults write_faults
      (replayed-added_before rack.kept.items kept rack.calls (rack.calls + 1) vol block size effect refl rack.numbered rack.keeps adds (settled_of rack.first.items.items))
