-- What a rack in memory stands for.
use Rattle.std.specs.Prelude.{◌≡◌, ◌==◌, ◌&&◌, ◌^◌, ◌-◌, ◌<◌, ℕ, nat_lt, if◌then◌else◌, Bool, true, false, List, []}
use Rattle.std.specs.List.{list_any}
use Rattle.volume_disk.specs.Disk.{Disk, Moment, MayLeave, moment_at}
use Rattle.volume_disk.specs.Image.{Image}
use Rattle.memory_disk.specs.Kept.{replayed}
use Rattle.memory_disk.specs.Moment.{IsPending, blank}
use Rattle.memory_disk.specs.Volume.{moment_of, settled_of, sizes_of, read_faults_of, write_faults_of}
use Rattle.memory_disk.specs.declared.kept.KeptCall.{KeptCall}
use Rattle.memory_disk.specs.declared.memory.MemoryRack.{MemoryRack}
use Rattle.memory_disk.specs.declared.volume.Volume.{Volume}

-- the moments after the calls of before
abbrev pub past_of : Bool → ℕ → Moment → List KeptCall → ℕ → Moment
past_of keeps calls first kept t = if keeps && nat_lt t calls then replayed first kept t else blank

-- what a rack in memory stands for
abbrev pub memory_disk : MemoryRack → Disk
memory_disk rack = record {
  calls = rack.calls;
  sizes = sizes_of rack.volumes.items.items;
  read_faults = read_faults_of rack.volumes.items.items;
  write_faults = write_faults_of rack.volumes.items.items;
  fails = λ n. list_any (λ call. call == n) rack.fails.items;
  told = true;
  now = moment_of rack.volumes.items.items;
  kept = rack.keeps;
  past = past_of rack.keeps rack.calls (settled_of rack.first.items.items) rack.kept.items;
}

-- a rack that has just started: nothing is pending and nothing is counted
abbrev pub started : List ℕ → Image → List ℕ → Bool → Disk
started sizes image fails keeps = record {
  calls = 0;
  sizes = sizes;
  read_faults = λ _. 0;
  write_faults = λ _. 0;
  fails = λ n. list_any (λ call. call == n) fails;
  told = true;
  now = record { contents = image; unsynced = λ _ _. false };
  kept = keeps;
  past = λ _. blank;
}

-- n bytes from `at` on are not synced after a call, unless no number was left for it
abbrev pub IsTorn : Disk → Disk → ℕ → ℕ → ℕ → Type 0
IsTorn old new vol at n = old.calls < 2 ^ 64 - 1 → IsPending new.now vol at n

-- volumes that a stop at this moment may leave, all synced and with no fault counted. Pick 0 is
-- where everything is written.
pub record IsLeft (moment : Moment) (pick : ℕ) (volumes : List Volume) : Type 0 where
  pub left : MayLeave moment (settled_of volumes).contents
  pub all_written : pick ≡ 0 → (settled_of volumes).contents ≡ moment.contents
  pub settled : moment_of volumes ≡ settled_of volumes
  pub read_faults : read_faults_of volumes ≡ (λ _. 0)
  pub write_faults : write_faults_of volumes ≡ (λ _. 0)

-- a rack that started again after a stop right after this call, which left one of the images that
-- it may leave. Pick 0 is the one where everything is written.
pub record IsRestarted (old : Disk) (call pick : ℕ) (new : Disk) : Type 0 where
  pub image : Image
  pub left : MayLeave (moment_at old call) image
  pub all_written : pick ≡ 0 → image ≡ (moment_at old call).contents
  pub is : new ≡ started old.sizes image [] true
