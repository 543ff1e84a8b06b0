-- How the images of durable groups come home, and the log's start moves past them.
use Rattle.std.specs.Prelude.{◌≡◌, ◌==◌, ◌&&◌, ◌+◌, ◌-◌, ◌%◌, ℕ, Bool, IsTrue, List, [], Some, if◌then◌else◌}
use Rattle.log_ring.specs.domain_base.Limits.{log_pages, max_volumes}
use Rattle.log_ring.specs.volume_disk.Disk.{Disk, MayLeave, Tells}
use Rattle.log_ring.specs.volume_disk.Image.{Image}
use Rattle.log_ring.specs.volume_disk.Run.{LeavesOnly, OnlyWrites}
use Rattle.log_ring.specs.disk_label.Anchor.{IsNext}
use Rattle.log_ring.specs.disk_label.Slot.{IsReady, IsReadyFor, StandsIn}
use Rattle.log_ring.specs.disk_label.declared.anchor.Anchor.{Anchor}
use Rattle.log_ring.specs.Groups.{Group}
use Rattle.log_ring.specs.Ring.{IsGateOpen}
use Rattle.log_ring.specs.Settling.{AreSyncedBelow, IsAtHomesOrSlot, IsRedoneAs, MeansTheSame}
use Rattle.meta_log.specs.Force.{IsSyncedOn}
use Rattle.meta_log.specs.Log.{Log, Stands, new_log, next_number, used}

-- two anchors have the log on one ring
abbrev pub same_ring : Anchor → Anchor → Bool
same_ring one other = (one.log_vol == other.log_vol) && (one.log_page == other.log_page)

-- the next anchor: one that was given, with the next number and slot, and a start after the durable
-- groups, or at the first page of another ring
abbrev pub next_anchor : Log → Anchor → Anchor
next_anchor log given = record given {
  number = log.anchor.number + 1;
  slot = if given.log_vol == log.anchor.log_vol then 1 - log.anchor.slot else 0;
  start = if same_ring log.anchor given then (log.anchor.start + used log) % log_pages else 0;
  group = next_number log;
}

-- the log stands with these groups, the next anchor's slot is ready, and on another ring the gate
-- at its start is closed
pub record MayCheckpoint (disk : Disk) (log : Log) (groups : List Group) (next : Anchor)
    : Type 0 where
  pub stands : Stands disk log groups
  pub ready : IsReadyFor disk (Some log.anchor) next
  pub closed : ¬ IsTrue (same_ring log.anchor next) → (image : Image) → MayLeave disk.now image
      → ¬ IsGateOpen image next next.start

-- the durable groups were brought home, or that was cut short: each image since has the old log or
-- the new one, and the same pages once redone
pub record Checkpoints (old new : Disk) (log : Log) (next : Anchor) : Type 0 where
  pub writes : OnlyWrites old new (IsAtHomesOrSlot log.logged next)
  pub any_moment : Tells old → (groups : List Group) → MayCheckpoint old log groups next
      → LeavesOnly old new (MeansTheSame old log.anchor groups next)

-- it is done
pub record HasCheckpointed (old new : Disk) (log : Log) (next : Anchor) : Type 0 where
  -- each image has the new log with no group, and the pages that it stood for
  pub stands : Tells old → (groups : List Group) → MayCheckpoint old log groups next
      → Stands new (new_log next) []
  pub same : Tells old → (groups : List Group) → MayCheckpoint old log groups next
      → (image : Image) → MayLeave new.now image
      → (before : Image) × MayLeave old.now before × IsRedoneAs groups before [] image
  -- the anchor after it finds its slot ready, on the same volume
  pub next_ready : Tells old → (later : Anchor) → IsReadyFor old (Some log.anchor) next
      → log.anchor.log_vol ≡ next.log_vol → IsNext (Some next) later
      → later.log_vol ≡ next.log_vol → IsReadyFor new (Some next) later
  -- nothing is pending on the volumes of the homes, nor on that of the log
  pub synced : Tells old → AreSyncedBelow (max_volumes + 1) log.logged new.now
  pub anchor_synced : Tells old → IsSyncedOn next.log_vol new.now
  -- and each other slot that was ready stays so
  pub others : Tells old → (vol slot : ℕ) → IsReadyFor old (Some log.anchor) next
      → IsReady old (Some log.anchor) vol slot → ¬ StandsIn (Some next) vol slot
      → IsReady new (Some next) vol slot
