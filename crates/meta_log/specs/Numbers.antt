-- The numbers of anchors and groups, and the calls of a rack that it takes to raise them.
use Rattle.std.specs.Prelude.{ℕ, ◌+◌, ◌*◌, ◌^◌, ◌<◌, ◌≤◌, length}
use Rattle.log_ring.specs.volume_disk.Disk.{Disk}
use Rattle.log_ring.specs.volume_disk.Run.{IsLaterBy}
use Rattle.log_ring.specs.disk_label.declared.anchor.Anchor.{Anchor}
use Rattle.meta_log.specs.Checkpoint.{next_anchor}
use Rattle.meta_log.specs.Force.{forced}
use Rattle.meta_log.specs.Log.{Log, new_log, next_number}

-- a log's anchor and its next group have numbers that are higher than this one by no more than a
-- fifth of the calls that the rack has made
pub record AreNumbersWithin (first : ℕ) (disk : Disk) (log : Log) : Type 0 where
  pub anchor : 5 * log.anchor.number ≤ 5 * first + disk.calls
  pub group : 5 * next_number log ≤ 5 * first + disk.calls

-- they are still within that after more calls
abbrev pub KeepsNumbers : ℕ → Disk → Disk → Log → Type 0
KeepsNumbers first old new log =
    old.calls ≤ new.calls → AreNumbersWithin first old log → AreNumbersWithin first new log

-- once what is pending was forced, which makes calls if something is
abbrev pub ForcesNumbers : ℕ → Disk → Disk → Log → Type 0
ForcesNumbers first old new log =
    old.calls ≤ new.calls → (0 < length log.pending → IsLaterBy 5 old new)
    → AreNumbersWithin first old log → AreNumbersWithin first new (forced log)

-- and after the next anchor
abbrev pub MovesNumbers : ℕ → Disk → Disk → Log → Anchor → Type 0
MovesNumbers first old new log given =
    IsLaterBy 6 old new → AreNumbersWithin first old log
    → AreNumbersWithin first new (new_log (next_anchor log given))

-- a rack makes fewer than 2^64 calls: from a number that is higher than 2^62 by 64 at most, as that
-- of the last group of a ring may be, the next ones are below 2^63
abbrev pub LeavesNumbers : ℕ → Disk → Log → Type 0
LeavesNumbers first disk log =
    first ≤ 2 ^ 62 + 64 → disk.calls < 2 ^ 64 → AreNumbersWithin first disk log
    → (next_number log + 1 < 2 ^ 63) × (log.anchor.number + 1 < 2 ^ 63)
