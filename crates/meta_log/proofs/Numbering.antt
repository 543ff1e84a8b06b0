-- Numbers go up by one, and each time the rack makes five calls or more.
use Rattle.std.proofs.Common.{ℕ, ◌+◌, ◌*◌, ◌<◌, ◌≤◌, List, [], ◌∷◌, length, arith}
use Rattle.log_ring.specs.volume_disk.Disk.{Disk}
use Rattle.log_ring.specs.volume_disk.Run.{IsLaterBy}
use Rattle.log_ring.specs.disk_label.declared.anchor.Anchor.{Anchor}
use Rattle.log_ring.specs.declared.image.PageImage.{PageImage}
use Rattle.meta_log.specs.Log.{Log, groups_of, next_number}
use Rattle.meta_log.specs.Numbers.{ForcesNumbers, KeepsNumbers, LeavesNumbers, MovesNumbers}

pub keeps_numbers : (first : ℕ) (old new : Disk) (log : Log) → KeepsNumbers first old new log
keeps_numbers first old new log later within = let anchor = within.anchor in let group = within.group in record { anchor = omega arith; group = omega arith }

pub forces_numbers : (first : ℕ) (old new : Disk) (log : Log) → ForcesNumbers first old new log
forces_numbers first old new log later more within = let anchor = within.anchor in record { anchor = omega arith; group = group log.pending more }
  where
    group : (images : List PageImage) → (0 < length images → IsLaterBy 5 old new) → 5 * (log.anchor.group + (log.groups + length (groups_of (next_number log) images))) ≤ 5 * first + new.calls
    group [] none = let was = within.group in omega arith
    group (image ∷ images) some = let was = within.group in let by = some (omega arith) in omega arith

pub moves_numbers : (first : ℕ) (old new : Disk) (log : Log) (given : Anchor) → MovesNumbers first old new log given
moves_numbers first old new log given later within = let anchor = within.anchor in let group = within.group in record { anchor = omega arith; group = omega arith }

pub leaves_numbers : (first : ℕ) (disk : Disk) (log : Log) → LeavesNumbers first disk log
leaves_numbers first disk log low few within = let anchor = within.anchor in let group = within.group in (omega arith, omega arith)
