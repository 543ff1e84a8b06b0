-- What settles a log.
use Rattle.std.specs.Prelude.{◌≡◌, ◌+◌, ◌-◌, ◌%◌, ◌^◌, ◌<◌, ◌≤◌, List, Some}
use Rattle.log_ring.specs.domain_base.Limits.{log_pages}
use Rattle.log_ring.specs.volume_disk.Disk.{Disk}
use Rattle.log_ring.specs.disk_label.Slot.{IsReadyFor}
use Rattle.log_ring.specs.disk_label.declared.anchor.Anchor.{Anchor}
use Rattle.log_ring.specs.Groups.{Group, LogStands, images_of, span}
use Rattle.log_ring.specs.Settling.{MayMove}
use Rattle.log_recovery.specs.declared.redone.Redone.{Redone}

-- the anchor that is written: the log starts after the groups that were redone
abbrev pub settled_anchor : Redone → Anchor
settled_anchor redone = record redone.anchor {
  number = redone.anchor.number + 1;
  start = redone.next_place;
  group = redone.next_group;
  slot = 1 - redone.anchor.slot;
}

-- its numbers are in their ranges: its own, and that of the group at its start
pub record HasNumbersLeft (redone : Redone) : Type 0 where
  pub number : redone.anchor.number + 1 < 2 ^ 63
  pub group : redone.next_group < 2 ^ 63

-- the log stands with the groups that were redone, and the slot of the next anchor is ready
pub record MaySettle (disk : Disk) (groups : List Group) (redone : Redone) : Type 0 where
  pub behind : 2 ≤ redone.anchor.log_page
  pub stands : LogStands disk redone.anchor groups
  pub images : images_of groups ≡ redone.images
  pub place : redone.next_place ≡ (redone.anchor.start + span groups) % log_pages
  pub ready : IsReadyFor disk (Some redone.anchor) (settled_anchor redone)

-- so the images may be brought home
abbrev pub SettlesAsMoves : Disk → List Group → Redone → Type 0
SettlesAsMoves disk groups redone =
    MaySettle disk groups redone
    → MayMove disk redone.anchor groups redone.images (settled_anchor redone)
