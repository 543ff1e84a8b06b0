-- What moving a log to another volume leaves.
use Rattle.std.specs.Prelude.{◌≡◌, ◌≢◌, ◌⊎◌, ◌+◌, ◌*◌, ◌^◌, ◌<◌, ℕ, List}
use Rattle.log_recovery.specs.domain_base.Limits.{block_bytes, log_pages, page_bytes}
use Rattle.log_recovery.specs.volume_disk.Disk.{Disk, Tells}
use Rattle.log_recovery.specs.volume_disk.Image.{IsIn, Places}
use Rattle.log_recovery.specs.volume_disk.Run.{LeavesOnly}
use Rattle.log_recovery.specs.disk_label.Anchor.{IsWhole}
use Rattle.log_recovery.specs.disk_label.FirstPages.{anchors_page}
use Rattle.log_recovery.specs.disk_label.declared.anchor.Anchor.{Anchor}
use Rattle.log_recovery.specs.log_ring.Homes.{HasMembers}
use Rattle.log_recovery.specs.log_ring.Ring.{IsRing}
use Rattle.log_recovery.specs.Readable.{IsReadable, WouldBeGoodNow}
use Rattle.file_pages.specs.meta_log.Log.{Log}

-- a log may be moved to the volume of an anchor, where the rack has its ring and its members
pub record MayMoveTo (sizes : List ℕ) (log : Log) (anchor : Anchor) : Type 0 where
  pub other : anchor.log_vol ≢ log.anchor.log_vol
  pub whole : IsWhole anchor
  pub pages : anchor.log_pages ≡ log_pages
  pub ring : IsRing sizes anchor
  pub members : HasMembers sizes anchor
  pub number : log.anchor.number + 1 < 2 ^ 63

-- the page of anchors of the volume that an anchor's log is on, and the first gate of its ring
abbrev pub IsMoving : Anchor → Places
IsMoving anchor v k =
    IsIn anchor.log_vol (page_bytes * anchors_page) page_bytes v k
    ⊎ IsIn anchor.log_vol (page_bytes * anchor.log_page) block_bytes v k

-- recovery takes each image since, where the next anchor would be good
abbrev pub MovesReadably : Disk → Disk → Anchor → Type 0
MovesReadably old new next =
    Tells old → WouldBeGoodNow old next → LeavesOnly old new (IsReadable old.sizes)
