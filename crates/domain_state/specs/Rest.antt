-- A rack at rest, between the changes of its domain.
use Rattle.std.specs.Prelude.{◌≡◌, ◌≢◌}
use Rattle.no_faults.specs.domain_base.declared.place.Home.{Home}
use Rattle.no_faults.specs.volume_disk.Disk.{Disk, MayLeave, Tells}
use Rattle.no_faults.specs.volume_disk.Image.{Image}
use Rattle.no_faults.specs.disk_label.FirstPages.{anchors_page}
use Rattle.no_faults.specs.disk_label.declared.anchor.Anchor.{Anchor}
use Rattle.no_faults.specs.log_ring.Groups.{pages_in}
use Rattle.no_faults.specs.log_ring.Homes.{HasMembers, IsMember}
use Rattle.no_faults.specs.log_recovery.Settling.{IsBehindAll}

-- each image that a stop might leave has each page of a member, that of anchors aside, as a read
-- gives it
abbrev pub ArePagesSynced : Disk → Anchor → Type 0
ArePagesSynced disk anchor =
    (image : Image) → MayLeave disk.now image
    → (home : Home) → IsMember anchor home.vol → home.page ≢ anchors_page
    → pages_in image home ≡ pages_in disk.now.contents home

-- a rack has the members of an anchor; if it tells what it holds, this is its anchor, its log has
-- no group after that, and nothing is pending on pages of members, those of anchors aside
pub record IsAtRest (disk : Disk) (anchor : Anchor) : Type 0 where
  pub members : HasMembers disk.sizes anchor
  pub none : IsBehindAll disk anchor
  pub synced : Tells disk → ArePagesSynced disk anchor
