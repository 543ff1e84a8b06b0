-- At which homes an image may stand that the log has.
use Rattle.std.specs.Prelude.{◌≡◌, ◌+◌, ◌-◌, ◌<◌, ◌≤◌, ℕ, List, All, length, slice_index_or}
use Rattle.disk_label.specs.domain_base.Limits.{log_pages, max_volume_pages_4, max_volumes}
use Rattle.disk_label.specs.domain_base.declared.place.Home.{Home}
use Rattle.disk_label.specs.volume_disk.Disk.{volume_pages}
use Rattle.disk_label.specs.Body.{no_member}
use Rattle.disk_label.specs.FirstPages.{anchors_page}
use Rattle.disk_label.specs.declared.anchor.Anchor.{Anchor}
use Rattle.disk_label.specs.declared.anchor.Member.{Member}
use Rattle.log_ring.specs.declared.image.PageImage.{PageImage}

-- a volume as an anchor has it
abbrev pub member_of : Anchor → ℕ → Member
member_of anchor vol = slice_index_or anchor.members (vol - 1) no_member

-- a volume is a member, open or closed
pub record IsMember (anchor : Anchor) (vol : ℕ) : Type 0 where
  pub first : 1 ≤ vol
  pub last : vol ≤ max_volumes
  pub there : 1 ≤ (member_of anchor vol).state
  pub whole : (member_of anchor vol).state ≤ 2

-- the page is one of the log
abbrev pub IsLogPage : Anchor → Home → Type 0
IsLogPage anchor home =
    (home.vol ≡ anchor.log_vol)
    × (anchor.log_page ≤ home.page)
    × (home.page < anchor.log_page + log_pages)

-- a page of a member, open or closed, after its label and anchors and outside of the log
pub record IsLoggable (anchor : Anchor) (home : Home) : Type 0 where
  pub first_volume : 1 ≤ home.vol
  pub last_volume : home.vol ≤ max_volumes
  pub member : (1 ≤ (member_of anchor home.vol).state) × ((member_of anchor home.vol).state ≤ 2)
  pub within : home.page < (member_of anchor home.vol).pages
  pub behind : anchors_page < home.page
  pub outside : ¬ IsLogPage anchor home

-- each image may be logged
abbrev pub AreLoggable : Anchor → List PageImage → Type 0
AreLoggable anchor images = All (λ (image : PageImage). IsLoggable anchor image.home) images

-- a page of a rack, after label and anchors
pub record IsHomeOf (sizes : List ℕ) (home : Home) : Type 0 where
  pub first_volume : 1 ≤ home.vol
  pub last_volume : home.vol ≤ length sizes
  pub few_volumes : home.vol ≤ max_volumes
  pub behind : anchors_page < home.page
  pub within : home.page < volume_pages sizes home.vol
  pub limit : home.page < max_volume_pages_4

-- each image has a home in a rack
abbrev pub HaveHomes : List ℕ → List PageImage → Type 0
HaveHomes sizes images = All (λ (image : PageImage). IsHomeOf sizes image.home) images

-- and none of them is a page of the log
abbrev pub AreOutside : Anchor → List PageImage → Type 0
AreOutside anchor images = All (λ (image : PageImage). ¬ IsLogPage anchor image.home) images

-- the members of an anchor are volumes of a rack, which have their pages, and no more than any
-- version allows
abbrev pub HasMembers : List ℕ → Anchor → Type 0
HasMembers sizes anchor =
    (vol : ℕ) → 1 ≤ vol → vol ≤ max_volumes
    → 1 ≤ (member_of anchor vol).state → (member_of anchor vol).state ≤ 2
    → (vol ≤ length sizes)
    × ((member_of anchor vol).pages ≤ volume_pages sizes vol)
    × ((member_of anchor vol).pages ≤ max_volume_pages_4)
