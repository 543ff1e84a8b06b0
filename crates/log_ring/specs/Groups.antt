-- The groups of a log, what stands of them on an image, and an image's pages once they are redone.
use Rattle.std.specs.List.{flat_map}
use Rattle.std.specs.Prelude.{◌≡◌, ◌+◌, ◌≤◌, ℕ, List, [], ◌∷◌, Some, length}
use Rattle.disk_label.specs.domain_base.Limits.{log_pages}
use Rattle.page_store.specs.Pages.{Pages}
use Rattle.disk_label.specs.volume_disk.Disk.{Disk, MayLeave}
use Rattle.disk_label.specs.volume_disk.Image.{Image, page_at}
use Rattle.disk_label.specs.Anchor.{IsAnchor}
use Rattle.disk_label.specs.declared.anchor.Anchor.{Anchor}
use Rattle.log_ring.specs.Header.{IsHeader}
use Rattle.log_ring.specs.Images.{homes_of, overlaid}
use Rattle.log_ring.specs.declared.header.Header.{Header}
use Rattle.log_ring.specs.declared.image.PageImage.{PageImage}
use Rattle.log_ring.specs.Homes.{AreLoggable}
use Rattle.log_ring.specs.Ring.{IsGateOpen, place_at}

-- a group: its number, and its images in their order
pub record Group : Type 0 where
  pub number : ℕ
  pub images : List PageImage

-- what its header says
abbrev pub header_of : Group → Header
header_of group = record { number = group.number; homes = homes_of group.images }

-- the places of groups: one for each header, and one for each image
abbrev pub span : List Group → ℕ
span [] = 0
span (group ∷ more) = 1 + length group.images + span more

-- the images of groups, in their order
abbrev pub images_of : List Group → List PageImage
images_of groups = flat_map (λ (group : Group). group.images) groups

-- groups, and the header that is next, fit the ring
abbrev pub FitsRing : List Group → Type 0
FitsRing groups = span groups + 1 ≤ log_pages

-- What stands on an image.

-- these images stand one after the other from this place on
abbrev pub AreImagesAt : Image → Anchor → ℕ → List PageImage → Type 0
AreImagesAt image anchor place [] = Unit {0}
AreImagesAt image anchor place (logged ∷ more) =
    (place_at image anchor place ≡ logged.page) × AreImagesAt image anchor (place + 1) more

-- what follows the gate at a place is this group: its header, and its images after that
pub record IsBehindGate (image : Image) (anchor : Anchor) (place : ℕ) (group : Group)
    : Type 0 where
  pub header : IsHeader (place_at image anchor place) (header_of group)
  pub loggable : AreLoggable anchor group.images
  pub images : AreImagesAt image anchor (place + 1) group.images

-- it stands there after an open gate
pub record HasGroup (image : Image) (anchor : Anchor) (place : ℕ) (group : Group) : Type 0 where
  pub is_open : IsGateOpen image anchor place
  pub behind : IsBehindGate image anchor place group

-- these groups stand one after the other from this place on, with numbers that go up by one from
-- this one, and the next gate is closed
abbrev pub AreGroups : Anchor → ℕ → ℕ → List Group → Image → Type 0
AreGroups anchor place number [] image = ¬ IsGateOpen image anchor place
AreGroups anchor place number (group ∷ more) image =
    (group.number ≡ number)
    × HasGroup image anchor place group
    × AreGroups anchor (place + 1 + length group.images) (number + 1) more image

-- an image of a rack with volumes of these sizes has this anchor, and from its start on these
-- groups
pub record HasLog (sizes : List ℕ) (anchor : Anchor) (groups : List Group) (image : Image)
    : Type 0 where
  pub anchor_is : IsAnchor sizes image (Some anchor)
  pub groups_are : AreGroups anchor anchor.start anchor.group groups image
  pub fits : FitsRing groups

-- each image that a stop might leave now has them
abbrev pub LogStands : Disk → Anchor → List Group → Type 0
LogStands disk anchor groups =
    (image : Image) → MayLeave disk.now image → HasLog disk.sizes anchor groups image

-- Redoing.

-- the pages of an image
abbrev pub pages_in : Image → Pages
pages_in image home = Some (page_at image home.vol home.page)

-- and once groups are redone: their images are laid over them
abbrev pub redone : List Group → Image → Pages
redone groups image = overlaid (images_of groups) (pages_in image)
