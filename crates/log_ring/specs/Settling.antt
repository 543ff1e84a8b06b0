-- The images of a log brought home, and its start moved past them.
use Rattle.std.specs.Prelude.{◌≡◌, ◌≢◌, ◌⊎◌, ◌+◌, ◌*◌, ◌<◌, ℕ, false, List, [], Option, Some, IsSome}
use Rattle.disk_label.specs.domain_base.Limits.{max_volumes, page_bytes}
use Rattle.disk_label.specs.domain_base.declared.place.Home.{Home}
use Rattle.disk_label.specs.volume_disk.Disk.{Disk, MayLeave, Moment, Tells}
use Rattle.disk_label.specs.volume_disk.Image.{Image, IsIn, Places}
use Rattle.disk_label.specs.volume_disk.Run.{LeavesOnly, OnlyWrites}
use Rattle.disk_label.specs.Anchor.{IsNext}
use Rattle.disk_label.specs.FirstPages.{anchors_page}
use Rattle.disk_label.specs.Slot.{IsReady, IsReadyFor, IsSlot, StandsIn}
use Rattle.disk_label.specs.declared.anchor.Anchor.{Anchor}
use Rattle.log_ring.specs.Images.{image_at}
use Rattle.log_ring.specs.declared.image.PageImage.{PageImage}
use Rattle.log_ring.specs.Groups.{Group, HasLog, LogStands, images_of, redone}
use Rattle.log_ring.specs.Ring.{IsGateOpen}

-- some image has this home
abbrev pub HasHome : List PageImage → Home → Type 0
HasHome images home = IsSome (image_at home images)

-- the bytes of a page
abbrev pub IsOnPage : Home → Places
IsOnPage home = IsIn home.vol (page_bytes * home.page) page_bytes

-- the bytes of the pages at the homes of images
abbrev pub IsAtHomes : List PageImage → Places
IsAtHomes images v k = (home : Home) × HasHome images home × IsOnPage home v k

-- nothing is pending on the volumes below this one that have the home of an image
abbrev pub AreSyncedBelow : ℕ → List PageImage → Moment → Type 0
AreSyncedBelow vol images moment =
    (home : Home) → HasHome images home → home.vol < vol
    → (k : ℕ) → moment.unsynced home.vol k ≡ false

-- these bytes, and the slot that an anchor names
abbrev pub IsAtHomesOrSlot : List PageImage → Anchor → Places
IsAtHomesOrSlot images anchor v k =
    IsAtHomes images v k ⊎ IsSlot anchor.log_vol anchor.slot v k

-- the log stands with these images, and may start with the next anchor: its slot is ready, and each
-- image has the gate closed at which it starts
pub record MayMove (disk : Disk) (anchor : Anchor) (groups : List Group)
    (images : List PageImage) (next : Anchor) : Type 0 where
  pub behind : anchors_page < anchor.log_page
  pub stands : LogStands disk anchor groups
  pub has : images_of groups ≡ images
  pub ready : IsReadyFor disk (Some anchor) next
  pub closed : (image : Image) → MayLeave disk.now image → ¬ IsGateOpen image next next.start

-- once some groups are redone on an image, each of its pages, those of anchors aside, is what it
-- was on an image of before once the groups of then were redone
abbrev pub IsRedoneAs : List Group → Image → List Group → Image → Type 0
IsRedoneAs past before groups image =
    (home : Home) → home.page ≢ anchors_page
    → redone groups image home ≡ redone past before home

-- an image has the log as it was, or none of it after the next anchor, and its pages once redone
-- are those of an image that might have been left at the start
pub record MeansTheSame (old : Disk) (anchor : Anchor) (groups : List Group) (next : Anchor)
    (image : Image) : Type 0 where
  pub before : Image
  pub left : MayLeave old.now before
  pub same : (HasLog old.sizes anchor groups image × IsRedoneAs groups before groups image)
      ⊎ (HasLog old.sizes next [] image × IsRedoneAs groups before [] image)

-- images were brought home and an anchor was written, or that was cut short
pub record BringsHome (old new : Disk) (images : List PageImage) (next : Anchor) : Type 0 where
  pub writes : OnlyWrites old new (IsAtHomesOrSlot images next)
  pub any_moment : Tells old → (anchor : Anchor) (groups : List Group)
      → MayMove old anchor groups images next
      → LeavesOnly old new (MeansTheSame old anchor groups next)

-- it is done
pub record HasBroughtHome (old new : Disk) (images : List PageImage) (next : Anchor)
    : Type 0 where
  -- each image has the next anchor, no group after it, and the pages that it stood for
  pub stands : Tells old → (anchor : Anchor) (groups : List Group)
      → MayMove old anchor groups images next → LogStands new next []
  pub same : Tells old → (anchor : Anchor) (groups : List Group)
      → MayMove old anchor groups images next → (image : Image) → MayLeave new.now image
      → (before : Image) × MayLeave old.now before × IsRedoneAs groups before [] image
  -- the anchor after it finds its slot ready, on the same volume
  pub next_ready : Tells old → (anchor later : Anchor) → IsReadyFor old (Some anchor) next
      → anchor.log_vol ≡ next.log_vol → IsNext (Some next) later → later.log_vol ≡ next.log_vol
      → IsReadyFor new (Some next) later
  -- nothing is pending on the volumes of the homes, nor on that of the log
  pub synced : Tells old → AreSyncedBelow (max_volumes + 1) images new.now
  pub anchor_synced : Tells old → (k : ℕ) → new.now.unsynced next.log_vol k ≡ false
  -- and each other slot that was ready stays so
  pub others : Tells old → (anchor : Option Anchor) (vol slot : ℕ)
      → IsReadyFor old anchor next → IsReady old anchor vol slot
      → ¬ StandsIn (Some next) vol slot → IsReady new (Some next) vol slot
