-- What holds of logs, whatever calls are made.
use Rattle.std.specs.Prelude.{◌≡◌, ◌⊎◌, ◌+◌, ◌++◌, ℕ, List, [], ◌∷◌, IfSome, IsSome, Some}
use Rattle.disk_label.specs.domain_base.declared.place.Home.{Home}
use Rattle.disk_label.specs.volume_disk.Disk.{Disk, Tells}
use Rattle.disk_label.specs.volume_disk.Image.{Image, Places, SameIn, page_at}
use Rattle.disk_label.specs.volume_disk.Run.{LeavesOnly, Touches, TouchesEach, end_of}
use Rattle.disk_label.specs.Anchor.{IsAnchor}
use Rattle.disk_label.specs.Slot.{IsOnAnchors}
use Rattle.disk_label.specs.declared.anchor.Anchor.{Anchor}
use Rattle.log_ring.specs.Images.{image_at, overlaid}
use Rattle.log_ring.specs.declared.image.PageImage.{PageImage}
use Rattle.log_ring.specs.Groups.{AreGroups, Group, HasLog, LogStands, images_of, pages_in, redone, span}
use Rattle.log_ring.specs.Ring.{IsOnLog, IsOnPlaces, ring_byte}

-- Frames.

-- neither on the pages of anchors nor on the ring of this log
abbrev pub IsElsewhere : Anchor → Places
IsElsewhere anchor v k = (¬ IsOnAnchors v k) × (¬ IsOnLog anchor v k)

-- calls that touch no more leave the log, now and at each moment since
pub record LogStays (old new : Disk) (anchor : Anchor) (groups : List Group) : Type 0 where
  pub now : LogStands new anchor groups
  pub any_moment : LeavesOnly old new (HasLog old.sizes anchor groups)

-- a run of calls that touches neither the pages of anchors nor the ring leaves the log of each
-- image
abbrev pub KeepsLog : Disk → Disk → Anchor → List Group → Type 0
KeepsLog old new anchor groups =
    Tells old → LogStands old anchor groups → Touches old new (IsElsewhere anchor)
    → LogStays old new anchor groups

-- any number of such runs leaves the log of each image too
abbrev pub KeepsLogAlong : Disk → List Disk → Anchor → List Group → Type 0
KeepsLogAlong old disks anchor groups =
    Tells old → LogStands old anchor groups → TouchesEach (IsElsewhere anchor) old disks
    → LogStays old (end_of old disks) anchor groups

-- and calls on the pages of anchors that leave the anchor of each image
abbrev pub KeepsLogBeside : Disk → Disk → Anchor → List Group → Type 0
KeepsLogBeside old new anchor groups =
    Tells old → LogStands old anchor groups → Touches old new (λ v k. ¬ IsOnLog anchor v k)
    → LeavesOnly old new (λ image. IsAnchor old.sizes image (Some anchor))
    → LogStays old new anchor groups

-- Groups.

-- from a place on an image has one list of groups at most
abbrev pub HaveOneWay : Anchor → ℕ → ℕ → List Group → List Group → Image → Type 0
HaveOneWay anchor place number groups others image =
    AreGroups anchor place number groups image → AreGroups anchor place number others image
    → groups ≡ others

-- the places that these groups take, and the first byte of the next gate
abbrev pub IsRead : Anchor → ℕ → List Group → Places
IsRead anchor place groups v k =
    IsOnPlaces anchor place (span groups) v k
    ⊎ ((v ≡ anchor.log_vol) × (k ≡ ring_byte anchor (place + span groups)))

-- images that agree there have the same groups
abbrev pub DependsOnRead : Anchor → ℕ → ℕ → List Group → Image → Image → Type 0
DependsOnRead anchor place number groups old new =
    SameIn (IsRead anchor place groups) old new
    → AreGroups anchor place number groups old → AreGroups anchor place number groups new

-- and all of it lies on the ring
abbrev pub IsReadOnLog : Anchor → ℕ → List Group → Type 0
IsReadOnLog anchor place groups =
    (v k : ℕ) → IsRead anchor place groups v k → IsOnLog anchor v k

-- Redone pages.

-- some image of these groups has this home
abbrev pub IsLogged : List Group → Home → Type 0
IsLogged groups home = IsSome (image_at home (images_of groups))

-- one more group is one more overlay
abbrev pub RedoesOneMore : List Group → Group → Image → Type 0
RedoesOneMore groups group image =
    redone (groups ++ group ∷ []) image ≡ overlaid group.images (redone groups image)

-- a page is the same once redone if a group has it, or if the images agree on it
abbrev pub RedoesAlike : List Group → Image → Image → Type 0
RedoesAlike groups old new =
    (home : Home) → IsLogged groups home ⊎ (pages_in new home ≡ pages_in old home)
    → redone groups new home ≡ redone groups old home

-- each home has the last image of it
abbrev pub AreHome : List PageImage → Image → Type 0
AreHome images image =
    (home : Home)
    → IfSome (image_at home images) (λ page. page_at image home.vol home.page ≡ page)

-- then redoing them changes nothing
abbrev pub RedoesNothing : List Group → Image → Type 0
RedoesNothing groups image =
    AreHome (images_of groups) image
    → (home : Home) → redone groups image home ≡ pages_in image home
