-- Groups of the log that are read one after the other, up to the first place that has none.
use Rattle.std.specs.Prelude.{◌≡◌, ◌+◌, ◌≤◌, ◌++◌, ℕ, List, [], ◌∷◌, Bool, true, false, All, length}
use Rattle.log_ring.specs.domain_base.Limits.{log_pages}
use Rattle.log_ring.specs.domain_base.declared.place.Home.{Home}
use Rattle.log_ring.specs.volume_disk.Disk.{Disk, Tells}
use Rattle.log_ring.specs.volume_disk.Image.{Image}
use Rattle.log_ring.specs.disk_label.declared.anchor.Anchor.{Anchor}
use Rattle.log_ring.specs.Header.{IsSayable}
use Rattle.log_ring.specs.Images.{homes_of}
use Rattle.log_ring.specs.declared.header.Header.{Header}
use Rattle.log_ring.specs.declared.header.HeaderRead.{HeaderRead}
use Rattle.log_ring.specs.declared.header.HeaderRead.TheVariants.{Closed, Group as AGroup, Bad}
use Rattle.log_ring.specs.declared.image.PageImage.{PageImage}
use Rattle.log_ring.specs.Groups.{AreImagesAt, FitsRing, Group, HasGroup, images_of, span}
use Rattle.log_ring.specs.Homes.{IsLoggable}
use Rattle.log_ring.specs.Ring.{IsGateOpen, ring_page}
use Rattle.log_recovery.specs.declared.scan.Scan.{Scan}

-- these groups stand one after the other from this place on, with numbers that go up by one from
-- this one, whatever stands after them
abbrev pub AreInTurn : Anchor → ℕ → ℕ → List Group → Image → Type 0
AreInTurn anchor place number [] image = Unit {0}
AreInTurn anchor place number (group ∷ more) image =
    (group.number ≡ number)
    × HasGroup image anchor place group
    × AreInTurn anchor (place + 1 + length group.images) (number + 1) more image

-- the next group may stand `used` places after the start: it has this number, it is what stands
-- there, and the header after it is not a place that is in use
pub record IsNextGroup (image : Image) (anchor : Anchor) (used number : ℕ) (group : Group)
    : Type 0 where
  pub numbered : group.number ≡ number
  pub stands : HasGroup image anchor (anchor.start + used) group
  pub fits : used + (1 + length group.images) + 1 ≤ log_pages

-- a gate is open there, and no group that may be the next follows it
pub record IsNoGroup (image : Image) (anchor : Anchor) (used number : ℕ) : Type 0 where
  pub is_open : IsGateOpen image anchor (anchor.start + used)
  pub none : (group : Group) → ¬ IsNextGroup image anchor used number group

-- What was read of the log.

-- these groups from the start on
pub record HasScanned (image : Image) (anchor : Anchor) (groups : List Group) (scan : Scan)
    : Type 0 where
  pub stand : AreInTurn anchor anchor.start anchor.group groups image
  pub fits : FitsRing groups
  pub images : images_of groups ≡ scan.images.items
  pub used : span groups ≡ scan.used
  pub next : anchor.group + length groups ≡ scan.next

-- what is read of a header may be said
abbrev pub IsSaid : HeaderRead → Type 0
IsSaid (AGroup header) = IsSayable header
IsSaid Closed = Unit {0}
IsSaid Bad = Unit {0}

-- each of these homes may be logged
abbrev pub AreAllLoggable : Anchor → List Home → Type 0
AreAllLoggable anchor homes = All (IsLoggable anchor) homes

-- a header may be that of the next group
pub record MayBeNext (anchor : Anchor) (used number : ℕ) (header : Header) : Type 0 where
  pub numbered : header.number ≡ number
  pub fits : used + (1 + length header.homes) + 1 ≤ log_pages
  pub loggable : AreAllLoggable anchor header.homes

-- images at these homes were read from this place on
pub record AddsImages (disk : Disk) (anchor : Anchor) (place : ℕ) (homes : List Home)
    (old new : List PageImage) : Type 0 where
  pub added : List PageImage
  pub is : new ≡ old ++ added
  pub at : homes_of added ≡ homes
  pub there : Tells disk → AreImagesAt disk.now.contents anchor place added

-- the images of the group with this header were read
pub record TakesGroup (disk : Disk) (anchor : Anchor) (header : Header) (old new : Scan)
    : Type 0 where
  pub images : AddsImages disk anchor (anchor.start + old.used + 1) header.homes
      old.images.items new.images.items
  pub used : new.used ≡ old.used + (1 + length header.homes)
  pub next : new.next ≡ old.next + 1

-- one group more was read, or none since the gate is closed
abbrev pub IsOneMore : Image → Anchor → List Group → Scan → Scan → Bool → Type 0
IsOneMore image anchor groups old new true =
    (group : Group) × HasScanned image anchor (groups ++ group ∷ []) new
IsOneMore image anchor groups old new false =
    HasScanned image anchor groups new × (¬ IsGateOpen image anchor (anchor.start + new.used))

-- all groups up to the first closed gate were read
pub record HasScannedAll (image : Image) (anchor : Anchor) (scan : Scan) : Type 0 where
  pub groups : List Group
  pub scanned : HasScanned image anchor groups scan
  pub closed : ¬ IsGateOpen image anchor (anchor.start + scan.used)

-- after some groups from the start on, this page has an open gate, but no group that may be next
pub record IsFirstNoGroup (image : Image) (anchor : Anchor) (vol at : ℕ) : Type 0 where
  pub groups : List Group
  pub stand : AreInTurn anchor anchor.start anchor.group groups image
  pub fits : FitsRing groups
  pub wrong : IsNoGroup image anchor (span groups) (anchor.group + length groups)
  pub volume : vol ≡ anchor.log_vol
  pub page : at ≡ ring_page anchor (anchor.start + span groups)
