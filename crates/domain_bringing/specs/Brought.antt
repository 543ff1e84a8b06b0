-- The pages of a domain as they are brought from a rack.
use Rattle.std.specs.Prelude.{◌≡◌, ◌+◌, ◌/◌, ◌<◌, ◌≤◌, ℕ, List, Some, IsSome}
use Rattle.domain_faults.specs.domain_base.Version.{most_pages}
use Rattle.domain_faults.specs.domain_base.declared.place.Home.{Home}
use Rattle.domain_faults.specs.page_store.Pages.{Pages}
use Rattle.domain_faults.specs.log_ring.Images.{image_at}
use Rattle.domain_faults.specs.log_ring.declared.image.PageImage.{PageImage}
use Rattle.domain_faults.specs.volume_disk.Image.{Image}
use Rattle.domain_faults.specs.log_ring.Groups.{Group, redone}
use Rattle.domain_faults.specs.log_ring.Homes.{IsMember, member_of}
use Rattle.domain_faults.specs.log_recovery.Outcome.{HasRecovered, IsSound}
use Rattle.domain_faults.specs.log_recovery.Range.{IsLogInside}
use Rattle.domain_faults.specs.log_recovery.declared.redone.Redone.{Redone}
use Rattle.domain_faults.specs.fileset_model.Filesets.{FilesetMap}
use Rattle.domain_faults.specs.domain_layout.Faults.{HasNoFault}
use Rattle.domain_faults.specs.domain_layout.Layout.{IsLayout, Layout}
use Rattle.domain_faults.specs.domain_layout.Owners.{frame_of}
use Rattle.domain_faults.specs.domain_layout.Reached.{Frame}
use Rattle.domain_faults.specs.domain_layout.Read.{ReadsFrom}
use Rattle.staged_pages.specs.Store.{before_of, pages_of}
use Rattle.domain_faults.specs.page_ways.Frame.{frame_in}
use Rattle.domain_faults.specs.filesets_reading.Good.{IsNamed}
use Rattle.domain_faults.specs.fileset_shapes.Found.{HasAllPages}
use Rattle.domain_faults.specs.fileset_shapes.Within.{IsInside}
use Rattle.image_loading.specs.Loading.{HasWhereRulesLook}
use Rattle.domain_bringing.specs.declared.bringing.Brought.{Brought}

-- ** What is in memory

-- pages are laid out as a domain's are
pub record IsLaidOut (pages : Pages) (frame : Frame) : Type 0 where
  pub layout : Layout
  pub is : frame_of layout ≡ frame
  pub laid : IsLayout pages layout

-- they break no rule, and each at which the rules look is there, and each of a file
pub record HasDomainPages (pages : Pages) (frame : Frame) : Type 0 where
  pub laid_out : IsLaidOut pages frame
  pub no_fault : HasNoFault pages frame
  pub looked : HasWhereRulesLook pages frame
  pub all : HasAllPages pages frame

-- the pages of the bitmaps of members are there
abbrev pub HasBitmaps : Pages → Frame → Type 0
HasBitmaps pages frame = (vol page : ℕ) → IsMember frame.anchor vol
    → page < (member_of frame.anchor vol).pages
    → IsSome (pages (record { vol = vol; page = 2 + page / 65536 }))

-- an anchor names its version and a fileset table, and what it says lies within the members
pub record IsGoodFrame (frame : Frame) : Type 0 where
  pub named : IsNamed frame.anchor frame.version
  pub inside : IsInside frame
  pub log : IsLogInside frame.version frame.anchor
  pub few : (vol : ℕ) → IsMember frame.anchor vol
      → (member_of frame.anchor vol).pages ≤ most_pages frame.version

-- the pages of a domain with such an anchor, which have some filesets
pub record IsWholeDomain (pages : Pages) (frame : Frame) : Type 0 where
  pub good : IsGoodFrame frame
  pub has : HasDomainPages pages frame
  pub all : FilesetMap
  pub reads : (home : Home) → frame.anchor.table ≡ Some home → ReadsFrom pages home all

-- so are those that are brought from a rack with volumes of these sizes; no change is laid over
-- them, and the log that was recovered may be settled
pub record IsBrought (sizes : List ℕ) (brought : Brought) : Type 0 where
  pub settled : pages_of brought.pages ≡ before_of brought.pages
  pub anchor : brought.frame.anchor ≡ brought.redone.anchor
  pub sound : IsSound sizes brought.redone
  pub whole : IsWholeDomain (before_of brought.pages) (frame_in brought.frame)

-- ** What the rack has

-- the last image of each home, where no page stands beside images
abbrev pub images_alone : List PageImage → Pages
images_alone images home = image_at home images

-- each page that is there is the one of an image once these groups are redone
abbrev pub ArePagesOf : Pages → List Group → Image → Type 0
ArePagesOf pages groups image =
    (home : Home) → IsSome (pages home) → pages home ≡ redone groups image home

-- the log of an image was recovered, and pages are those of it
pub record IsBroughtFrom (sizes : List ℕ) (image : Image) (pages : Pages) (found : Redone) : Type 0
  where
    pub groups : List Group
    pub recovered : HasRecovered sizes image groups found
    pub same : ArePagesOf pages groups image
