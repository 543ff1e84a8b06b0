-- What a domain is read of, and why it is not attached.
use Rattle.std.specs.Prelude.{◌≡◌, ◌≤◌, ℕ, true, Some, slice_get}
use Rattle.no_faults.specs.domain_base.Version.{most_pages}
use Rattle.no_faults.specs.domain_base.declared.place.CellAt.{CellAt}
use Rattle.no_faults.specs.domain_base.declared.place.Home.{Home}
use Rattle.no_faults.specs.page_store.Pages.{Pages}
use Rattle.no_faults.specs.log_recovery.Range.{IsLogInside}
use Rattle.no_faults.specs.log_ring.Homes.{IsMember, member_of}
use Rattle.no_faults.specs.fileset_table.declared.slot.SlotItem.{SlotItem}
use Rattle.no_faults.specs.domain_standing.Marks.{HasBitmaps}
use Rattle.no_faults.specs.domain_layout.CellRules.{of_clone}
use Rattle.no_faults.specs.domain_layout.Faults.{HasNoFault}
use Rattle.no_faults.specs.domain_layout.Layout.{IsLayout, Layout}
use Rattle.no_faults.specs.domain_layout.Owners.{frame_of}
use Rattle.no_faults.specs.domain_layout.Reached.{Frame, IsWithin}
use Rattle.no_faults.specs.filesets_reading.Good.{IsNamed}
use Rattle.no_faults.specs.fileset_shapes.Found.{HasAllPages}
use Rattle.no_faults.specs.Attached.{HaveQuotasToGo}
use Rattle.no_faults.specs.domain_standing.Sources.{HasSource}
use Rattle.attached_domain.specs.Signs.{ItemSays}
use Rattle.attached_domain.specs.declared.signs.Sign.{Sign}
use Rattle.attached_domain.specs.declared.signs.Sign.TheVariants.{Cut, Removed}
use Rattle.attached_domain.specs.declared.unfit.Unfit.{Unfit}
use Rattle.attached_domain.specs.declared.unfit.Unfit.TheVariants.{Cloned, CutDirectory, OutOfMemory, ReadThrough, RemovedFile, WrongQuotas}

-- pages that break no rule, with each page of a file and of a bitmap that stands on a member, by an
-- anchor whose log, table and members lie where they may
pub record MayBeRead (pages : Pages) (frame : Frame) : Type 0 where
  pub named : IsNamed frame.anchor frame.version
  pub no_fault : HasNoFault pages frame
  pub all : HasAllPages pages frame
  pub log : IsLogInside frame.version frame.anchor
  pub few : (vol : ℕ) → IsMember frame.anchor vol
      → (member_of frame.anchor vol).pages ≤ most_pages frame.version
  pub within : (home : Home) → frame.anchor.table ≡ Some home → IsWithin frame home
  pub bitmaps : HasBitmaps pages frame

-- ** What no rule asks

-- a slot has a clone
abbrev pub HasClone : Layout → Type 0
HasClone layout = (number : ℕ) × (of_clone (slice_get layout.table.slots number) ≡ true)

-- a sign is looked for in what is in a slot, and a tag of it leads to a cell with that sign
pub record HasSign (pages : Pages) (sign : Sign) (layout : Layout) : Type 0 where
  pub number : ℕ
  pub item : SlotItem
  pub there : slice_get layout.table.slots number ≡ Some item
  pub says : ItemSays pages sign item (layout.tags number)

-- why a domain that is laid out so is not attached; want of memory is no cause in its pages
abbrev pub IsCause : Pages → Layout → Unfit → Type 0
IsCause pages layout Cloned = HasClone layout
IsCause pages layout ReadThrough = (at : CellAt) × HasSource pages layout at
IsCause pages layout WrongQuotas = ¬ HaveQuotasToGo pages (frame_of layout) layout.table
IsCause pages layout RemovedFile = HasSign pages Removed layout
IsCause pages layout CutDirectory = HasSign pages Cut layout
IsCause pages layout OutOfMemory = ⊥

-- the pages are laid out so that there is that cause
pub record HasCause (pages : Pages) (frame : Frame) (unfit : Unfit) : Type 0 where
  pub layout : Layout
  pub framed : frame_of layout ≡ frame
  pub laid : IsLayout pages layout
  pub cause : IsCause pages layout unfit

-- the pages have the cause why a domain is not attached; for want of memory nothing is told of them
abbrev pub IsUnfit : Pages → Frame → Unfit → Type 0
IsUnfit pages frame OutOfMemory = Unit {0}
IsUnfit pages frame unfit = HasCause pages frame unfit
