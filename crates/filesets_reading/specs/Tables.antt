-- The tables that were read of a domain.
use Rattle.std.specs.Prelude.{◌≡◌, ◌^◌, ◌<◌, ◌≤◌, ℕ, List, Some, IsSomeAnd, length, slice_get}
use Rattle.domain_layout.specs.page_store.Pages.{Pages}
use Rattle.domain_layout.specs.log_ring.Homes.{IsMember, member_of}
use Rattle.domain_layout.specs.tag_dirs.declared.dir.TagPlace.{TagPlace}
use Rattle.domain_layout.specs.fileset_table.Table.{Table}
use Rattle.domain_layout.specs.fileset_table.declared.slot.SlotItem.{SlotItem}
use Rattle.domain_layout.specs.Layout.{AreTagPlaces, IsCellTable, IsLayout, Layout, first_tag_of}
use Rattle.domain_layout.specs.Owners.{frame_of}
use Rattle.domain_layout.specs.Reached.{Frame, first_cells}
use Rattle.filesets_reading.specs.declared.tables.DomainTables.{DomainTables}

-- a volume has a table of cells, if it is a member, and no more pages than four bytes say
abbrev pub HasCellTable : Pages → Frame → ℕ → Type 0
HasCellTable pages frame vol = IsMember frame.anchor vol
    → ((member_of frame.anchor vol).pages ≤ 2 ^ 32) × (table : List ℕ)
    × IsCellTable pages vol (first_cells frame vol) table

-- and so has each volume below this one
abbrev pub HaveCellTables : ℕ → Pages → Frame → Type 0
HaveCellTables n pages frame = (vol : ℕ) → 1 ≤ vol → vol < n → HasCellTable pages frame vol

-- these are the pages of the tag directory of what is in a slot
abbrev pub HasTagsOf : Pages → Table → ℕ → List TagPlace → Type 0
HasTagsOf pages table number places = (item : SlotItem) → slice_get table.slots number ≡ Some item
    → AreTagPlaces pages (first_tag_of item) places

-- and these those of each slot below the length of the list
abbrev pub AreTagsOf : Pages → Table → List (List TagPlace) → Type 0
AreTagsOf pages table tags = (number : ℕ) → number < 32
    → IsSomeAnd (slice_get tags number) (HasTagsOf pages table number)

-- pages are laid out as a domain's with these tables
pub record AreTablesOf (pages : Pages) (frame : Frame) (tables : DomainTables) : Type 0 where
  pub layout : Layout
  pub is : frame_of layout ≡ frame
  pub laid : IsLayout pages layout
  pub table : layout.table ≡ tables.filesets
  pub all : 32 ≤ length tables.tags.items
  pub small : (vol : ℕ) → IsMember frame.anchor vol → (member_of frame.anchor vol).pages ≤ 2 ^ 32
  pub tags : (number : ℕ) (places : List TagPlace)
      → slice_get tables.tags.items number ≡ Some places → layout.tags number ≡ places
