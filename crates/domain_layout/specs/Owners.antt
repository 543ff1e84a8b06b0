-- To whom each page of a domain's volumes belongs.
use Rattle.std.specs.Prelude.{◌≡◌, ◌<◌, ℕ, List, true, Some, Contains, length, slice_get}
use Rattle.file_release.specs.domain_base.declared.place.CellAt.{CellAt}
use Rattle.file_release.specs.domain_base.declared.place.Home.{Home}
use Rattle.file_release.specs.page_store.Pages.{Pages}
use Rattle.file_release.specs.cell_records.declared.record.Record.{Record}
use Rattle.log_recovery.specs.disk_label.FirstPages.{first_pages}
use Rattle.log_recovery.specs.log_ring.Homes.{IsLogPage, IsMember, member_of}
use Rattle.file_release.specs.metadata_cells.Cell.{Cell, record_of}
use Rattle.file_release.specs.metadata_cells.Chain.{StandsAt}
use Rattle.file_release.specs.tag_dirs.Directory.{has_home}
use Rattle.file_release.specs.extent_maps.declared.run.PagePlace.TheVariants.{At}
use Rattle.file_release.specs.extent_records.Writing.{places_in}
use Rattle.file_release.specs.fileset_files.Shown.{index_in}
use Rattle.fileset_table.specs.declared.slot.SlotItem.{SlotItem}
use Rattle.domain_layout.specs.Layout.{Layout}
use Rattle.domain_layout.specs.Reached.{Frame, Reaches, index_way}

-- what a page may be of: the first pages of a volume, which are its label, anchors and bitmap; the
-- log; the fileset table; a table of cells; the tag directory of a slot; the index of the directory
-- whose first cell this is; or a page of the file in one of whose cells it stands
pub data Owner : Type 0 where
  of_volume : Owner
  of_log : Owner
  of_table : Owner
  of_cells : Owner
  of_tags : ℕ → Owner
  of_index : CellAt → ℕ → Owner
  of_file : CellAt → ℕ → Owner

-- a cell in use stands there, on a page of its volume's table
pub record IsOnTable (pages : Pages) (layout : Layout) (at : CellAt) (cell : Cell) : Type 0 where
  pub member : IsMember layout.anchor at.vol
  pub table : Contains (layout.cells at.vol) at.page
  pub stands : StandsAt pages at cell

abbrev pub frame_of : Layout → Frame
frame_of layout = record { anchor = layout.anchor; version = layout.version }

-- a page of the index that a cell in use names: it is come to, `number` pages after the first
pub record HasIndexPage (pages : Pages) (layout : Layout) (at : CellAt) (number : ℕ) (home : Home)
    : Type 0 where
  pub cell : Cell
  pub on : IsOnTable pages layout at cell
  pub value : Record
  pub there : record_of 9 cell.records ≡ Some value
  pub first : Home
  pub begins : index_in value ≡ Some first
  pub passed : List Home
  pub is : Reaches pages (frame_of layout) (index_way first) passed home
  pub behind : length passed ≡ number

-- a page of the tag directory of what is in a slot
pub record HasTagPage (layout : Layout) (number : ℕ) (home : Home) : Type 0 where
  pub item : SlotItem
  pub there : slice_get layout.table.slots number ≡ Some item
  pub has : has_home (layout.tags number) home ≡ true

-- a page of a file that a record of a cell in use says to stand there, whatever the file keeps
pub record HasExtent (pages : Pages) (layout : Layout) (at : CellAt) (page : ℕ) (home : Home)
    : Type 0 where
  pub cell : Cell
  pub on : IsOnTable pages layout at cell
  pub value : Record
  pub among : Contains cell.records value
  pub place : places_in value page ≡ At home

-- the page at a home belongs to this owner
abbrev pub BelongsTo : Pages → Layout → Owner → Home → Type 0
BelongsTo pages layout Owner.of_volume home = IsMember layout.anchor home.vol
    × (home.page < (first_pages layout.version (member_of layout.anchor home.vol).pages).cells)
BelongsTo pages layout Owner.of_log home = IsLogPage layout.anchor home
BelongsTo pages layout Owner.of_table home = layout.anchor.table ≡ Some home
BelongsTo pages layout Owner.of_cells home =
    IsMember layout.anchor home.vol × Contains (layout.cells home.vol) home.page
BelongsTo pages layout (Owner.of_tags number) home = HasTagPage layout number home
BelongsTo pages layout (Owner.of_index at number) home = HasIndexPage pages layout at number home
BelongsTo pages layout (Owner.of_file at page) home = HasExtent pages layout at page home

-- it belongs to some owner
abbrev pub IsOwned : Pages → Layout → Home → Type 0
IsOwned pages layout home = (owner : Owner) × BelongsTo pages layout owner home

-- no page has two owners
abbrev pub IsOwnedOnce : Pages → Layout → Type 0
IsOwnedOnce pages layout = (home : Home) (one other : Owner) → BelongsTo pages layout one home
    → BelongsTo pages layout other home → one ≡ other
