-- Pages of tables, of tag directories and of indexes.
use Rattle.std.specs.Prelude.{◌≡◌, ◌⊎◌, ◌↔◌, ℕ, List, Some, Contains}
use Rattle.tag_faults.specs.domain_base.declared.place.CellAt.{CellAt}
use Rattle.tag_faults.specs.domain_base.declared.place.Home.{Home}
use Rattle.tag_faults.specs.page_store.Pages.{Pages}
use Rattle.tag_faults.specs.fileset_table.Table.{Table}
use Rattle.tag_faults.specs.domain_layout.DirectoryRules.{HasIndexAt}
use Rattle.tag_faults.specs.domain_layout.Reached.{Frame, IsReserved, Reaches, Way, index_way}
use Rattle.tag_faults.specs.cell_faults.Tables.{IsCellsHome}
use Rattle.tag_faults.specs.cell_faults.declared.tables.CellsPage.{CellsPage}
use Rattle.tag_faults.specs.Directories.{HasPage}

-- a page is come to
abbrev pub IsReached : Pages → Frame → Way → Home → Type 0
IsReached pages frame way home = (passed : List Home) × Reaches pages frame way passed home

-- a page of the index that a cell in use names is come to
abbrev pub IsIndexOf : Pages → Frame → CellAt → Home → Type 0
IsIndexOf pages frame at home =
    (first : Home) × HasIndexAt pages frame at first × IsReached pages frame (index_way first) home

-- the page is one of an index that some cell in use names
abbrev pub IsOfIndex : Pages → Frame → Home → Type 0
IsOfIndex pages frame home = (at : CellAt) × IsIndexOf pages frame at home

-- a page of some slot's tag directory
abbrev pub IsOfTags : Pages → Frame → Table → Home → Type 0
IsOfTags pages frame table home = (number : ℕ) × HasPage pages frame table number home

-- the table of filesets, a page of cells, one of tags, or one of an index
abbrev pub IsOfTables : Pages → Frame → Table → Home → Type 0
IsOfTables pages frame table home = (frame.anchor.table ≡ Some home)
    ⊎ IsCellsHome pages frame home ⊎ IsOfTags pages frame table home
    ⊎ IsOfIndex pages frame home

-- those pages are listed
abbrev pub AreOfTables : Pages → Frame → Table → List Home → Type 0
AreOfTables pages frame table homes =
    (home : Home) → Contains homes home ↔ IsOfTables pages frame table home

-- some of the pages of cells stands there
abbrev pub IsListed : List CellsPage → Home → Type 0
IsListed read home = (page : CellsPage) × Contains read page × (page.home ≡ home)

-- a page of label, anchors, bitmap or log, or one of those homes
abbrev pub IsTaken : Frame → List Home → Home → Type 0
IsTaken frame homes home = IsReserved frame home ⊎ Contains homes home
