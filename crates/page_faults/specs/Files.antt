-- Where cells in use say that pages of files stand, and which rules of that are broken.
use Rattle.std.specs.Prelude.{◌≡◌, ◌⊎◌, ◌↔◌, ℕ, List, Contains}
use Rattle.tag_faults.specs.domain_base.declared.place.CellAt.{CellAt}
use Rattle.tag_faults.specs.domain_base.declared.place.Home.{Home}
use Rattle.tag_faults.specs.page_store.Pages.{Pages}
use Rattle.tag_faults.specs.cell_records.declared.record.Record.{Record}
use Rattle.tag_faults.specs.log_ring.Homes.{IsMember}
use Rattle.tag_faults.specs.metadata_cells.Cell.{Cell}
use Rattle.tag_faults.specs.metadata_cells.CellPage.{home_of}
use Rattle.tag_faults.specs.extent_maps.declared.run.PagePlace.TheVariants.{At}
use Rattle.tag_faults.specs.extent_records.Writing.{places_in}
use Rattle.tag_faults.specs.fileset_table.Table.{Table}
use Rattle.tag_faults.specs.domain_layout.CellRules.{IsCellsFault, IsUsed}
use Rattle.tag_faults.specs.domain_layout.Reached.{Frame, IsReserved, IsWithin}
use Rattle.tag_faults.specs.cell_chains.Runs.{HaveAt, on}
use Rattle.tag_faults.specs.cell_chains.declared.run.FileRun.{FileRun}
use Rattle.page_faults.specs.Owned.{IsOfTables}
use Rattle.page_faults.specs.Wrong.{HasWrongBitmap}

-- no rule of cells is broken
abbrev pub AreGoodCells : Pages → Frame → Table → Type 0
AreGoodCells pages frame table = (home : Home) → ¬ IsCellsFault pages frame table home

-- a record of a cell in use says that a page of its file stands at a home
abbrev pub HasPageAt : Pages → Frame → CellAt → ℕ → Home → Type 0
HasPageAt pages frame at page home = (cell : Cell) × IsUsed pages frame at cell
    × ((value : Record) × Contains cell.records value × (places_in value page ≡ At home))

-- the runs have those pages, and no others
abbrev pub AreFilePages : Pages → Frame → List FileRun → Type 0
AreFilePages pages frame runs = (at : CellAt) (page : ℕ) (home : Home) → HaveAt runs at page home
    ↔ HasPageAt pages frame at page home

-- the page at a home is one of label, anchors, bitmap or log, or one of a table
abbrev pub IsNoFiles : Pages → Frame → Table → Home → Type 0
IsNoFiles pages frame table home = IsReserved frame home ⊎ IsOfTables pages frame table home

-- a cell says that a page of its file stands at a home that is none of a member's, is no file's, or
-- has another page of a file
pub record SaysWrongPage (pages : Pages) (frame : Frame) (table : Table) (at : CellAt) : Type 0
  where
    pub page : ℕ
    pub home : Home
    pub has : HasPageAt pages frame at page home
    pub wrong : ¬ IsWithin frame home ⊎ IsNoFiles pages frame table home
        ⊎ ((other : CellAt) × (number : ℕ) × HasPageAt pages frame other number home
        × ¬ ((other ≡ at) × (number ≡ page)))

-- some cell of a page does
abbrev pub HasWrongPage : Pages → Frame → Table → Home → Type 0
HasWrongPage pages frame table home =
    (at : CellAt) × (home_of at ≡ home) × SaysWrongPage pages frame table at

-- the page at a home is no file's, or one of a file's
abbrev pub IsTakenPage : Pages → Frame → Table → Home → Type 0
IsTakenPage pages frame table home = IsNoFiles pages frame table home
    ⊎ ((at : CellAt) × (page : ℕ) × HasPageAt pages frame at page home)

-- a page of some member's bitmap has a wrong bit by that
abbrev pub HasWrongBit : Pages → Frame → Table → Home → Type 0
HasWrongBit pages frame table home = (vol : ℕ) × IsMember frame.anchor vol
    × HasWrongBitmap pages frame (λ n. IsTakenPage pages frame table (on vol n)) vol home
