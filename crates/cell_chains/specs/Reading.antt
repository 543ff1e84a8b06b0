-- The runs that cells in use say.
use Rattle.std.specs.Prelude.{◌≡◌, ◌⊎◌, ◌↔◌, ◌==◌, ℕ, List, [], ◌∷◌, Contains, if◌then◌else◌}
use Rattle.std.specs.List.{flat_map}
use Rattle.metadata_cells.specs.domain_base.declared.place.CellAt.{CellAt}
use Rattle.metadata_cells.specs.domain_base.declared.place.Home.{Home}
use Rattle.metadata_cells.specs.page_store.Pages.{Pages}
use Rattle.metadata_cells.specs.cell_records.declared.record.ExtentField.{ExtentField}
use Rattle.metadata_cells.specs.cell_records.declared.record.Record.{Record}
use Rattle.metadata_cells.specs.cell_records.declared.record.Record.TheVariants as written
use Rattle.metadata_cells.specs.Cell.{Cell}
use Rattle.metadata_cells.specs.Chain.{StandsAt}
use Rattle.extent_records.specs.extent_maps.declared.run.PagePlace.TheVariants.{At}
use Rattle.extent_records.specs.Rows.{NoPageTwice, runs_of}
use Rattle.extent_records.specs.Writing.{places_in}
use Rattle.cell_chains.specs.Links.{IsInUse}
use Rattle.cell_chains.specs.declared.links.CellLinks.{CellLinks}
use Rattle.cell_chains.specs.Runs.{AreApart, HaveAt}
use Rattle.cell_chains.specs.declared.run.FileRun.{FileRun}

-- the rows of a record that say where pages stand
abbrev pub rows_in : Record → List ExtentField
rows_in (written.Extents rows) = rows
rows_in (written.ShortExtents rows) = rows
rows_in (written.DenseExtents rows) = rows
rows_in (written.ShortDense rows) = rows
rows_in _ = []

-- those that have pages, as runs of a cell
abbrev pub runs_at : CellAt → List ExtentField → List FileRun
runs_at at [] = []
runs_at at (row ∷ rows) =
    if row.count == 0 then runs_at at rows
    else (record { at = at; row = row }) ∷ runs_at at rows

-- the same of a record, and of the records of a cell
abbrev pub runs_in : CellAt → Record → List FileRun
runs_in at value = runs_at at (rows_in value)

-- the runs that the records of a cell say
abbrev pub runs_from : CellAt → List Record → List FileRun
runs_from at records = flat_map (runs_in at) records

-- a run that the cell at a place says
abbrev pub IsRunAt : Pages → FileRun → CellAt → Type 0
IsRunAt pages run at =
    (cell : Cell) × StandsAt pages at cell × Contains (runs_from at cell.records) run

-- a record of the cell at a place says that a page of a file stands at a home
abbrev pub SaysPlace : Pages → CellAt → ℕ → Home → Type 0
SaysPlace pages at page home = (cell : Cell) × StandsAt pages at cell
    × ((value : Record) × Contains cell.records value × (places_in value page ≡ At home))

-- no cell at a place has a page of its file in two rows
abbrev pub HasOneMap : Pages → CellAt → Type 0
HasOneMap pages at =
    (cell : Cell) → StandsAt pages at cell → NoPageTwice (runs_of cell.records)

-- none of the runs is of a cell
abbrev pub AreElsewhere : CellAt → List FileRun → Type 0
AreElsewhere at runs = (run : FileRun) → Contains runs run → ¬ run.at ≡ at

-- the runs of the cell at a place are put after others
pub record ArePut (pages : Pages) (at : CellAt) (old new : List FileRun) : Type 0 where
  pub each : (run : FileRun) → Contains new run ↔ (Contains old run ⊎ IsRunAt pages run at)
  pub apart : HasOneMap pages at → AreElsewhere at old → AreApart old → AreApart new

-- a run that a cell in use says
abbrev pub IsRun : Pages → CellLinks → FileRun → Type 0
IsRun pages links run = IsInUse links run.at × IsRunAt pages run run.at

-- each cell in use has each page of its file in one row at most
abbrev pub HaveOneMap : Pages → CellLinks → Type 0
HaveOneMap pages links = (at : CellAt) → IsInUse links at → HasOneMap pages at

-- the runs have each page of a file where a cell in use says that it stands, and no others
abbrev pub AreSaid : Pages → CellLinks → List FileRun → Type 0
AreSaid pages links runs = (at : CellAt) (page : ℕ) (home : Home) → HaveAt runs at page home
    ↔ (IsInUse links at × SaysPlace pages at page home)
