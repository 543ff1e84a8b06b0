-- What is wrong with one page of cells.
use Rattle.std.specs.Prelude.{◌≡◌, ◌⊎◌, ◌≤◌, ℕ, List}
use Rattle.std.specs.List.{AllByRecursion}
use Rattle.page_ways.specs.domain_base.declared.place.CellAt.{CellAt}
use Rattle.page_ways.specs.domain_base.declared.version.Version.{Version}
use Rattle.page_ways.specs.page_store.Pages.{Pages}
use Rattle.page_ways.specs.cell_records.Fields.{number_at}
use Rattle.page_ways.specs.cell_records.Records.{kind_of, last_kind}
use Rattle.page_ways.specs.metadata_cells.Cell.{Cell, IsFreeCell}
use Rattle.page_ways.specs.metadata_cells.CellPage.{cell_of, free_cells, index_of}
use Rattle.page_ways.specs.metadata_cells.Chain.{StandsAt}

-- it has another index than its place, or another count of free cells than it has
abbrev pub IsWrongHeader : List ℕ → ℕ → Type 0
IsWrongHeader page place = ¬ index_of page ≡ place ⊎ ¬ number_at 2 12 page ≡ free_cells page
    ⊎ ¬ number_at 2 14 page ≡ 0

-- a cell of it is not free, and none that the version has stands there
abbrev pub HasNoCell : Pages → Version → List ℕ → CellAt → Type 0
HasNoCell pages version page at = ¬ IsFreeCell (cell_of page at.cell)
    × ((cell : Cell) → StandsAt pages at cell
    → ¬ AllByRecursion (λ r. kind_of r ≤ last_kind version) cell.records)
