-- What records and cells say, as numbers.
use Rattle.std.specs.Prelude.{◌≡◌, ℕ, List, Contains}
use Rattle.metadata_cells.specs.domain_base.declared.place.CellAt.{CellAt}
use Rattle.metadata_cells.specs.domain_base.declared.place.Home.{Home}
use Rattle.metadata_cells.specs.page_store.Pages.{Pages}
use Rattle.metadata_cells.specs.cell_records.declared.record.Record.{Record}
use Rattle.metadata_cells.specs.Cell.{Cell, place_of}
use Rattle.metadata_cells.specs.CellPage.{home_of}
use Rattle.metadata_cells.specs.Chain.{StandsAt}
use Rattle.extent_records.specs.extent_maps.declared.run.PagePlace.TheVariants.{Absent}
use Rattle.extent_records.specs.Writing.{places_in}
use Rattle.cell_chains.specs.Chains.{IsListed}
use Rattle.cell_chains.specs.declared.said.Said.{Said}
use Rattle.cell_chains.specs.declared.said.Said.TheVariants as said

-- a record says a page where its rows have it, or says the number of its kind and its owner
abbrev pub Says : Said → Record → ℕ → Type 0
Says said.Pages r n = ¬ places_in r n ≡ Absent
Says said.Limits r n = place_of r ≡ n

-- so does some record
abbrev pub SaysAny : Said → List Record → ℕ → Type 0
SaysAny what records n = (r : Record) × Contains records r × Says what r n

-- so does a record of the cell that stands at a place
abbrev pub SaysAt : Pages → Said → CellAt → ℕ → Type 0
SaysAt pages what at n = (cell : Cell) × StandsAt pages at cell × SaysAny what cell.records n

-- two cells say one number
abbrev pub SaySame : Pages → Said → CellAt → CellAt → Type 0
SaySame pages what before at = (n : ℕ) × SaysAt pages what before n × SaysAt pages what at n

-- of a list, a cell on the page says what one before it says
abbrev pub SaysAgain : Pages → Said → List CellAt → Home → Type 0
SaysAgain pages what cells home = (passed : List CellAt) × (at : CellAt) × IsListed cells passed at
    × (home_of at ≡ home) × (before : CellAt) × Contains passed before
    × SaySame pages what before at
