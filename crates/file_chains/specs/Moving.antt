-- A page of a file put at another home where the record that has it is full.
use Rattle.std.specs.Prelude.{◌≡◌, ◌⊎◌, ◌≤◌, ◌||◌, ℕ, List, [], ◌∷◌, Some}
use Rattle.free_cells.specs.domain_base.Page.{zero_bytes}
use Rattle.free_cells.specs.domain_base.declared.place.CellAt.{CellAt}
use Rattle.free_cells.specs.domain_base.declared.version.Version.{Version}
use Rattle.free_cells.specs.page_store.Pages.{Pages}
use Rattle.free_cells.specs.cell_records.declared.record.Record.{Record}
use Rattle.free_cells.specs.cell_records.Records.{kind_of}
use Rattle.free_cells.specs.metadata_cells.declared.head.CellKind.TheVariants.{Chain}
use Rattle.free_cells.specs.metadata_cells.Cell.{Cell}
use Rattle.free_cells.specs.metadata_cells.CellPage.{cell_at}
use Rattle.free_cells.specs.metadata_cells.Chain.{LeavesOthers, PlacedCell, StandsAt, is_at}
use Rattle.extent_records.specs.extent_maps.declared.run.PagePlace.{PagePlace}
use Rattle.extent_records.specs.extent_maps.Runs.{with_place}
use Rattle.extent_records.specs.Chains.{ArePartsFor}
use Rattle.extent_records.specs.Writing.{chain_kind, places_in}
use Rattle.free_cells.specs.Cells.{Cells}
use Rattle.free_cells.specs.free_space.Spaces.{Spaces}
use Rattle.file_chains.specs.Allocated.{Takes}
use Rattle.file_chains.specs.Changes.{with_kind}
use Rattle.file_chains.specs.MapChanges.{HolderIsFull, TakesOne}

-- no cell is handed out, or one is since the record of the chain that has the page cannot have it
-- at that place
abbrev pub TakesIfHolderFull : ℕ → PagePlace → List PlacedCell → ℕ → Spaces → Spaces → Cells
    → Cells → Pages → Type 0
TakesIfHolderFull page place chain prefer space space_now cells cells_now old =
    ((space_now ≡ space) × (cells_now ≡ cells))
    ⊎ (HolderIsFull page place chain × TakesOne prefer space space_now cells cells_now old)

-- ** What the functions within the crate ask and answer

-- a cell with a record in place of those of that kind, which leads to a cell
abbrev pub front_cell : CellAt → ℕ → Record → Cell → Cell
front_cell next kind front cell = record {
  head = record cell.head { next = Some next };
  records = with_kind kind (Some front) cell.records;
}

-- a chain cell with one record, which leads to where another cell does
abbrev pub tail_cell : Record → Cell → Cell
tail_cell tail cell = record { head = record cell.head { kind = Chain }; records = tail ∷ [] }

-- the records of two cells in place of those of one: the one that says where pages stand is parted,
-- with a page at another place, and the second part is all that the second cell has
pub record HaveParts (value : Record) (page : ℕ) (place : PagePlace) (version : Version)
    (records front_records tail_records : List Record) : Type 0 where
  pub front : Record
  pub tail : Record
  pub parts : ArePartsFor (with_place page place (places_in value)) (kind_of value)
      (chain_kind version) front tail
  pub front_is : front_records ≡ with_kind (kind_of value) (Some front) records
  pub tail_is : tail_records ≡ tail ∷ []

-- a cell is handed out, and what another one says of pages stands in both, with one page at another
-- place: the second one comes right after the first
pub record PartsCell (at : CellAt) (value : Record) (page : ℕ) (place : PagePlace)
    (version : Version) (prefer : ℕ) (space space_now : Spaces) (cells cells_now : Cells)
    (old new : Pages) : Type 0 where
  pub behind : CellAt
  pub volume : 1 ≤ behind.vol
  pub between : Pages
  pub takes : Takes prefer behind space space_now cells cells_now old between
  pub zeros : cell_at between behind ≡ Some (zero_bytes 292)
  pub front : Record
  pub tail : Record
  pub parts : ArePartsFor (with_place page place (places_in value)) (kind_of value)
      (chain_kind version) front tail
  pub here : (cell : Cell) → StandsAt old at cell
      → StandsAt new at (front_cell behind (kind_of value) front cell)
  pub there : (cell : Cell) → StandsAt old at cell → StandsAt new behind (tail_cell tail cell)
  pub others : LeavesOthers (λ q. is_at behind q || is_at at q) between new
