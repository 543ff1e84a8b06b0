-- One record of a cell is changed, and one cell of a chain.
use Rattle.std.specs.Prelude.{◌≤◌, ◌++◌, ℕ, List, [], ◌∷◌, filter, length, nat_lt, Option, Some, if◌then◌else◌}
use Rattle.std.specs.Option.{option_to_list}
use Rattle.free_cells.specs.domain_base.declared.place.CellAt.{CellAt}
use Rattle.free_cells.specs.page_store.Pages.{Pages}
use Rattle.free_cells.specs.cell_records.declared.record.Record.{Record}
use Rattle.free_cells.specs.cell_records.Records.{kind_of}
use Rattle.free_cells.specs.metadata_cells.Cell.{Cell, spellings}
use Rattle.free_cells.specs.metadata_cells.Chain.{PlacedCell, StandsAt, is_at}

-- the records of smaller and of greater kinds
abbrev pub below : ℕ → List Record → List Record
below kind records = filter (λ r. nat_lt (kind_of r) kind) records

abbrev pub above : ℕ → List Record → List Record
above kind records = filter (λ r. nat_lt kind (kind_of r)) records

-- the records with this one, or none, in place of those of a kind
abbrev pub with_kind : ℕ → Option Record → List Record → List Record
with_kind kind value records = below kind records ++ (option_to_list value ++ above kind records)

-- the cell with this record of a kind, or with none of that kind
abbrev pub with_record : ℕ → Option Record → Cell → Cell
with_record kind value cell = record cell { records = with_kind kind value cell.records }

-- a cell in use stands there
abbrev pub IsInUse : Pages → CellAt → Type 0
IsInUse pages at = (cell : Cell) × StandsAt pages at cell

-- a cell in use stands there that has room for its records if that of a kind is this one
pub record HasRoom (pages : Pages) (at : CellAt) (kind : ℕ) (value : Option Record) : Type 0 where
  pub cell : Cell
  pub stands : StandsAt pages at cell
  pub fits : length (spellings (with_kind kind value cell.records)) ≤ 272

-- the cell with two records in place of those of their kinds
abbrev pub with_two : Record → Record → Cell → Cell
with_two one other cell =
    with_record (kind_of other) (Some other) (with_record (kind_of one) (Some one) cell)

-- a cell in use stands there that has room for both
pub record HasRoomForTwo (pages : Pages) (at : CellAt) (one other : Record) : Type 0 where
  pub cell : Cell
  pub stands : StandsAt pages at cell
  pub fits : length (spellings (with_two one other cell).records) ≤ 272

-- the cells with another cell for the one at a place
abbrev pub with_cell : CellAt → Cell → List PlacedCell → List PlacedCell
with_cell at cell [] = []
with_cell at cell (c ∷ cs) =
    if is_at at c.at then record { at = c.at; cell = cell } ∷ cs else c ∷ with_cell at cell cs
