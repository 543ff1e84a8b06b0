-- The chain of cells of a file or directory, and where its pages stand.
use Rattle.std.specs.Prelude.{◌≡◌, ◌<◌, ◌≤◌, ◌^◌, Bool, nat_le, List, [], ◌∷◌, filter, IsSome}
use Rattle.std.specs.List.{AllByRecursion}
use Rattle.free_cells.specs.domain_base.declared.place.CellAt.{CellAt}
use Rattle.free_cells.specs.page_store.Pages.{Pages}
use Rattle.free_cells.specs.cell_records.declared.record.Record.{Record}
use Rattle.free_cells.specs.cell_records.Records.{kind_of}
use Rattle.free_cells.specs.metadata_cells.declared.head.CellKind.TheVariants.{Primary}
use Rattle.free_cells.specs.metadata_cells.Cell.{Cell, record_of}
use Rattle.free_cells.specs.metadata_cells.Chain.{AreLinked, PlacedCell, StandsAt, records_of}
use Rattle.extent_records.specs.extent_maps.Runs.{Places, place_of}
use Rattle.extent_records.specs.Rows.{AreOneMap, runs_of}
use Rattle.extent_records.specs.Writing.{IsMapRecord, most_rows}

-- a record has rows that say where pages stand
abbrev pub has_rows : Record → Bool
has_rows r = nat_le 1 (most_rows (kind_of r))

-- the records that have
abbrev pub map_records : List Record → List Record
map_records records = filter has_rows records

-- an address whose numbers have the widths of their fields
pub record IsNumbered (at : CellAt) : Type 0 where
  pub vol : at.vol ≤ 8
  pub page : at.page < 2 ^ 32
  pub cell : at.cell < 256

-- one record of a cell says where pages stand
pub record HasMap (cell : Cell) (value : Record) : Type 0 where
  pub only : map_records cell.records ≡ value ∷ []
  pub is_map : IsMapRecord value

-- a cell stands there that has one
pub record HasMapAt (pages : Pages) (at : CellAt) : Type 0 where
  pub cell : Cell
  pub value : Record
  pub stands : StandsAt pages at cell
  pub map : HasMap cell value

-- a chain cell of a file: it has one such record, and no other
pub record IsMapCell (cell : Cell) : Type 0 where
  pub value : Record
  pub only : cell.records ≡ value ∷ []
  pub is_map : IsMapRecord value

-- the chain of a file or directory: its first cell has its attributes and one record that says
-- where pages stand, each other one such a record alone, and no page stands twice
pub record AreFile (pages : Pages) (first : PlacedCell) (rest : List PlacedCell) : Type 0 where
  pub links : AreLinked pages first rest
  pub primary : first.cell.head.kind ≡ Primary
  pub attributes : IsSome (record_of 1 first.cell.records)
  pub value : Record
  pub map : HasMap first.cell value
  pub others : AllByRecursion (λ (c : PlacedCell). IsMapCell c.cell) rest
  pub one_map : AreOneMap (records_of (first ∷ rest))

-- the chain that begins at a place is such a file
abbrev pub IsFile : Pages → CellAt → List PlacedCell → Type 0
IsFile pages at [] = ⊥
IsFile pages at (first ∷ rest) = (first.at ≡ at) × AreFile pages first rest

-- a file's chain begins there
abbrev pub HasFile : Pages → CellAt → Type 0
HasFile pages at = (cells : List PlacedCell) × IsFile pages at cells

-- where a file's pages stand, whatever it keeps of them
abbrev pub places_of : List PlacedCell → Places
places_of cells = place_of (runs_of (records_of cells))
