-- What a change of one page of a file changes, and what it leaves.
use Rattle.std.specs.Prelude.{◌≡◌, ℕ, not, List, ◌∷◌, filter, map, Contains}
use Rattle.std.specs.List.{AllByRecursion}
use Rattle.free_cells.specs.domain_base.declared.place.CellAt.{CellAt}
use Rattle.free_cells.specs.page_store.Pages.{Pages}
use Rattle.free_cells.specs.cell_records.declared.record.Record.{Record}
use Rattle.free_cells.specs.cell_records.Records.{kind_of}
use Rattle.free_cells.specs.metadata_cells.Cell.{Cell}
use Rattle.free_cells.specs.metadata_cells.Chain.{PlacedCell, StandsAt, places}
use Rattle.free_cells.specs.Cells.{Cells, table_of}
use Rattle.extent_records.specs.extent_maps.declared.run.PagePlace.{PagePlace}
use Rattle.extent_records.specs.extent_maps.Runs.{with_place}
use Rattle.file_chains.specs.Files.{IsFile, has_rows, map_records, places_of}

-- the records of a cell but for the one that says where pages stand
abbrev pub other_records : List Record → List Record
other_records records = filter (λ r. not (has_rows r)) records

-- the kinds of a cell's records that say where pages stand
abbrev pub map_kinds : List Record → List ℕ
map_kinds records = map kind_of (map_records records)

-- each cell of a chain, and the one of a chain after it that stands there, say where pages stand in
-- records of the same kinds
abbrev pub KeepKinds : List PlacedCell → List PlacedCell → Type 0
KeepKinds chain after = (was now : PlacedCell) → Contains chain was → Contains after now
    → now.at ≡ was.at → map_kinds now.cell.records ≡ map_kinds was.cell.records

-- the first cell of a chain has what it had, but for the cell that it leads to and for where pages
-- stand, which a record of the same kind says
abbrev pub SameFirst : List PlacedCell → List PlacedCell → Type 0
SameFirst (a ∷ chain) (b ∷ after) =
    (b.at ≡ a.at) × (b.cell.head ≡ record a.cell.head { next = b.cell.head.next })
    × (other_records b.cell.records ≡ other_records a.cell.records)
    × (map_kinds b.cell.records ≡ map_kinds a.cell.records)
SameFirst _ _ = ⊥

-- the file whose chain begins there has one page at another place, and all else as it was
pub record ChangesPage (start : CellAt) (page : ℕ) (place : PagePlace) (chain : List PlacedCell)
    (new : Pages) : Type 0 where
  pub after : List PlacedCell
  pub is_file : IsFile new start after
  pub first : SameFirst chain after
  pub at : (p : ℕ) → places_of after p ≡ with_place page place (places_of chain) p

-- each cell of a chain stands on a page of its volume's table
abbrev pub AreOnTables : Cells → List PlacedCell → Type 0
AreOnTables cells chain =
    AllByRecursion (λ (c : PlacedCell). Contains (table_of cells c.at.vol) c.at.page) chain

-- each cell in use of the tables that is none of the chain stays
abbrev pub LeavesOtherCells : Cells → List PlacedCell → Pages → Pages → Type 0
LeavesOtherCells cells chain old new = (at : CellAt) (cell : Cell) → StandsAt old at cell
    → Contains (table_of cells at.vol) at.page → ¬ Contains (places chain) at
    → StandsAt new at cell
