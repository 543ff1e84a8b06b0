-- What is asked of single cells of a domain, beside that they stand in chains.
use Rattle.std.specs.Prelude.{◌≡◌, ◌≤◌, ℕ, true, false, Some, List, [], ◌∷◌}
use Rattle.std.specs.List.{AllByRecursion}
use Rattle.fileset_shapes.specs.domain_base.declared.place.CellAt.{CellAt}
use Rattle.fileset_shapes.specs.domain_base.declared.place.Tag.{Tag}
use Rattle.fileset_shapes.specs.cell_records.Records.{kind_of, last_kind}
use Rattle.fileset_shapes.specs.cell_records.declared.record.Record.{Record}
use Rattle.fileset_shapes.specs.metadata_cells.Cell.{Cell, record_of}
use Rattle.fileset_shapes.specs.metadata_cells.Chain.{PlacedCell, StandsAt}
use Rattle.fileset_shapes.specs.metadata_cells.declared.head.CellKind.TheVariants.{Primary}
use Rattle.fileset_shapes.specs.tag_dirs.Directory.{cell_of}
use Rattle.fileset_shapes.specs.fileset_files.Files.{is_removed}
use Rattle.release_steps.specs.release_list.Standing.{Files}
use Rattle.fileset_shapes.specs.domain_layout.CellRules.{has_kind, is_good_first, item_of, of_original}
use Rattle.fileset_shapes.specs.domain_layout.Owners.{IsOnTable}
use Rattle.fileset_shapes.specs.domain_layout.TagRules.{IsLate}
use Rattle.domain_standing.specs.Domain.{DomainNow, item_in, layout_of}

-- a tag of an original leads to a cell
pub record IsOfOriginal (d : DomainNow) (at : CellAt) : Type 0 where
  pub number : ℕ
  pub original : of_original (item_in d number) ≡ true
  pub tag : Tag
  pub leads : cell_of d.pages (d.tags number) tag ≡ Some at

-- a chain of an original's file that stays
abbrev pub StaysInOriginal : DomainNow → List PlacedCell → Type 0
StaysInOriginal d [] = ⊥
StaysInOriginal d (first ∷ rest) = (of_original (item_of d.table first.cell.head) ≡ true)
    × (is_removed (first ∷ rest) ≡ false)

-- a cell has no record of holes
abbrev pub HasNoHoles : PlacedCell → Type 0
HasNoHoles c = has_kind 5 c.cell.records ≡ false

-- a cell's records are of kinds that the version has, and a first cell has those that it may have;
-- no file of an original is of a clone that was not made, and none of its chains has holes
pub record SaysTheRest (d : DomainNow) (files : Files) : Type 0 where
  pub kinds : (at : CellAt) (cell : Cell) → IsOnTable d.pages (layout_of d) at cell
      → AllByRecursion (λ r. kind_of r ≤ last_kind d.frame.version) cell.records
  pub firsts : (at : CellAt) (cell : Cell) → IsOnTable d.pages (layout_of d) at cell
      → cell.head.kind ≡ Primary → is_good_first d.table cell ≡ true
  pub births : (at : CellAt) (cell : Cell) (value : Record) → IsOfOriginal d at
      → StandsAt d.pages at cell → record_of 1 cell.records ≡ Some value
      → ¬ IsLate d.table.made value
  pub holes : (at : CellAt) (chain : List PlacedCell) → files at ≡ Some chain
      → StaysInOriginal d chain → AllByRecursion HasNoHoles chain
