-- A cell in use that was read.
use Rattle.std.proofs.Common.{◌≡◌, Option, Some, None, IfNone, IfSome, IsSome, refl, subst}
use Rattle.fileset_files.specs.domain_base.declared.place.CellAt.{CellAt}
use Rattle.fileset_files.specs.page_store.Pages.{Pages}
use Rattle.fileset_files.specs.metadata_cells.declared.used.UsedCell.{UsedCell}
use Rattle.fileset_files.specs.metadata_cells.Cell.{Cell}
use Rattle.fileset_files.specs.metadata_cells.Chain.{StandsAt}
use Rattle.fileset_files.proofs.OfMetadataCells.Unique.{one_stands}

abbrev pub as_cell : UsedCell → Cell
as_cell used = record { head = used.head; records = used.records }

module _ (pages : Pages) (at : CellAt) where
  pub some_used : (o : Option UsedCell) → IfNone o ((cell : Cell) → ¬ StandsAt pages at cell) → (cell : Cell) → StandsAt pages at cell → IsSome o
  some_used None none cell stands = absurd (none cell stands)
  some_used (Some used) none cell stands = refl

  -- it is the cell that stands there
  pub used_stands : (o : Option UsedCell) (used : UsedCell) → o ≡ Some used → IfSome o (λ used. StandsAt pages at (as_cell used)) → (cell : Cell) → StandsAt pages at cell → as_cell used ≡ cell
  used_stands o used is some cell stands = one_stands pages at (as_cell used) cell (subst (λ o. IfSome o (λ used. StandsAt pages at (as_cell used))) is some) stands
