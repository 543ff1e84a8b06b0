-- The filesets of a domain: what its pages mean, and each as a set of files and directories.
use Rattle.std.specs.Prelude.{◌≡◌, ℕ, false, Some}
use Rattle.fileset_shapes.specs.fileset_model.Filesets.{FilesetMap}
use Rattle.fileset_shapes.specs.fileset_table.declared.slot.FilesetEntry.{FilesetEntry}
use Rattle.fileset_shapes.specs.fileset_table.declared.slot.SlotItem.TheVariants as slot
use Rattle.stored_set.specs.Sets.{StandsAsSet}
use Rattle.fileset_shapes.specs.domain_layout.CellRules.{of_clone}
use Rattle.fileset_shapes.specs.domain_layout.Filled.{AreFilled}
use Rattle.fileset_shapes.specs.domain_layout.Shape.{AreShapesOf, FilesetShape, Shapes}
use Rattle.domain_standing.specs.Domain.{DomainNow, item_in}

-- the pages have these filesets; each is an original, and stands as the set that its shape shows
pub record StandSlots (d : DomainNow) (all : FilesetMap) : Type 0 where
  pub shapes : Shapes
  pub are : AreShapesOf d.pages d.table shapes
  pub filled : AreFilled d.contents shapes all
  pub sets : (number : ℕ) (entry : FilesetEntry) (shape : FilesetShape)
      → item_in d number ≡ Some (slot.Original entry) → shapes entry.name ≡ Some shape
      → StandsAsSet number (d.tags number) d.space d.cells d.pages shape.shown
  pub no_clone : (number : ℕ) → of_clone (item_in d number) ≡ false
