-- What was read of a fileset whose rows are those of a fileset.
use Rattle.fileset_shapes.specs.page_store.Pages.{Pages}
use Rattle.fileset_shapes.specs.domain_layout.Shape.{FilesetShape}
use Rattle.fileset_shapes.specs.fileset_table.declared.slot.FilesetEntry.{FilesetEntry}
use Rattle.fileset_shapes.specs.name_space.Rows.{AreFilesetRows}
use Rattle.fileset_shapes.specs.name_space.Trees.{MayBeOf}
use Rattle.fileset_shapes.specs.Found.{SeesShape}
use Rattle.fileset_shapes.specs.declared.found.FilesetSeen.{FilesetSeen}

-- it says a shape, whose set of files has the rows of a fileset, and is whole in an original
pub record SaysFileset (pages : Pages) (entry : FilesetEntry) (found : FilesetSeen)
    (shape : FilesetShape) : Type 0 where
  pub sees : SeesShape pages entry shape found
  pub rows : AreFilesetRows shape.shown
  pub may : MayBeOf found.original shape.shown
