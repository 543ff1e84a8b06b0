-- Pages that agree on all that is no page of a file.
use Rattle.std.specs.Prelude.{◌≡◌, ℕ, Some}
use Rattle.file_release.specs.domain_base.declared.place.CellAt.{CellAt}
use Rattle.file_release.specs.domain_base.declared.place.Home.{Home}
use Rattle.file_release.specs.domain_base.declared.place.Kind.TheVariants.{Directory}
use Rattle.file_release.specs.domain_base.declared.place.Tag.{Tag}
use Rattle.file_release.specs.page_store.Pages.{Pages}
use Rattle.name_space.specs.fileset_values.Orders.{Name}
use Rattle.domain_layout.specs.DirectoryRules.{HasIndexAt}
use Rattle.domain_layout.specs.Layout.{Layout}
use Rattle.domain_layout.specs.Owners.{frame_of}
use Rattle.domain_layout.specs.Reached.{Frame, index_way}
use Rattle.domain_layout.specs.Seen.{SeenFile}
use Rattle.domain_layout.specs.Shape.{FilesetShape, Shapes}
use Rattle.domain_layout.specs.Alike.{AgreeOnCells, AgreeOnTags, AgreeOnWay}

-- both have the same at each page of the indexes that cells name
abbrev pub AgreeOnIndexes : Pages → Pages → Frame → Type 0
AgreeOnIndexes one other frame =
    (at : CellAt) (first : Home) → HasIndexAt one frame at first
    → AgreeOnWay one other frame (index_way first)

-- and at each page of the directories of a fileset, and of all filesets
abbrev pub AgreeOnDirectories : Pages → Pages → FilesetShape → Type 0
AgreeOnDirectories one other shape =
    (tag : Tag) (seen : SeenFile) (page : ℕ) (home : Home) → shape.files tag ≡ Some seen
    → seen.is.kind ≡ Directory → seen.homes page ≡ Some home → one home ≡ other home

-- both have the same at each page of metadata: of the fileset table, of cells, tags, indexes and
-- directories
pub record AgreeOnMetadata (one other : Pages) (layout : Layout) (shapes : Shapes) : Type 0 where
  pub table : (home : Home) → layout.anchor.table ≡ Some home → one home ≡ other home
  pub cells : AgreeOnCells one other (frame_of layout)
  pub tags : AgreeOnTags one other (frame_of layout) layout.table
  pub indexes : AgreeOnIndexes one other (frame_of layout)
  pub directories : (name : Name) (shape : FilesetShape) → shapes name ≡ Some shape
      → AgreeOnDirectories one other shape
