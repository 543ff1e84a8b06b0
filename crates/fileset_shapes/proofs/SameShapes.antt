-- Where no rule is broken: pages that agree where the rules look have the same shapes.
use Rattle.std.proofs.Common.{◌≡◌, ◌∙◌, Some, IsSomeAnd, sym, subst}
use Rattle.filesets_reading.specs.domain_base.declared.place.Home.{Home}
use Rattle.filesets_reading.specs.page_store.Pages.{Pages}
use Rattle.filesets_reading.specs.fileset_table.Page.{IsTablePage}
use Rattle.filesets_reading.proofs.OfFilesetTable.Unique.{table_unique}
use Rattle.filesets_reading.specs.domain_layout.Faults.{HasNoFault}
use Rattle.filesets_reading.proofs.OfDomainLayout.NoTables.{none_of_extents, none_of_tables}
use Rattle.filesets_reading.specs.domain_layout.Layout.{IsLayout, Layout}
use Rattle.filesets_reading.specs.domain_layout.Owners.{frame_of}
use Rattle.filesets_reading.specs.domain_layout.Shape.{AreShapesOf, HaveShapes, Shapes}
use Rattle.filesets_reading.specs.domain_layout.Metadata.{AgreeOnMetadata}
use Rattle.filesets_reading.proofs.OfDomainLayout.OnePage.{one_of, some_same}
use Rattle.filesets_reading.proofs.OfDomainLayout.ShapesAlike.{same_shapes}
use Rattle.filesets_reading.specs.domain_layout.Looks.{AgreeWhereRulesLook}
use Rattle.filesets_reading.proofs.OfDomainLayout.SameFaults.{sides}
use Rattle.filesets_reading.proofs.OfDomainLayout.Sides.{AreSides}
use Rattle.fileset_shapes.proofs.InShapes.{in_shapes}
use Rattle.fileset_shapes.proofs.MayStand.{has_may}

-- the shapes are those of the layout's table
shapes_of : (pages : Pages) (layout : Layout) (home : Home) (shapes : Shapes) → IsLayout pages layout → layout.anchor.table ≡ Some home → HaveShapes pages home shapes → AreShapesOf pages layout.table shapes
shapes_of pages layout home shapes laid at have =
    let said = one_of layout.anchor.table (λ home. IsSomeAnd (pages home) (λ page. IsTablePage page layout.table)) laid.table in
    let homes = some_same said.value home (sym said.there ∙ at) in
    let page = one_of (pages home) (λ page. IsTablePage page layout.table) (subst (λ h. IsSomeAnd (pages h) (λ page. IsTablePage page layout.table)) homes said.is) in
    let also : IsTablePage page.value have.table = subst (λ o. IsSomeAnd o (λ p. IsTablePage p have.table)) page.there have.there in
    subst (λ table. AreShapesOf pages table shapes) (table_unique page.value have.table layout.table also page.is) have.are

pub shapes_alike : (one other : Pages) (layout : Layout) (home : Home) (shapes : Shapes) → IsLayout one layout → HasNoFault one (frame_of layout) → layout.anchor.table ≡ Some home → HaveShapes one home shapes
    → AgreeWhereRulesLook one other (frame_of layout) → HaveShapes other home shapes
shapes_alike one other layout home shapes laid none at have agree = same_shapes one other layout home shapes laid none at have metadata
  where
    s : AreSides one other layout
    s = sides one other layout agree (none_of_tables one (frame_of layout) none) laid

    metadata : AgreeOnMetadata one other layout shapes
    metadata = record {
      table = s.ahead.table;
      cells = s.ahead.cells;
      tags = s.ahead.tags;
      indexes = s.indexes;
      directories = λ name shape there tag seen page onto sees kind stands.
          let found = in_shapes one layout.table tag seen shapes (shapes_of one layout home shapes laid at have) name shape there sees in
          s.directories found.number tag found.cells seen page onto found.has kind stands
          (has_may one layout laid (none_of_extents one (frame_of layout) none) found.number tag found.cells seen found.has page onto stands).0;
    }
