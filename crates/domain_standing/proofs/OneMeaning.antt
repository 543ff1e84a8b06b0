-- What a domain that stands means.
use Rattle.std.proofs.Common.{◌≡◌, Some, IsSomeAnd, subst}
use Rattle.std.specs.FinMap.{get}
use Rattle.fileset_shapes.specs.domain_base.declared.place.Home.{Home}
use Rattle.fileset_shapes.specs.fileset_model.Filesets.{FilesetMap}
use Rattle.fileset_shapes.specs.fileset_model.LooksLike.{LooksLike}
use Rattle.fileset_shapes.specs.fileset_table.Page.{IsTablePage}
use Rattle.fileset_shapes.specs.domain_layout.Filled.{AreFilled, Contents}
use Rattle.fileset_shapes.specs.domain_layout.Read.{ReadsFrom, contents_of}
use Rattle.fileset_shapes.specs.domain_layout.Shape.{HaveShapes}
use Rattle.fileset_shapes.proofs.OfDomainLayout.OneShape.{one_shape}
use Rattle.fileset_shapes.proofs.OfDomainLayout.OneSlot.{one_filling}
use Rattle.fileset_shapes.proofs.OfDomainLayout.OneMeaning.{there_same}
use Rattle.fileset_shapes.proofs.OfDomainLayout.OnePage.{HasOne, one_of}
use Rattle.domain_standing.specs.Domain.{DomainNow}
use Rattle.domain_standing.specs.Standing.{StandsDomain}

module _ (d : DomainNow) where
  has_shapes : (home : Home) (all : FilesetMap) (stands : StandsDomain d all) → d.frame.anchor.table ≡ Some home → HaveShapes d.pages home stands.slots.shapes
  has_shapes home all stands at = record {
    table = d.table;
    there = subst (λ o. IsSomeAnd o (λ h. IsSomeAnd (d.pages h) (λ page. IsTablePage page d.table))) at stands.tables.laid.table;
    are = stands.slots.are;
  }

  pub reads_so : (all : FilesetMap) (home : Home) → StandsDomain d all → d.frame.anchor.table ≡ Some home → ((place : Home) → d.contents place ≡ contents_of d.pages place) → ReadsFrom d.pages home all
  reads_so all home stands at same =
      let contents : d.contents ≡ contents_of d.pages = λ i place. same place i in
      record {
        shapes = stands.slots.shapes;
        shaped = has_shapes home all stands at;
        filled = subst (λ (c : Contents). AreFilled c stands.slots.shapes all) contents stands.slots.filled;
      }

  at_home : (home : Home) (all other : FilesetMap) → StandsDomain d all → StandsDomain d other → d.frame.anchor.table ≡ Some home → LooksLike all other
  at_home home all other one two at =
      let have = has_shapes home all one at in
      let also = has_shapes home other two at in
      one_filling d.pages home d.contents one.slots.shapes all other have one.slots.filled
      (λ name. there_same d.contents (one.slots.shapes name) (two.slots.shapes name) (get other name)
      (one_shape d.pages home one.slots.shapes two.slots.shapes name have also) (two.slots.filled name))

  pub stands_for_one : (all other : FilesetMap) → StandsDomain d all → StandsDomain d other → LooksLike all other
  stands_for_one all other one two =
      let there : HasOne d.frame.anchor.table (λ h. IsSomeAnd (d.pages h) (λ page. IsTablePage page d.table)) = one_of d.frame.anchor.table _ one.tables.laid.table in
      at_home there.value all other one two there.there
