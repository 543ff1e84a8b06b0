use Rattle.std.proofs.Common.{subst}
use Rattle.metadata_cells.specs.domain_base.declared.place.CellAt.{CellAt}
use Rattle.cell_chains.specs.Links.{HasLink, cells_of}
use Rattle.cell_chains.specs.Heads.{IsChained, IsStartOf}
use Rattle.cell_chains.specs.Starts.{starts_of}
use Rattle.metadata_cells.proofs.OfSortedSets.Items.{item_of}
use Rattle.cell_chains.proofs.Each.{all_found}
use Rattle.cell_chains.proofs.Starting.{Begins, BeginsBelow, no_starts, starts_more}
use Rattle.cell_chains.proofs.Told.{tells_same}
use Rattle.cell_chains.proofs.chains.chain_starts.Goals as goal

pub loop-at-init : goal.loop-at-init
loop-at-init c = no_starts c.args.links.now c.args.led.now c.new-map.result c.new-map.ensures

pub loop-at-preserved : goal.loop-at-preserved
loop-at-preserved c =
    let links = c.args.links.now in
    let entry = c.loop-at-item.result in
    starts_more links c.args.led.now c.loop-at.map c.add_from.new.map c.loop-at.at-index entry
    (item_of (cells_of links) c.as_slice-at-items.result.now c.loop-at.at-index entry c.as_slice-at-items.ensures.value c.loop-at-test.true c.loop-at-item.is)
    c.loop-at.invariant c.in_ok-add_from.ensures

pub returns : goal.returns
returns c at link has =
    let links = c.args.links.now in
    let led = c.args.led.now in
    let number = c.loop-at.at-index in
    tells_same (BeginsBelow links led number at) (IsStartOf links led at)
    (λ start.
    let all = all_found {X = CellAt} links c.as_slice-at-items.result.now c.as_slice-at-items.ensures.value (Begins links led at) (BeginsBelow links led number at) number (λ start. (λ is. is, λ is. is))
    c.as_slice-at-items.ensures.rising c.as_slice-at-items.ensures.numbered c.loop-at-test.false c.loop-at.auto.at-index-end start in (
      λ below. let (first, one, there, (same, chained)) = all.0 below in
          (one, subst (λ (a : CellAt). HasLink links a one) same there, subst (λ (a : CellAt). IsChained links led a one at) same chained),
      λ (one, there, chained). all.1 (start, one, there, ((λ i. start), chained)),
    ))
    (starts_of c.loop-at.map at) (c.loop-at.invariant at link has)
