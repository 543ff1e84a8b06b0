use Rattle.page_ways.specs.domain_base.declared.place.CellAt.{CellAt}
use Rattle.cell_chains.specs.Members.{IsIn}
use Rattle.cell_chains.specs.Heads.{IsChained}
use Rattle.cell_chains.proofs.Each.{all_found, found_more}
use Rattle.cell_faults.proofs.unchained.chain_cells.Goals as goal

pub loop-at-preserved : goal.loop-at-preserved
loop-at-preserved c =
    let links = c.args.links.now in
    found_more {X = CellAt} links c.as_slice-at-items.result.now c.as_slice-at-items.ensures.value (λ other at link. IsChained links c.args.led.now at link other) (IsIn c.loop-at.marked) c.loop-at.at-index c.loop-at.invariant
    (IsIn c.mark_from.new.marked) c.loop-at-item.result c.loop-at-test.true c.loop-at-item.is c.in_ok-mark_from.ensures

pub returns : goal.returns
returns c =
    let links = c.args.links.now in
    all_found {X = CellAt} links c.as_slice-at-items.result.now c.as_slice-at-items.ensures.value (λ other at link. IsChained links c.args.led.now at link other) (IsIn c.loop-at.marked) c.loop-at.at-index c.loop-at.invariant
    c.as_slice-at-items.ensures.rising c.as_slice-at-items.ensures.numbered c.loop-at-test.false c.loop-at.auto.at-index-end
