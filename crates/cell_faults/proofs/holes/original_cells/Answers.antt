use Rattle.page_ways.specs.domain_base.declared.place.CellAt.{CellAt}
use Rattle.cell_chains.specs.Members.{IsIn}
use Rattle.cell_faults.specs.Holes.{IsOfOriginalFrom}
use Rattle.cell_chains.proofs.Each.{all_found, found_more}
use Rattle.cell_faults.proofs.holes.original_cells.Goals as goal

pub loop-at-preserved : goal.loop-at-preserved
loop-at-preserved g c =
    let pages = g.M.MetaPages.pages c.args.pages.now in
    let links = c.args.links.now in
    found_more {X = CellAt} links c.as_slice-at-items.result.now c.as_slice-at-items.ensures.value (λ other at link. IsOfOriginalFrom pages c.args.table.now links at other) (IsIn c.loop-at.marked) c.loop-at.at-index c.loop-at.invariant
    (IsIn c.mark_original.new.marked) c.loop-at-item.result c.loop-at-test.true c.loop-at-item.is c.in_ok-mark_original.ensures

pub returns : goal.returns
returns g c =
    let pages = g.M.MetaPages.pages c.args.pages.now in
    let links = c.args.links.now in
    all_found {X = CellAt} links c.as_slice-at-items.result.now c.as_slice-at-items.ensures.value (λ other at link. IsOfOriginalFrom pages c.args.table.now links at other) (IsIn c.loop-at.marked) c.loop-at.at-index c.loop-at.invariant
    c.as_slice-at-items.ensures.rising c.as_slice-at-items.ensures.numbered c.loop-at-test.false c.loop-at.auto.at-index-end
