use Rattle.metadata_cells.specs.domain_base.declared.place.Home.{Home}
use Rattle.metadata_cells.specs.sorted_sets.Members.{IsIn}
use Rattle.cell_chains.proofs.Each.{all_found, found_more}
use Rattle.cell_chains.specs.Twice.{HasTwice}
use Rattle.cell_chains.proofs.twice.twice_faults.Goals as goal

pub loop-at-preserved : goal.loop-at-preserved
loop-at-preserved g c =
    let pages = g.M.MetaPages.pages c.args.pages.now in
    found_more {X = Home} c.args.links.now c.as_slice-at-items.result.now c.as_slice-at-items.ensures.value (HasTwice pages c.args.what c.args.links.now c.args.led.now) (IsIn c.loop-at.found) c.loop-at.at-index c.loop-at.invariant
    (IsIn c.insert_twice.new.found) c.loop-at-item.result c.loop-at-test.true c.loop-at-item.is c.in_ok-insert_twice.ensures

pub returns : goal.returns
returns g c =
    let pages = g.M.MetaPages.pages c.args.pages.now in
    all_found {X = Home} c.args.links.now c.as_slice-at-items.result.now c.as_slice-at-items.ensures.value (HasTwice pages c.args.what c.args.links.now c.args.led.now) (IsIn c.loop-at.found) c.loop-at.at-index c.loop-at.invariant
    c.as_slice-at-items.ensures.rising c.as_slice-at-items.ensures.numbered c.loop-at-test.false c.loop-at.auto.at-index-end
