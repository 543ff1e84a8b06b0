use Rattle.std.proofs.Common.{◌≡◌}
use Rattle.page_ways.specs.domain_base.declared.place.Home.{Home}
use Rattle.page_ways.specs.metadata_cells.CellPage.{home_of}
use Rattle.page_ways.specs.sorted_sets.Members.{IsIn}
use Rattle.cell_faults.specs.ChainPages.{IsLoose}
use Rattle.cell_chains.proofs.Each.{all_found, found_more}
use Rattle.cell_faults.proofs.Walks.{unchained_all}
use Rattle.cell_faults.proofs.unchained.unchained_faults.Goals as goal

pub loop-at-preserved : goal.loop-at-preserved
loop-at-preserved c =
    found_more {X = Home} c.args.links.now c.as_slice-at-items.result.now c.as_slice-at-items.ensures.value (λ home at link. (home_of at ≡ home) × IsLoose c.in_ok-marked.marked at link) (IsIn c.loop-at.found) c.loop-at.at-index c.loop-at.invariant
    (IsIn c.insert_loose.new.found) c.loop-at-item.result c.loop-at-test.true c.loop-at-item.is c.in_ok-insert_loose.ensures

pub returns : goal.returns
returns c pages frame are home =
    let found = all_found {X = Home} c.args.links.now c.as_slice-at-items.result.now c.as_slice-at-items.ensures.value (λ home at link. (home_of at ≡ home) × IsLoose c.in_ok-marked.marked at link) (IsIn c.loop-at.found) c.loop-at.at-index c.loop-at.invariant
    c.as_slice-at-items.ensures.rising c.as_slice-at-items.ensures.numbered c.loop-at-test.false c.loop-at.auto.at-index-end home in
    let all = unchained_all pages frame c.args.links.now are c.in_ok-led.led c.in_ok-marked.marked c.in_ok-led.ensures c.in_ok-marked.ensures home in
    ((λ is. all.0 (found.0 is)), (λ fault. found.1 (all.1 fault)))
