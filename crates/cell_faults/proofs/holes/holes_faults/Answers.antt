use Rattle.page_ways.specs.domain_base.declared.place.Home.{Home}
use Rattle.page_ways.specs.sorted_sets.Members.{IsIn}
use Rattle.cell_faults.specs.Holes.{HasHolesOf}
use Rattle.cell_chains.proofs.Each.{all_found, found_more}
use Rattle.cell_faults.proofs.HolesFound.{holes_all}
use Rattle.cell_faults.proofs.holes.holes_faults.Goals as goal

pub loop-at-preserved : goal.loop-at-preserved
loop-at-preserved g c =
    let pages = g.M.MetaPages.pages c.args.pages.now in
    found_more {X = Home} c.args.links.now c.as_slice-at-items.result.now c.as_slice-at-items.ensures.value (λ home at link. HasHolesOf pages c.in_ok-marked.marked home at) (IsIn c.loop-at.found) c.loop-at.at-index c.loop-at.invariant
    (IsIn c.insert_holes.new.found) c.loop-at-item.result c.loop-at-test.true c.loop-at-item.is c.in_ok-insert_holes.ensures

pub returns : goal.returns
returns g c frame are home =
    let pages = g.M.MetaPages.pages c.args.pages.now in
    let found = all_found {X = Home} c.args.links.now c.as_slice-at-items.result.now c.as_slice-at-items.ensures.value (λ home at link. HasHolesOf pages c.in_ok-marked.marked home at) (IsIn c.loop-at.found) c.loop-at.at-index c.loop-at.invariant
    c.as_slice-at-items.ensures.rising c.as_slice-at-items.ensures.numbered c.loop-at-test.false c.loop-at.auto.at-index-end home in
    let all = holes_all pages frame c.args.links.now are c.args.table.now c.in_ok-marked.marked c.in_ok-marked.ensures home in
    ((λ is. all.0 (found.0 is)), (λ fault. found.1 (all.1 fault)))
