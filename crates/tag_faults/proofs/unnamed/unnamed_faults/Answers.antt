use Rattle.cell_faults.specs.domain_base.declared.place.Home.{Home}
use Rattle.cell_faults.specs.page_ways.Frame.{frame_in}
use Rattle.cell_faults.specs.sorted_sets.Members.{IsIn}
use Rattle.cell_faults.proofs.OfCellChains.Each.{all_found, found_more}
use Rattle.tag_faults.specs.Unnamed.{IsFirstAlone}
use Rattle.tag_faults.proofs.Alone.{alone_all}
use Rattle.tag_faults.proofs.unnamed.unnamed_faults.Goals as goal

pub loop-at-preserved : goal.loop-at-preserved
loop-at-preserved g c =
    let pages = g.M.MetaPages.pages c.args.pages.now in
    found_more {X = Home} c.args.links.now c.as_slice-at-items.result.now c.as_slice-at-items.ensures.value (IsFirstAlone pages c.in_ok-named.named) (IsIn c.loop-at.found) c.loop-at.at-index c.loop-at.invariant
    (IsIn c.insert_alone.new.found) c.loop-at-item.result c.loop-at-test.true c.loop-at-item.is c.in_ok-insert_alone.ensures

pub returns : goal.returns
returns g c home =
    let pages = g.M.MetaPages.pages c.args.pages.now in
    let found = all_found {X = Home} c.args.links.now c.as_slice-at-items.result.now c.as_slice-at-items.ensures.value (IsFirstAlone pages c.in_ok-named.named) (IsIn c.loop-at.found) c.loop-at.at-index c.loop-at.invariant
    c.as_slice-at-items.ensures.rising c.as_slice-at-items.ensures.numbered c.loop-at-test.false c.loop-at.auto.at-index-end home in
    let all = alone_all pages (frame_in c.args.frame.now) c.args.table.now c.args.links.now c.requires c.in_ok-named.named c.in_ok-named.ensures home in
    ((λ is. all.0 (found.0 is)), (λ fault. found.1 (all.1 fault)))
