use Rattle.std.proofs.Common.{◌≡◌}
use Rattle.cell_faults.specs.domain_base.declared.place.Home.{Home}
use Rattle.cell_faults.specs.metadata_cells.CellPage.{home_of}
use Rattle.cell_faults.specs.page_ways.Frame.{frame_in}
use Rattle.cell_faults.specs.sorted_sets.Members.{IsIn}
use Rattle.cell_faults.proofs.OfCellChains.Each.{all_found, found_more}
use Rattle.tag_faults.specs.Sources.{ReadsAstray}
use Rattle.tag_faults.proofs.Astray.{astray_all}
use Rattle.tag_faults.proofs.sources.source_faults.Goals as goal

pub loop-at-preserved : goal.loop-at-preserved
loop-at-preserved g c =
    let pages = g.M.MetaPages.pages c.args.pages.now in
    let frame = frame_in c.args.frame.now in
    let table = c.args.table.now in
    found_more {X = Home} c.args.links.now c.as_slice-at-items.result.now c.as_slice-at-items.ensures.value (λ home at link. (home_of at ≡ home) × ReadsAstray pages frame table at) (IsIn c.loop-at.found) c.loop-at.at-index c.loop-at.invariant
    (IsIn c.insert_astray.new.found) c.loop-at-item.result c.loop-at-test.true c.loop-at-item.is c.in_ok-insert_astray.ensures

pub returns : goal.returns
returns g c home =
    let pages = g.M.MetaPages.pages c.args.pages.now in
    let frame = frame_in c.args.frame.now in
    let table = c.args.table.now in
    let found = all_found {X = Home} c.args.links.now c.as_slice-at-items.result.now c.as_slice-at-items.ensures.value (λ home at link. (home_of at ≡ home) × ReadsAstray pages frame table at) (IsIn c.loop-at.found) c.loop-at.at-index c.loop-at.invariant
    c.as_slice-at-items.ensures.rising c.as_slice-at-items.ensures.numbered c.loop-at-test.false c.loop-at.auto.at-index-end home in
    let all = astray_all pages frame table c.args.links.now c.requires home in
    ((λ is. all.0 (found.0 is)), (λ fault. found.1 (all.1 fault)))
