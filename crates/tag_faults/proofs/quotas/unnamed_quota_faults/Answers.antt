use Rattle.std.proofs.Common.{◌≡◌}
use Rattle.cell_faults.specs.domain_base.declared.place.Home.{Home}
use Rattle.cell_faults.specs.metadata_cells.CellPage.{home_of}
use Rattle.cell_faults.specs.sorted_sets.Members.{IsIn}
use Rattle.cell_faults.proofs.OfCellChains.Each.{all_found, found_more}
use Rattle.tag_faults.specs.Quotas.{IsQuotaAlone}
use Rattle.tag_faults.proofs.InUse.{unnamed_all}
use Rattle.tag_faults.proofs.quotas.unnamed_quota_faults.Goals as goal

pub loop-at-preserved : goal.loop-at-preserved
loop-at-preserved c =
    found_more {X = Home} c.args.links.now c.as_slice-at-items.result.now c.as_slice-at-items.ensures.value (λ home at link. (home_of at ≡ home) × IsQuotaAlone c.in_ok-led.led c.in_ok-named.named at link) (IsIn c.loop-at.found) c.loop-at.at-index c.loop-at.invariant
    (IsIn c.insert_alone.new.found) c.loop-at-item.result c.loop-at-test.true c.loop-at-item.is c.in_ok-insert_alone.ensures

pub returns : goal.returns
returns c pages frame are home =
    let found = all_found {X = Home} c.args.links.now c.as_slice-at-items.result.now c.as_slice-at-items.ensures.value (λ home at link. (home_of at ≡ home) × IsQuotaAlone c.in_ok-led.led c.in_ok-named.named at link) (IsIn c.loop-at.found) c.loop-at.at-index c.loop-at.invariant
    c.as_slice-at-items.ensures.rising c.as_slice-at-items.ensures.numbered c.loop-at-test.false c.loop-at.auto.at-index-end home in
    let all = unnamed_all pages frame c.args.links.now are c.in_ok-led.led c.in_ok-led.ensures c.args.table.now c.in_ok-named.named c.in_ok-named.ensures home in
    ((λ is. all.0 (found.0 is)), (λ fault. found.1 (all.1 fault)))
