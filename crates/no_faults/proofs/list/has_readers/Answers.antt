use Rattle.std.proofs.Common.{◌∙◌, ◌↔◌, ◌⊎◌, IsTrue}
use Rattle.cell_faults.proofs.OfCellChains.Each.{all_found, found_more}
use Rattle.no_faults.specs.Listing.{SaysThrough}
use Rattle.no_faults.proofs.Lists.{found_before, found_here, some_source}
use Rattle.no_faults.proofs.list.has_readers.Goals as goal
use Rattle.no_faults.proofs.list.has_readers.Goals.{then-found, else-found}

pub loop-at-preserved : goal.loop-at-preserved
loop-at-preserved g c =
    let pages = g.M.MetaPages.pages c.args.pages.now in
    let item = c.loop-at-item.result in
    let put : IsTrue c.if-found.found ↔ (IsTrue c.loop-at.found ⊎ SaysThrough pages item.1.0) =
    elim c.if-found.branch [
      | then-found w ↦ found_before c.if-found.found c.loop-at.found (SaysThrough pages item.1.0) w.if-found.true (w.found-is ∙ w.if-found.true)
      | else-found w ↦ found_here c.if-found.found c.loop-at.found c.in_ok-says.says (SaysThrough pages item.1.0) w.if-found.false w.found-is c.in_ok-says.ensures
    ] in
    found_more {X = Unit {0}} c.args.links.now c.as_slice-at-items.result.now c.as_slice-at-items.ensures.value (λ _ at link. SaysThrough pages at) (λ _. IsTrue c.loop-at.found)
    c.loop-at.at-index c.loop-at.invariant (λ _. IsTrue c.if-found.found) item c.loop-at-test.true c.loop-at-item.is (λ _. put)

pub returns : goal.returns
returns g c layout laid none are =
    let pages = g.M.MetaPages.pages c.args.pages.now in
    let found = all_found {X = Unit {0}} c.args.links.now c.as_slice-at-items.result.now c.as_slice-at-items.ensures.value (λ _ at link. SaysThrough pages at) (λ _. IsTrue c.loop-at.found)
    c.loop-at.at-index c.loop-at.invariant c.as_slice-at-items.ensures.rising c.as_slice-at-items.ensures.numbered c.loop-at-test.false c.loop-at.auto.at-index-end tt in
    let source = some_source pages layout laid none c.args.links.now are in
    ((λ is. source.0 (found.0 is)), (λ has. found.1 (source.1 has)))
