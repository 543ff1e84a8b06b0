use Rattle.std.proofs.Common.{◌≡◌, ◌<◌, List, get_or, length, inl, inr, ⊎_elim, subst}
use Rattle.metadata_cells.specs.domain_base.declared.place.Home.{Home}
use Rattle.cell_chains.specs.Links.{cells_of}
use Rattle.metadata_cells.specs.sorted_sets.Members.{IsIn}
use Rattle.cell_chains.specs.Leads.{HasLate}
use Rattle.metadata_cells.proofs.OfSortedSets.Items.{item_of}
use Rattle.cell_chains.proofs.Each.{Entry, all_found, found_more, none_found}
use Rattle.cell_chains.proofs.Earlier.{earlier_more, late_here, no_earlier}
use Rattle.cell_chains.proofs.late.late_faults.Goals as goal

pub loop-at-init : goal.loop-at-init
loop-at-init c = record {
  earlier = no_earlier c.args.links.now c.args.led.now c.new-earlier.result c.new-earlier.ensures;
  found = none_found (cells_of c.args.links.now) {X = Home} (HasLate c.args.links.now c.args.led.now) (IsIn c.new-found.result) c.new-found.ensures;
}

pub loop-at-preserved : goal.loop-at-preserved
loop-at-preserved c =
    let links = c.args.links.now in
    let led = c.args.led.now in
    let number = c.loop-at.at-index in
    let entry = c.loop-at-item.result in
    let chains = c.in_ok-chains.chains in
    let lent = c.as_slice-at-items.result.now in
    let item : (d : Entry) → get_or (cells_of links) number d ≡ entry = item_of (cells_of links) lent number entry c.as_slice-at-items.ensures.value c.loop-at-test.true c.loop-at-item.is in
    let within : number < length (cells_of links) = subst (λ (l : List Entry). number < length l) c.as_slice-at-items.ensures.value c.loop-at-test.true in
    let here = late_here links led chains c.in_ok-chains.ensures c.loop-at.earlier number entry within item c.loop-at.invariant.earlier in
    record {
      earlier = earlier_more links led chains c.in_ok-chains.ensures c.loop-at.earlier number entry within item c.loop-at.invariant.earlier c.look_at.new.earlier c.in_ok-look_at.ensures.earlier;
      found = found_more {X = Home} links lent c.as_slice-at-items.ensures.value (HasLate links led) (IsIn c.loop-at.found) number c.loop-at.invariant.found
          (IsIn c.look_at.new.found) entry c.loop-at-test.true c.loop-at-item.is
          (λ home. let put = c.in_ok-look_at.ensures.found home in (
            λ is. ⊎_elim (λ before. inl before) (λ late. inr ((here home).0 late)) (put.0 is),
            λ which. put.1 (⊎_elim (λ before. inl before) (λ late. inr ((here home).1 late)) which),
          ));
    }

pub returns : goal.returns
returns c =
    all_found {X = Home} c.args.links.now c.as_slice-at-items.result.now c.as_slice-at-items.ensures.value (HasLate c.args.links.now c.args.led.now) (IsIn c.loop-at.found) c.loop-at.at-index c.loop-at.invariant.found
    c.as_slice-at-items.ensures.rising c.as_slice-at-items.ensures.numbered c.loop-at-test.false c.loop-at.auto.at-index-end
