use Rattle.std.proofs.Common.{◌↔◌, ◌⊎◌, ◌≤◌, inl, inr, length, subst, arith, ⊎_elim}
use Rattle.cell_faults.specs.page_ways.Frame.{frame_in}
use Rattle.cell_faults.specs.sorted_sets.Members.{IsIn}
use Rattle.tag_faults.specs.Directories.{HasPage, IsFaultBehind}
use Rattle.tag_faults.proofs.Counted.{number_more}
use Rattle.tag_faults.proofs.SlotPages.{HasPageBelow, IsFaultAt, all_faults, same_fault}
use Rattle.tag_faults.proofs.directories.directory_faults.Goals as goal

pub loop-number-init : goal.loop-number-init
loop-number-init g c = record {
  earlier = λ home. ((λ is. absurd (c.new-earlier.ensures home is)), (λ (k, below, others). absurd (omega (arith, below))));
  found = λ home. ((λ is. absurd (c.new-found.ensures home is)), (λ (k, below, others). absurd (omega (arith, below))));
}

pub loop-number-preserved : goal.loop-number-preserved
loop-number-preserved g c =
    let pages = g.M.MetaPages.pages c.args.pages.now in
    let frame = frame_in c.args.frame.now in
    let table = c.args.table.now in
    let number = c.loop-number.number in
    let old = IsIn c.loop-number.earlier in
    record {
      earlier = λ home.
          let put = subst (λ n. IsIn c.look_at.new.earlier home ↔ (old home ⊎ HasPage pages frame table n home)) c.slot_number-slot.ensures (c.in_ok-look_at.ensures.earlier home) in
          let more = number_more (λ n. HasPage pages frame table n home) number in
          let before = c.loop-number.invariant.earlier home in (
            λ is. more.0 (⊎_elim (λ was. inl (before.0 was)) (λ here. inr here) (put.0 is)),
            λ below. put.1 (⊎_elim (λ low. inl (before.1 low)) (λ here. inr here) (more.1 below)),
          );
      found = λ home.
          let put = subst (λ n. IsIn c.look_at.new.found home ↔ (IsIn c.loop-number.found home ⊎ IsFaultBehind pages frame table n old home)) c.slot_number-slot.ensures (c.in_ok-look_at.ensures.found home) in
          let more = number_more (IsFaultAt pages frame table home) number in
          let before = c.loop-number.invariant.found home in
          let earlier = c.loop-number.invariant.earlier home in (
            λ is. more.0 (⊎_elim (λ was. inl (before.0 was)) (λ here. inr (same_fault pages frame table number old (HasPageBelow pages frame table number) home earlier.0 here)) (put.0 is)),
            λ below. put.1 (⊎_elim (λ low. inl (before.1 low)) (λ here. inr (same_fault pages frame table number (HasPageBelow pages frame table number) old home earlier.1 here)) (more.1 below)),
          );
    }

pub returns : goal.returns
returns g c home =
    let whole : length c.args.table.now.slots ≤ c.loop-number.number = omega (arith, c.count_slots-number-end.ensures.whole, c.count_slots-number-end.ensures.value, c.loop-number-test.false) in
    let all = all_faults (g.M.MetaPages.pages c.args.pages.now) (frame_in c.args.frame.now) c.args.table.now c.loop-number.number whole home in
    let are = c.loop-number.invariant.found home in
    ((λ is. all.0 (are.0 is)), (λ fault. are.1 (all.1 fault)))
