use Rattle.std.proofs.Common.{◌↔◌, ◌⊎◌, ◌≤◌, inl, inr, List, length, subst, arith, ⊎_elim}
use Rattle.cell_faults.specs.page_ways.Frame.{frame_in}
use Rattle.cell_faults.specs.sorted_sets.Members.{IsIn}
use Rattle.tag_faults.specs.Roots.{LacksRoot}
use Rattle.tag_faults.specs.declared.named.NamedCell.{NamedCell}
use Rattle.tag_faults.proofs.Counted.{number_more}
use Rattle.tag_faults.proofs.Rootless.{rootless_all}
use Rattle.tag_faults.proofs.roots.root_faults.Goals as goal

pub loop-number-preserved : goal.loop-number-preserved
loop-number-preserved g c home =
    let pages = g.M.MetaPages.pages c.args.pages.now in
    let frame = frame_in c.args.frame.now in
    let table = c.args.table.now in
    let entries = c.in_ok-entries.entries.items in
    let found = c.insert_rootless.new.found in
    let old = c.loop-number.found in
    let by_slot = subst (λ n. IsIn found home ↔ (IsIn old home ⊎ LacksRoot pages frame table c.deref.result.now home n)) c.slot_number-slot.ensures (c.in_ok-insert_rootless.ensures home) in
    let put = subst (λ (l : List NamedCell). IsIn found home ↔ (IsIn old home ⊎ LacksRoot pages frame table l home c.loop-number.number)) c.deref.ensures.value by_slot in
    let more = number_more (LacksRoot pages frame table entries home) c.loop-number.number in
    let before = c.loop-number.invariant home in (
      λ is. more.0 (⊎_elim (λ was. inl (before.0 was)) (λ here. inr here) (put.0 is)),
      λ below. put.1 (⊎_elim (λ low. inl (before.1 low)) (λ here. inr here) (more.1 below)),
    )

pub returns : goal.returns
returns g c home =
    let whole : length c.args.table.now.slots ≤ c.loop-number.number = omega (arith, c.count_slots-number-end.ensures.whole, c.count_slots-number-end.ensures.value, c.loop-number-test.false) in
    let all = rootless_all (g.M.MetaPages.pages c.args.pages.now) (frame_in c.args.frame.now) c.args.table.now c.in_ok-entries.entries.items c.in_ok-entries.ensures c.loop-number.number whole home in
    let are = c.loop-number.invariant home in
    ((λ is. all.0 (are.0 is)), (λ fault. are.1 (all.1 fault)))
