use Rattle.std.proofs.Common.{◌↔◌, ◌⊎◌, ◌≤◌, inl, inr, Contains, List, length, subst, arith, ⊎_elim}
use Rattle.cell_faults.specs.page_ways.Frame.{frame_in}
use Rattle.tag_faults.specs.Entries.{IsEntryIn}
use Rattle.tag_faults.specs.declared.named.NamedCell.{NamedCell}
use Rattle.tag_faults.proofs.Counted.{number_more}
use Rattle.tag_faults.proofs.SlotEntries.{entries_all}
use Rattle.tag_faults.proofs.named.read_entries.Goals as goal

pub loop-number-init : goal.loop-number-init
loop-number-init g c one = (
  λ is. absurd (let (k, within, at) = subst (λ (l : List NamedCell). Contains l one) c.new-entries.ensures.items is in omega (arith, within)),
  λ (k, below, others). absurd (omega (arith, below)),
)

pub loop-number-preserved : goal.loop-number-preserved
loop-number-preserved g c one =
    let pages = g.M.MetaPages.pages c.args.pages.now in
    let frame = frame_in c.args.frame.now in
    let table = c.args.table.now in
    let put = subst (λ n. Contains c.push_slot.new.entries.items one ↔ (Contains c.loop-number.entries.items one ⊎ IsEntryIn pages frame table one n)) c.slot_number-slot.ensures (c.in_ok-push_slot.ensures one) in
    let more = number_more (IsEntryIn pages frame table one) c.loop-number.number in
    let before = c.loop-number.invariant one in (
      λ is. more.0 (⊎_elim (λ was. inl (before.0 was)) (λ here. inr here) (put.0 is)),
      λ below. put.1 (⊎_elim (λ low. inl (before.1 low)) (λ here. inr here) (more.1 below)),
    )

pub returns : goal.returns
returns g c one =
    let whole : length c.args.table.now.slots ≤ c.loop-number.number = omega (arith, c.count_slots-number-end.ensures.whole, c.count_slots-number-end.ensures.value, c.loop-number-test.false) in
    let all = entries_all (g.M.MetaPages.pages c.args.pages.now) (frame_in c.args.frame.now) c.args.table.now c.loop-number.number whole one in
    let are = c.loop-number.invariant one in
    ((λ is. all.0 (are.0 is)), (λ has. are.1 (all.1 has)))
