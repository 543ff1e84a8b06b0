use Rattle.std.proofs.Common.{◌↔◌, ◌⊎◌, inl, inr, Contains, subst, arith, ⊎_elim}
use Rattle.tag_faults.specs.page_ways.Frame.{frame_in}
use Rattle.tag_faults.specs.Directories.{HasPage}
use Rattle.tag_faults.proofs.Counted.{number_more, within_of}
use Rattle.page_faults.proofs.homes.push_tags.Goals as goal

pub loop-number-preserved : goal.loop-number-preserved
loop-number-preserved g c home =
    let pages = g.M.MetaPages.pages c.args.pages.now in
    let frame = frame_in c.args.frame.now in
    let table = c.args.table.now in
    let put = subst (λ n. Contains c.push_slot.new.homes.items home ↔ (Contains c.loop-number.homes.items home ⊎ HasPage pages frame table n home)) c.slot_number-slot.ensures (c.in_ok-push_slot.ensures home) in
    let more = number_more (λ n. HasPage pages frame table n home) c.loop-number.number in
    let before = c.loop-number.invariant home in (
      λ is. ⊎_elim (λ was. ⊎_elim (λ first. inl first) (λ low. inr (more.0 (inl low))) (before.0 was)) (λ here. inr (more.0 (inr here))) (put.0 is),
      λ which. put.1 (⊎_elim (λ first. inl (before.1 (inl first))) (λ below. ⊎_elim (λ low. inl (before.1 (inr low))) (λ here. inr here) (more.1 below)) which),
    )

pub returns : goal.returns
returns g c home =
    let are = c.loop-number.invariant home in (
      λ is. ⊎_elim (λ first. inl first) (λ (number, below, has). inr (number, has)) (are.0 is),
      λ which. are.1 (⊎_elim (λ first. inl first)
          (λ (number, (place, page, is)). inr (number, omega (arith, within_of c.args.table.now.slots number is.has.item is.has.there, c.count_slots-number-end.ensures.whole, c.count_slots-number-end.ensures.value, c.loop-number-test.false), (place, page, is))) which),
    )
