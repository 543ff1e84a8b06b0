use Rattle.std.proofs.Common.{inl, inr, Contains, List, sym, subst, ⊎_elim}
use Rattle.tag_faults.specs.domain_base.declared.place.Home.{Home}
use Rattle.tag_faults.specs.page_ways.Frame.{frame_in}
use Rattle.tag_faults.proofs.SlotPages.{has_page}
use Rattle.page_faults.proofs.homes.push_slot.Goals as goal

pub returns : goal.returns
returns g c home =
    let pages = g.M.MetaPages.pages c.args.pages.now in
    let read = c.in_ok-read.read in
    let all = has_page pages (frame_in c.args.frame.now) c.args.table.now c.args.number read.homes.items read.unread c.in_ok-read.ensures home in
    let put = c.in_ok-push_homes.ensures home in
    let same = c.deref.ensures.value in (
      λ is. ⊎_elim (λ was. inl was) (λ among. inr (all.0 (subst (λ (l : List Home). Contains l home) same among))) (put.0 is),
      λ which. put.1 (⊎_elim (λ was. inl was) (λ has. inr (subst (λ (l : List Home). Contains l home) (sym same) (all.1 has))) which),
    )
