use Rattle.std.proofs.Common.{inl, inr, List, sym, subst, ⊎_elim}
use Rattle.cell_faults.specs.domain_base.declared.place.Home.{Home}
use Rattle.cell_faults.specs.page_ways.Frame.{frame_in}
use Rattle.tag_faults.specs.Entries.{IsEntryAmong}
use Rattle.tag_faults.proofs.SlotEntries.{entries_in}
use Rattle.tag_faults.proofs.named.push_slot.Goals as goal

pub returns : goal.returns
returns g c one =
    let pages = g.M.MetaPages.pages c.args.pages.now in
    let all = entries_in pages (frame_in c.args.frame.now) c.args.table.now c.args.number c.in_ok-read.read.homes.items c.in_ok-read.read.unread c.in_ok-read.ensures one in
    let put = c.in_ok-push_pages.ensures one in
    let same = c.deref.ensures.value in (
      λ is. ⊎_elim (λ was. inl was) (λ among. inr (all.0 (subst (λ (l : List Home). IsEntryAmong pages c.args.number l one) same among))) (put.0 is),
      λ which. put.1 (⊎_elim (λ was. inl was) (λ there. inr (subst (λ (l : List Home). IsEntryAmong pages c.args.number l one) (sym same) (all.1 there))) which),
    )
