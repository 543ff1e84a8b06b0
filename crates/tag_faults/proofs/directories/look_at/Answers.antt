use Rattle.std.proofs.Common.{inl, inr, List, Contains, sym, subst, ⊎_elim}
use Rattle.cell_faults.specs.domain_base.declared.place.Home.{Home}
use Rattle.cell_faults.specs.page_ways.Frame.{frame_in}
use Rattle.tag_faults.specs.Directories.{IsWrongAmong}
use Rattle.tag_faults.proofs.SlotPages.{has_page, wrong_page}
use Rattle.tag_faults.proofs.directories.look_at.Goals as goal

pub returns-clause-found : goal.returns-clause-found
returns-clause-found g c home =
    let pages = g.M.MetaPages.pages c.args.pages.now in
    let frame = frame_in c.args.frame.now in
    let table = c.args.table.now in
    let number = c.args.number in
    let homes = c.in_ok-read.read.homes.items in
    let unread = c.in_ok-read.read.unread in
    let read = c.in_ok-read.ensures in
    let first = c.in_ok-insert_one.ensures home in
    let second = c.in_ok-insert_shared.ensures home in
    let third = c.in_ok-insert_wrong_pages.ensures home in
    let none = read.wrong home in
    let has = has_page pages frame table number homes unread read home in
    let wrong = wrong_page pages frame table number homes unread read home in
    let same = c.deref.ensures.value in
    let same_too = c.deref-2.ensures.value in (
      λ is. ⊎_elim
          (λ in_second. ⊎_elim (λ in_first. ⊎_elim (λ was. inl was) (λ there. inr (inl (none.0 there))) (first.0 in_first))
          (λ (among, earlier). inr (inr (inl (has.0 (subst (λ (l : List Home). Contains l home) same among), earlier)))) (second.0 in_second))
          (λ among. inr (inr (inr (wrong.0 (subst (λ (l : List Home). IsWrongAmong pages l home) same_too among))))) (third.0 is),
      λ which. third.1 (⊎_elim (λ was. inl (second.1 (inl (first.1 (inl was)))))
          (λ fault. ⊎_elim (λ there. inl (second.1 (inl (first.1 (inr (none.1 there))))))
          (λ others. ⊎_elim (λ (page, earlier). inl (second.1 (inr (subst (λ (l : List Home). Contains l home) (sym same) (has.1 page), earlier))))
          (λ bad. inr (subst (λ (l : List Home). IsWrongAmong pages l home) (sym same_too) (wrong.1 bad))) others) fault) which),
    )

pub returns-clause-earlier : goal.returns-clause-earlier
returns-clause-earlier g c home =
    let pages = g.M.MetaPages.pages c.args.pages.now in
    let has = has_page pages (frame_in c.args.frame.now) c.args.table.now c.args.number c.in_ok-read.read.homes.items c.in_ok-read.read.unread c.in_ok-read.ensures home in
    let put = c.in_ok-insert_all.ensures home in
    let same = c.deref-3.ensures.value in (
      λ is. ⊎_elim (λ was. inl was) (λ among. inr (has.0 (subst (λ (l : List Home). Contains l home) same among))) (put.0 is),
      λ which. put.1 (⊎_elim (λ was. inl was) (λ page. inr (subst (λ (l : List Home). Contains l home) (sym same) (has.1 page))) which),
    )
