use Rattle.std.proofs.Common.{inl, inr, List, Contains, sym, subst, ⊎_elim}
use Rattle.tag_faults.specs.domain_base.declared.place.Home.{Home}
use Rattle.tag_faults.specs.sorted_sets.Members.{IsIn}
use Rattle.tag_faults.specs.page_ways.Frame.{frame_in}
use Rattle.page_faults.proofs.PagesShared.{fault_behind, has_page}
use Rattle.page_faults.proofs.shared.look_at.Goals as goal

pub returns-clause-found : goal.returns-clause-found
returns-clause-found g c home =
    let pages = g.M.MetaPages.pages c.args.pages.now in
    let homes = c.in_ok-read.read.homes.items in
    let fault = fault_behind pages (frame_in c.args.frame.now) c.args.index.now homes c.in_ok-read.read.unread c.in_ok-read.ensures home (IsIn c.args.earlier.now) in
    let first = c.in_ok-insert_one.ensures home in
    let second = c.in_ok-insert_all_wrong.ensures home in
    let same = c.deref.ensures.value in (
      λ is. ⊎_elim (λ in_first. ⊎_elim (λ was. inl was) (λ last. inr (fault.0 (inl last))) (first.0 in_first))
          (λ (among, wrong). inr (fault.0 (inr (subst (λ (l : List Home). Contains l home) same among, wrong)))) (second.0 is),
      λ which. second.1 (⊎_elim (λ was. inl (first.1 (inl was)))
          (λ is. ⊎_elim (λ last. inl (first.1 (inr last))) (λ (among, wrong). inr (subst (λ (l : List Home). Contains l home) (sym same) among, wrong)) (fault.1 is)) which),
    )

pub returns-clause-earlier : goal.returns-clause-earlier
returns-clause-earlier g c home =
    let pages = g.M.MetaPages.pages c.args.pages.now in
    let has = has_page pages (frame_in c.args.frame.now) c.args.index.now c.in_ok-read.read.homes.items c.in_ok-read.read.unread c.in_ok-read.ensures home in
    let put = c.in_ok-insert_all.ensures home in
    let same = c.deref-2.ensures.value in (
      λ is. ⊎_elim (λ was. inl was) (λ among. inr (has.0 (subst (λ (l : List Home). Contains l home) same among))) (put.0 is),
      λ which. put.1 (⊎_elim (λ was. inl was) (λ page. inr (subst (λ (l : List Home). Contains l home) (sym same) (has.1 page))) which),
    )
