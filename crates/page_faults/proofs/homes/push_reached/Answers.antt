use Rattle.std.proofs.Common.{inl, inr, List, Contains, subst, sym, ⊎_elim}
use Rattle.tag_faults.specs.domain_base.declared.place.Home.{Home}
use Rattle.tag_faults.specs.domain_layout.Reached.{index_way}
use Rattle.tag_faults.specs.page_ways.Frame.{frame_in}
use Rattle.page_faults.proofs.HomesFound.{reached_all}
use Rattle.page_faults.proofs.homes.push_reached.Goals as goal

pub returns : goal.returns
returns g c home =
    let pages = g.M.MetaPages.pages c.args.pages.now in
    let read = c.in_ok-read.read in
    let all = reached_all pages (frame_in c.args.frame.now) (index_way c.args.first.now) read.homes.items read.unread c.in_ok-read.ensures home in
    let first = c.in_ok-push_homes.ensures home in
    let last = c.in_ok-push_one.ensures home in
    let same = c.deref.ensures.value in (
      λ is. ⊎_elim (λ before. ⊎_elim (λ was. inl was) (λ among. inr (all.0 (inl (subst (λ (l : List Home). Contains l home) same among)))) (first.0 before)) (λ one. inr (all.0 (inr one))) (last.0 is),
      λ which. last.1 (⊎_elim (λ was. inl (first.1 (inl was)))
          (λ reached. ⊎_elim (λ among. inl (first.1 (inr (subst (λ (l : List Home). Contains l home) (sym same) among)))) (λ one. inr one) (all.1 reached)) which),
    )
