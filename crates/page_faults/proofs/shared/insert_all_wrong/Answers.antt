use Rattle.std.proofs.Common.{◌≡◌, inl, inr, Contains, refl, subst, ⊎_elim}
use Rattle.tag_faults.specs.domain_base.declared.place.Home.{Home}
use Rattle.tag_faults.specs.sorted_sets.Members.{IsIn}
use Rattle.tag_faults.proofs.OfSortedSets.Items.{item_of}
use Rattle.tag_faults.proofs.OfSortedSets.Below.{below_all, below_more, none_below}
use Rattle.page_faults.specs.Shared.{IsWrongAt}
use Rattle.page_faults.proofs.shared.insert_all_wrong.Goals as goal

pub loop-home-init : goal.loop-home-init
loop-home-init g c other = (
  λ is. inl is,
  λ which. ⊎_elim (λ is. is) (λ below. absurd (none_below {X = Home} c.args.homes.now (λ home. (home ≡ other) × IsWrongAt (g.M.MetaPages.pages c.args.pages.now) (IsIn c.args.earlier.now) home) below)) which,
)

pub loop-home-preserved : goal.loop-home-preserved
loop-home-preserved g c other =
    let homes = c.args.homes.now in
    let number = c.loop-home.home-index in
    let item = c.home-item.result in
    let more = below_more {X = Home} homes (λ home. (home ≡ other) × IsWrongAt (g.M.MetaPages.pages c.args.pages.now) (IsIn c.args.earlier.now) home) number item (item_of homes homes number item refl c.loop-home-test.true c.home-item.is) in
    let put = c.in_ok-insert_wrong.ensures other in
    let before = c.loop-home.invariant other in (
      λ is. ⊎_elim (λ was. ⊎_elim (λ first. inl first) (λ low. inr (more.0 (inl low))) (before.0 was)) (λ here. inr (more.0 (inr here))) (put.0 is),
      λ which. put.1 (⊎_elim (λ first. inl (before.1 (inl first))) (λ below. ⊎_elim (λ low. inl (before.1 (inr low))) (λ here. inr here) (more.1 below)) which),
    )

pub returns : goal.returns
returns g c other =
    let homes = c.args.homes.now in
    let Wrong = IsWrongAt (g.M.MetaPages.pages c.args.pages.now) (IsIn c.args.earlier.now) in
    let all = below_all {X = Home} homes (λ home. (home ≡ other) × Wrong home) c.loop-home.home-index c.loop-home-test.false c.loop-home.auto.home-index-end in
    let are = c.loop-home.invariant other in (
      λ is. ⊎_elim (λ first. inl first) (λ below. let (home, among, (same, wrong)) = all.0 below in inr (subst (λ h. Contains homes h × Wrong h) same (among, wrong))) (are.0 is),
      λ which. are.1 (⊎_elim (λ first. inl first) (λ (among, wrong). inr (all.1 (other, among, (refl, wrong)))) which),
    )
