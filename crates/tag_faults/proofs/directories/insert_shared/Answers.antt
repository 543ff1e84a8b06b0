use Rattle.std.proofs.Common.{◌≡◌, inl, inr, Contains, refl, subst, ⊎_elim}
use Rattle.cell_faults.specs.domain_base.declared.place.Home.{Home}
use Rattle.cell_faults.specs.sorted_sets.Members.{IsIn}
use Rattle.cell_faults.proofs.OfSortedSets.Items.{item_of}
use Rattle.cell_faults.proofs.OfSortedSets.Below.{below_all, below_more}
use Rattle.tag_faults.proofs.directories.insert_shared.Goals as goal

pub loop-home-preserved : goal.loop-home-preserved
loop-home-preserved c other =
    let homes = c.args.homes.now in
    let number = c.loop-home.home-index in
    let item = c.home-item.result in
    let more = below_more homes (λ (home : Home). (home ≡ other) × IsIn c.args.earlier.now home) number item (item_of homes homes number item refl c.loop-home-test.true c.home-item.is) in
    let put = c.in_ok-insert_if.ensures other in
    let before = c.loop-home.invariant other in (
      λ is. ⊎_elim (λ was. ⊎_elim (λ first. inl first) (λ low. inr (more.0 (inl low))) (before.0 was)) (λ here. inr (more.0 (inr here))) (put.0 is),
      λ which. put.1 (⊎_elim (λ first. inl (before.1 (inl first))) (λ below. ⊎_elim (λ low. inl (before.1 (inr low))) (λ here. inr here) (more.1 below)) which),
    )

pub returns : goal.returns
returns c other =
    let all = below_all c.args.homes.now (λ (home : Home). (home ≡ other) × IsIn c.args.earlier.now home) c.loop-home.home-index c.loop-home-test.false c.loop-home.auto.home-index-end in
    let are = c.loop-home.invariant other in (
      λ is. ⊎_elim (λ first. inl first)
          (λ below. let (home, among, (same, has)) = all.0 below in inr (subst (Contains c.args.homes.now) same among, subst (IsIn c.args.earlier.now) same has)) (are.0 is),
      λ which. are.1 (⊎_elim (λ first. inl first) (λ (among, has). inr (all.1 (other, among, (refl, has)))) which),
    )
