use Rattle.std.proofs.Common.{◌≡◌, inl, inr, Contains, refl, subst, ⊎_elim}
use Rattle.tag_faults.specs.domain_base.declared.place.Home.{Home}
use Rattle.tag_faults.proofs.OfSortedSets.Items.{item_of}
use Rattle.tag_faults.proofs.OfSortedSets.Below.{below_all, below_more}
use Rattle.page_faults.proofs.homes.push_homes.Goals as goal

pub loop-one-preserved : goal.loop-one-preserved
loop-one-preserved c home =
    let more = below_more {X = Home} c.args.more.now (λ one. one ≡ home) c.loop-one.one-index c.one-item.result (item_of c.args.more.now c.args.more.now c.loop-one.one-index c.one-item.result refl c.loop-one-test.true c.one-item.is) in
    let put = c.in_ok-push_home.ensures home in
    let before = c.loop-one.invariant home in (
      λ is. ⊎_elim (λ was. ⊎_elim (λ first. inl first) (λ low. inr (more.0 (inl low))) (before.0 was)) (λ here. inr (more.0 (inr here))) (put.0 is),
      λ which. put.1 (⊎_elim (λ first. inl (before.1 (inl first))) (λ below. ⊎_elim (λ low. inl (before.1 (inr low))) (λ here. inr here) (more.1 below)) which),
    )

pub returns : goal.returns
returns c home =
    let all = below_all {X = Home} c.args.more.now (λ one. one ≡ home) c.loop-one.one-index c.loop-one-test.false c.loop-one.auto.one-index-end in
    let are = c.loop-one.invariant home in (
      λ is. ⊎_elim (λ first. inl first) (λ below. let (one, among, same) = all.0 below in inr (subst (Contains c.args.more.now) same among)) (are.0 is),
      λ which. are.1 (⊎_elim (λ first. inl first) (λ found. inr (all.1 (home, found, refl))) which),
    )
