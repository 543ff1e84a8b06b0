use Rattle.std.proofs.Common.{◌≡◌, ◌⊎◌, inl, inr, Contains, refl, subst, ⊎_elim}
use Rattle.metadata_cells.specs.domain_base.declared.place.Home.{Home}
use Rattle.metadata_cells.proofs.OfSortedSets.Items.{item_of}
use Rattle.metadata_cells.proofs.OfSortedSets.Below.{below_all, below_more}
use Rattle.cell_chains.specs.Runs.{on}
use Rattle.cell_chains.proofs.pages.push_pages.Goals as goal

pub loop-home-preserved : goal.loop-home-preserved
loop-home-preserved c n =
    let more = below_more {X = Home} c.args.homes.now (λ home. home ≡ on c.args.vol n) c.loop-home.home-index c.home-item.result (item_of c.args.homes.now c.args.homes.now c.loop-home.home-index c.home-item.result refl c.loop-home-test.true c.home-item.is) in
    let put = c.in_ok-push_page.ensures n in
    let before = c.loop-home.invariant n in (
      λ is. ⊎_elim (λ was. ⊎_elim (λ first. inl first) (λ low. inr (more.0 (inl low))) (before.0 was)) (λ here. inr (more.0 (inr here))) (put.0 is),
      λ which. put.1 (⊎_elim (λ first. inl (before.1 (inl first))) (λ below. ⊎_elim (λ low. inl (before.1 (inr low))) (λ here. inr here) (more.1 below)) which),
    )

pub returns : goal.returns
returns c n =
    let all = below_all {X = Home} c.args.homes.now (λ home. home ≡ on c.args.vol n) c.loop-home.home-index c.loop-home-test.false c.loop-home.auto.home-index-end in
    let are = c.loop-home.invariant n in (
      λ is. ⊎_elim (λ first. inl first) (λ below. let (home, among, same) = all.0 below in inr (subst (Contains c.args.homes.now) same among)) (are.0 is),
      λ which. are.1 (⊎_elim (λ first. inl first) (λ among. inr (all.1 (on c.args.vol n, among, refl))) which),
    )
