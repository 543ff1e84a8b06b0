use Rattle.std.proofs.Common.{◌≡◌, inl, inr, refl, ⊎_elim}
use Rattle.tag_faults.specs.cell_faults.declared.tables.CellsPage.{CellsPage}
use Rattle.tag_faults.proofs.OfSortedSets.Items.{item_of}
use Rattle.tag_faults.proofs.OfSortedSets.Below.{below_all, below_more}
use Rattle.page_faults.proofs.homes.push_cells.Goals as goal

pub loop-page-preserved : goal.loop-page-preserved
loop-page-preserved c home =
    let more = below_more {X = CellsPage} c.args.read.now (λ page. page.home ≡ home) c.loop-page.page-index c.page-item.result (item_of c.args.read.now c.args.read.now c.loop-page.page-index c.page-item.result refl c.loop-page-test.true c.page-item.is) in
    let put = c.in_ok-push_home.ensures home in
    let before = c.loop-page.invariant home in (
      λ is. ⊎_elim (λ was. ⊎_elim (λ first. inl first) (λ low. inr (more.0 (inl low))) (before.0 was)) (λ here. inr (more.0 (inr here))) (put.0 is),
      λ which. put.1 (⊎_elim (λ first. inl (before.1 (inl first))) (λ below. ⊎_elim (λ low. inl (before.1 (inr low))) (λ here. inr here) (more.1 below)) which),
    )

pub returns : goal.returns
returns c home =
    let all = below_all {X = CellsPage} c.args.read.now (λ page. page.home ≡ home) c.loop-page.page-index c.loop-page-test.false c.loop-page.auto.page-index-end in
    let are = c.loop-page.invariant home in (
      λ is. ⊎_elim (λ first. inl first) (λ below. inr (all.0 below)) (are.0 is),
      λ which. are.1 (⊎_elim (λ first. inl first) (λ found. inr (all.1 found)) which),
    )
