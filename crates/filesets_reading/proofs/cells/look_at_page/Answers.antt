use Rattle.std.proofs.Common.{◌≡◌, ℕ, subst, arith, ⊎_elim}
use Rattle.std.proofs.lemmas.Bool.{cases_lt}
use Rattle.filesets_reading.specs.Good.{IsDecided}
use Rattle.filesets_reading.proofs.cells.look_at_page.Goals as goal

pub loop-cell-preserved : goal.loop-cell-preserved
loop-cell-preserved g c = λ k below.
    ⊎_elim (λ less. c.loop-cell.invariant k less)
    (λ high.
    let last : c.loop-cell.cell ≡ k = omega (arith, below, high) in
    subst (λ (n : ℕ). IsDecided (g.M.MetaPages.pages c.args.pages.now) (record { vol = c.args.home.vol; page = c.args.home.page; cell = n })) last c.in_ok-look_at_cell.ensures)
    (cases_lt k c.loop-cell.cell)
