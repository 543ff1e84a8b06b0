use Rattle.std.proofs.Common.{inl, ◌∙◌, sym, arith}
use Rattle.std.proofs.lemmas.Grind.{common_steps}
use Rattle.free_cells.proofs.Belongs.{belong_fewer}
use Rattle.free_cells.proofs.cells.FreeCells.activate.Goals as goal

pub returns-clause-value : goal.returns-clause-value
returns-clause-value c = grind (arith, common_steps)

pub returns-clause-belong : goal.returns-clause-belong
returns-clause-belong c =
    let value = returns-clause-value c in
    belong_fewer _ _ (λ vol. inl (value.tables vol)) (λ at free. (sym (value.cells at) ∙ free, value.tables at.vol))
