use Rattle.std.proofs.Common.{◌≡◌, List, ℕ, Some, IfNone, sym, subst, ◌∙◌}
use Rattle.metadata_cells.specs.declared.head.CellHead.{CellHead}
use Rattle.metadata_cells.specs.Cell.{HasHead}
use Rattle.metadata_cells.specs.Chain.{HasHeadAt}
use Rattle.metadata_cells.proofs.reading.read_head.Goals as goal

some_is : (a b : List ℕ) → Some a ≡ Some b → a ≡ b
some_is a b same = cc

pub returns-in_err-head-clause-none : goal.returns-in_err-head-clause-none
returns-in_err-head-clause-none g c =
    subst (λ r. IfNone r ((head : CellHead) → ¬ HasHeadAt (g.M.MetaPages.pages c.args.pages.now) c.args.at head)) (sym c.from_residual-in_err-head.ensures)
    (λ head there.
    let same = some_is there.bytes c.in_ok-cell.cell.now (sym there.there ∙ sym c.in_ok-cell.ensures.value) in
    c.in_err-head.ensures.none head there.size (subst (λ bytes. HasHead bytes head there.size) same there.is))
