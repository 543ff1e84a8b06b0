use Rattle.std.proofs.Common.{IfNone, subst}
use mathlib.Core.Bool.{false≢true}
use Rattle.no_faults.specs.metadata_cells.Cell.{Cell}
use Rattle.no_faults.specs.metadata_cells.Chain.{StandsAt}
use Rattle.attached_domain.proofs.signs.says.Goals as goal

pub returns-in_default : goal.returns-in_default
returns-in_default g c =
    let pages = g.M.MetaPages.pages c.args.pages.now in
    let at = c.args.at.now in
    let none = subst (λ o. IfNone o ((cell : Cell) → ¬ StandsAt pages at cell)) c.in_default.is c.in_ok-_used.ensures.none in
    ((λ is. absurd (false≢true is)), (λ is. absurd (none is.cell is.stands)))
