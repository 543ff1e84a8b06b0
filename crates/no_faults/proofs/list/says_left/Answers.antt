use Rattle.std.proofs.Common.{IfNone, subst}
use mathlib.Core.Bool.{false≢true}
use Rattle.domain_memory.specs.metadata_cells.Cell.{Cell}
use Rattle.domain_memory.specs.metadata_cells.Chain.{StandsAt}
use Rattle.no_faults.proofs.list.says_left.Goals as goal

pub returns-in_default : goal.returns-in_default
returns-in_default g c =
    let pages = g.M.MetaPages.pages c.args.pages.now in
    let at = c.args.at.now in
    let none = subst (λ o. IfNone o ((cell : Cell) → ¬ StandsAt pages at cell)) c.in_default.is c.in_ok-used.ensures.none in
    ((λ says. absurd (false≢true says)), (λ says. absurd (none says.cell says.stands)))
