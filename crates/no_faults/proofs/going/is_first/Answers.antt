use Rattle.std.proofs.Common.{IfNone, subst}
use mathlib.Core.Bool.{false≢true}
use Rattle.domain_memory.specs.metadata_cells.Chain.{HasHeadAt}
use Rattle.domain_memory.specs.metadata_cells.declared.head.CellHead.{CellHead}
use Rattle.no_faults.proofs.going.is_first.Goals as goal

pub returns-in_default : goal.returns-in_default
returns-in_default g c =
    let pages = g.M.MetaPages.pages c.args.pages.now in
    let at = c.args.at.now in
    let none = subst (λ o. IfNone o ((head : CellHead) → ¬ HasHeadAt pages at head)) c.in_default.is c.read_head.ensures.none in
    ((λ says. absurd (false≢true says)), (λ first. absurd (none first.head first.has)))
