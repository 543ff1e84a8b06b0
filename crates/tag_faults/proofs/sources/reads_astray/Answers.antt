use Rattle.std.proofs.Common.{IfNone, subst}
use mathlib.Core.Bool.{false≢true}
use Rattle.cell_faults.specs.metadata_cells.Cell.{Cell}
use Rattle.cell_faults.specs.metadata_cells.Chain.{StandsAt}
use Rattle.tag_faults.proofs.sources.reads_astray.Goals as goal

pub returns-in_default : goal.returns-in_default
returns-in_default g c =
    let pages = g.M.MetaPages.pages c.args.pages.now in
    let none = subst (λ o. IfNone o ((cell : Cell) → ¬ StandsAt pages c.args.at.now cell)) c.in_default.is c.in_ok-used.ensures.none in
    ((λ is. absurd (false≢true is)), (λ astray. absurd (none astray.0 astray.1)))
