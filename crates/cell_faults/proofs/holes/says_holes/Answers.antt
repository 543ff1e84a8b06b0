use Rattle.std.proofs.Common.{IfNone, subst}
use mathlib.Core.Bool.{false≢true}
use Rattle.page_ways.specs.metadata_cells.Cell.{Cell}
use Rattle.page_ways.specs.metadata_cells.Chain.{StandsAt}
use Rattle.cell_faults.proofs.holes.says_holes.Goals as goal

pub returns-in-None : goal.returns-in-None
returns-in-None g c =
    let pages = g.M.MetaPages.pages c.args.pages.now in
    let at = c.args.at.now in
    let none = subst (λ o. IfNone o ((cell : Cell) → ¬ StandsAt pages at cell)) c.in-None.is c.in_ok-_used.ensures.none in
    ((λ says. absurd (false≢true says)), (λ holes. absurd (none holes.0 holes.1)))
