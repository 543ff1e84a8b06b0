use Rattle.std.proofs.Common.{IfNone, IfSome, refl, subst}
use Rattle.cell_faults.specs.metadata_cells.Cell.{Cell}
use Rattle.cell_faults.specs.metadata_cells.Chain.{StandsAt}
use Rattle.tag_faults.proofs.Alone.{stays_by}
use Rattle.tag_faults.proofs.unnamed.stays.Goals as goal

pub returns-in_default : goal.returns-in_default
returns-in_default g c =
    let pages = g.M.MetaPages.pages c.args.pages.now in
    let none = subst (λ o. IfNone o ((cell : Cell) → ¬ StandsAt pages c.args.at.now cell)) c.in_default.is c.in_ok-_used.ensures.none in
    ((λ yes cell stands. absurd (none cell stands)), (λ stays. refl))

pub returns : goal.returns
returns g c =
    let pages = g.M.MetaPages.pages c.args.pages.now in
    let at = c.args.at.now in
    let cell : Cell = record { head = c.in-Some._used.head; records = c.in-Some._used.records } in
    let stands : StandsAt pages at cell = subst (λ o. IfSome o (λ used. StandsAt pages at (record { head = used.head; records = used.records }))) c.in-Some.is c.in_ok-_used.ensures.some in
    stays_by pages at cell c.is_removed.result stands (c.is_removed.ensures cell stands)
