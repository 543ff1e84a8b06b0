use Rattle.std.proofs.Common.{◌∙◌, IfNone, IfSome, sym, subst}
use mathlib.Core.Bool.{false≢true}
use Rattle.cell_faults.specs.metadata_cells.Cell.{Cell}
use Rattle.cell_faults.specs.metadata_cells.Chain.{StandsAt}
use Rattle.cell_faults.specs.page_ways.Frame.{frame_in}
use Rattle.tag_faults.proofs.UsedCells.{late_by, used_link}
use Rattle.tag_faults.proofs.late.has_late_number.Goals as goal

pub returns-then-not-has : goal.returns-then-not-has
returns-then-not-has g c = (
  λ is. absurd (false≢true is),
  λ (cell, is, found). absurd (false≢true (sym c.if-not-has.true ∙ c.has.ensures.1 (used_link (g.M.MetaPages.pages c.args.pages.now) (frame_in c.args.frame.now) c.args.links.now c.requires c.args.at.now cell is))),
)

pub returns-in_default : goal.returns-in_default
returns-in_default g c =
    let pages = g.M.MetaPages.pages c.args.pages.now in
    let none = subst (λ o. IfNone o ((cell : Cell) → ¬ StandsAt pages c.args.at.now cell)) c.in_default.is c.in_ok-_used.ensures.none in
    ((λ is. absurd (false≢true is)), (λ (cell, is, found). absurd (none cell is.stands)))

pub returns : goal.returns
returns g c =
    let pages = g.M.MetaPages.pages c.args.pages.now in
    let at = c.args.at.now in
    let cell : Cell = record { head = c.in-Some._used.head; records = c.in-Some._used.records } in
    let stands : StandsAt pages at cell = subst (λ o. IfSome o (λ used. StandsAt pages at (record { head = used.head; records = used.records }))) c.in-Some.is c.in_ok-_used.ensures.some in
    late_by pages (frame_in c.args.frame.now) c.args.links.now c.requires at c.args.table.now cell c.is_late_at.result (c.has.ensures.0 c.if-not-has.false) stands (c.is_late_at.ensures cell stands)
