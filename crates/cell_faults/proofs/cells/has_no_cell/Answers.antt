use Rattle.std.proofs.Common.{◌∙◌, IfNone, IfSome, sym, subst}
use mathlib.Core.Bool.{false≢true}
use Rattle.page_ways.specs.metadata_cells.Cell.{Cell, IsFreeCell}
use Rattle.page_ways.specs.metadata_cells.CellPage.{cell_of}
use Rattle.page_ways.specs.metadata_cells.Chain.{StandsAt}
use Rattle.cell_faults.proofs.NoCell.{known_decides, none_stands}
use Rattle.cell_faults.proofs.cells.has_no_cell.Goals as goal

pub returns-in-Some : goal.returns-in-Some
returns-in-Some g c =
    let pages = g.M.MetaPages.pages c.args.pages.now in
    let at = c.args.at in
    let not_free : ¬ IsFreeCell (cell_of c.args.page.now at.cell) = λ free. false≢true (sym c.if-is_free.false ∙ c.is_free.ensures.1 free) in
    let cell : Cell = record { head = c.in-Some.used.head; records = c.in-Some.used.records } in
    let stands : StandsAt pages at cell = subst (λ o. IfSome o (λ used. StandsAt pages at (record { head = used.head; records = used.records }))) c.in-Some.is c.in_ok-used.ensures.some in
    known_decides pages c.args.version c.args.page.now at not_free cell c.are_known.result stands c.are_known.ensures

pub returns-in-None : goal.returns-in-None
returns-in-None g c =
    let pages = g.M.MetaPages.pages c.args.pages.now in
    let at = c.args.at in
    let not_free : ¬ IsFreeCell (cell_of c.args.page.now at.cell) = λ free. false≢true (sym c.if-is_free.false ∙ c.is_free.ensures.1 free) in
    none_stands pages c.args.version c.args.page.now at not_free
    (subst (λ o. IfNone o ((cell : Cell) → ¬ StandsAt pages at cell)) c.in-None.is c.in_ok-used.ensures.none)
