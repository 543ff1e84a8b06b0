use Rattle.std.proofs.Common.{IfNone, IfSome, ◌∙◌, ◌++◌, List, ap, subst}
use Rattle.metadata_cells.specs.Cell.{Cell}
use Rattle.metadata_cells.specs.Chain.{StandsAt}
use Rattle.metadata_cells.specs.cell_records.declared.record.Record.{Record}
use Rattle.cell_chains.specs.Reading.{runs_from}
use Rattle.cell_chains.proofs.ReadRuns.{are_put, none_put}
use Rattle.cell_chains.proofs.reading.push_cell.Goals as goal

pub returns-in_default : goal.returns-in_default
returns-in_default g c =
    let pages = g.M.MetaPages.pages c.args.pages.now in
    let none = subst (λ o. IfNone o ((cell : Cell) → ¬ StandsAt pages c.args.at.now cell)) c.in_default.is c.in_ok-used.ensures.none in
    none_put pages c.args.at.now c.args.runs.now.items none

pub returns : goal.returns
returns g c =
    let pages = g.M.MetaPages.pages c.args.pages.now in
    let at = c.args.at.now in
    let cell : Cell = record { head = c.in-Some.used.head; records = c.in-Some.used.records } in
    let stands : StandsAt pages at cell = subst (λ o. IfSome o (λ used. StandsAt pages at (record { head = used.head; records = used.records }))) c.in-Some.is c.in_ok-used.ensures.some in
    are_put pages at c.args.runs.now.items cell c.push_records.new.runs.items stands
    (c.in_ok-push_records.ensures ∙ ap (λ (l : List Record). c.args.runs.now.items ++ runs_from at l) c.as_slice.ensures)
