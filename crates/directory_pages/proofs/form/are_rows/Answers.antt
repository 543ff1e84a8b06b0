use Rattle.std.proofs.Common.{◌≡◌, ◌∙◌, ◌+◌, ◌-◌, ◌<◌, drop, sym, ap, arith}
use Rattle.std.proofs.lemmas.List.{take_rest}
use Rattle.directory_pages.specs.Rows.{are_rows as rows_there}
use Rattle.directory_pages.proofs.Again.{not_rows, rows_go_on}
use Rattle.directory_pages.proofs.form.are_rows.Goals as goal

pub returns-then-not-is_row : goal.returns-then-not-is_row
returns-then-not-is_row c =
    let left : 0 < c.args.count - c.loop-row._row = omega arith in
    sym (c.loop-row.invariant ∙ not_rows (c.args.count - c.loop-row._row) c.loop-row.rest.now left (sym c.is_row.ensures ∙ c.if-not-is_row.true))

pub loop-row-preserved : goal.loop-row-preserved
loop-row-preserved c =
    let rest = c.loop-row.rest.now in
    let left : 0 < c.args.count - c.loop-row._row = omega arith in
    let next : c.args.count - c.loop-row._row - 1 ≡ c.args.count - (c.loop-row._row + 1) = omega arith in
    let size = c.from-size.ensures ∙ c.u8_at.ensures in
    let others = ap (λ n. drop (8 + n) rest) (sym size) ∙ sym (take_rest rest (8 + c.from-size.result)) in
    c.loop-row.invariant ∙ rows_go_on (c.args.count - c.loop-row._row) rest left (sym c.is_row.ensures ∙ c.if-not-is_row.false) ∙ (λ i. rows_there (next i) (others i))
