use Rattle.std.proofs.Common.{◌+◌, List, get_or, sym, subst, arith}
use Rattle.std.proofs.lemmas.List.{get_or_default}
use Rattle.metadata_cells.specs.cell_records.declared.record.HoleField.{HoleField}
use Rattle.extent_records.specs.Rows.{holes_at}
use Rattle.metadata_cells.specs.sorted_sets.declared.span.Span.{Span}
use Rattle.cell_chains.proofs.Rows.{ArePushed, hole_pages, pushed_all, pushed_more, pushed_none}
use Rattle.cell_chains.proofs.said.push_holes.Goals as goal

pub loop-row-init : goal.loop-row-init
loop-row-init c = pushed_none holes_at c.args.spans.now.items c.args.rows.now

pub loop-row-preserved : goal.loop-row-preserved
loop-row-preserved c =
    let rows = c.args.rows.now in
    let number = c.loop-row.row-index in
    let row : HoleField = get_or rows number (record { page = 0; count = 0 }) in
    let span : Span = record { from = c.from-from.result; to = c.from-from.result + c.from.result } in
    subst (λ (l : List Span). ArePushed holes_at c.args.spans.now.items rows l (number + 1)) (sym c.in_ok-push.ensures.items)
    (pushed_more holes_at c.args.spans.now.items c.loop-row.spans.items rows number row span c.loop-row.invariant
    (λ d. get_or_default rows number d (record { page = 0; count = 0 }) c.loop-row-test.true)
    (λ n. let pages = hole_pages row n in (
      λ has. let of = pages.0 has in (omega (arith, of.0, c.from-from.ensures), omega (arith, of.1, c.from-from.ensures, c.from.ensures)),
      λ (begins, ends). pages.1 (omega (arith, begins, c.from-from.ensures), omega (arith, ends, c.from-from.ensures, c.from.ensures)),
    )))

pub returns : goal.returns
returns c = pushed_all holes_at c.args.spans.now.items c.loop-row.spans.items c.args.rows.now c.loop-row.row-index c.loop-row.invariant c.loop-row-test.false c.loop-row.auto.row-index-end
