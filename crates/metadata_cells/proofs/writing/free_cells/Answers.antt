use Rattle.std.proofs.Common.{◌∙◌, arith}
use Rattle.metadata_cells.proofs.Places.{counts, passes_over}
use Rattle.metadata_cells.proofs.writing.free_cells.Goals as goal
use Rattle.metadata_cells.proofs.writing.free_cells.Goals.{then-page-cell-eq0, else-page-cell-eq0}

pub loop-cell-preserved : goal.loop-cell-preserved
loop-cell-preserved c = elim c.if-page-cell-eq0.branch [
  | then-page-cell-eq0 w ↦ record {
    counted = w.count-is ∙ counts c.args.page.now c.loop-cell.count c.loop-cell.cell c.loop-cell.invariant.counted c.loop-cell-test.true w.if-page-cell-eq0.true;
    within = omega (arith, w.count-is, c.loop-cell.invariant.within);
  }
  | else-page-cell-eq0 w ↦ record {
    counted = w.count-is ∙ passes_over c.args.page.now c.loop-cell.count c.loop-cell.cell c.loop-cell.invariant.counted c.loop-cell-test.true w.if-page-cell-eq0.false;
    within = omega (arith, w.count-is, c.loop-cell.invariant.within);
  }
]
