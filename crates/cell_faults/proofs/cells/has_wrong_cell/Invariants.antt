use Rattle.cell_faults.proofs.WrongCell.{AreGoodBelow}
use Rattle.cell_faults.proofs.cells.has_wrong_cell.Given as goal

abbrev pub invariant-loop-cell : goal.invariant-loop-cell
invariant-loop-cell g l = AreGoodBelow (g.M.MetaPages.pages l.pages) l.frame.version l.bytes l.home l.cell
