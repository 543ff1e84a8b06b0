use Rattle.extent_records.specs.Rows.{holes_at}
use Rattle.cell_chains.proofs.Rows.{ArePushed}
use Rattle.cell_chains.proofs.said.push_holes.Given as goal

abbrev pub invariant-loop-row : goal.invariant-loop-row
invariant-loop-row l = ArePushed holes_at l.initial.spans.items l.rows l.spans.items l.row-index
