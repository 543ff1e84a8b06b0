use Rattle.directory_faults.specs.Order.{LeadsUp}
use Rattle.directory_faults.proofs.Items.{AreSo}
use Rattle.directory_faults.specs.declared.rows.RowThere.{RowThere}
use Rattle.directory_faults.proofs.order.lead_up.Given as goal

abbrev pub invariant-loop-row : goal.invariant-loop-row
invariant-loop-row l = AreSo {X = RowThere} (LeadsUp l.places) l.rows l.row-index
