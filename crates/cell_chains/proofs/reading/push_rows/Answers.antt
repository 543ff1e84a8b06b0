use Rattle.cell_chains.proofs.ReadRuns.{one_row}
use Rattle.cell_chains.proofs.reading.push_rows.Goals as goal

pub loop-row-preserved : goal.loop-row-preserved
loop-row-preserved c = one_row c.args.at.now c.args.rows.now c.loop-row.row-index _ c.args.runs.now.items c.loop-row.runs.items c.push_row.new.runs.items c.loop-row-test.true c.loop-row.invariant c.in_ok-push_row.ensures
