use Rattle.index_row_faults.specs.extent_records.Rows.{runs_at}
use Rattle.slot_files.specs.Said.{runs_there}
use Rattle.slot_files.proofs.Listed.{one_more}
use Rattle.slot_files.proofs.runs.push_extents.Goals as goal

pub loop-row-preserved : goal.loop-row-preserved
loop-row-preserved c =
    one_more runs_at c.args.rows.now c.loop-row.row-index _ (runs_there c.args.runs.now.items) (runs_there c.loop-row.runs.items) (runs_there c.push_extent.new.runs.items) c.loop-row-test.true c.loop-row.invariant c.in_ok-push_extent.ensures
