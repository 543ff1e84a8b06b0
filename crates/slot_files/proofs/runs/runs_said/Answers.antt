use Rattle.std.proofs.Common.{[]}
use Rattle.index_row_faults.specs.extent_records.Rows.{runs_in}
use Rattle.slot_files.specs.Said.{runs_there}
use Rattle.slot_files.proofs.Listed.{one_more}
use Rattle.slot_files.proofs.runs.runs_said.Goals as goal

pub loop-value-preserved : goal.loop-value-preserved
loop-value-preserved c =
    one_more runs_in c.args.records.now c.loop-value.value-index _ [] (runs_there c.loop-value.runs.items) (runs_there c.push_record.new.runs.items) c.loop-value-test.true c.loop-value.invariant c.in_ok-push_record.ensures
