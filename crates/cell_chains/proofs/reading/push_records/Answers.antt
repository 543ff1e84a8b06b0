use Rattle.cell_chains.proofs.ReadRuns.{one_record_more}
use Rattle.cell_chains.proofs.reading.push_records.Goals as goal

pub loop-value-preserved : goal.loop-value-preserved
loop-value-preserved c = one_record_more c.args.at.now c.args.records.now c.loop-value.value-index _ c.args.runs.now.items c.loop-value.runs.items c.push_record.new.runs.items c.loop-value-test.true c.loop-value.invariant c.in_ok-push_record.ensures
