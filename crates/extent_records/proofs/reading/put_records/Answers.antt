use Rattle.extent_records.specs.Rows.{runs_in}
use Rattle.extent_records.proofs.PutLemmas.{puts_next, puts_not}
use Rattle.extent_records.proofs.reading.put_records.Goals as goal

pub returns-then-not-branch : goal.returns-then-not-branch
returns-then-not-branch c = puts_not runs_in c.args.records.now c.loop-value.value-index _ c.args.map.now c.loop-value.map c.put_record.new.map c.in_ok-put_record.field-0 c.loop-value-test.true c.if-not-branch.true c.loop-value.invariant c.in_ok-put_record.ensures

pub loop-value-preserved : goal.loop-value-preserved
loop-value-preserved c = puts_next runs_in c.args.records.now c.loop-value.value-index _ c.args.map.now c.loop-value.map c.put_record.new.map c.in_ok-put_record.field-0 c.loop-value-test.true c.if-not-branch.false c.loop-value.invariant c.in_ok-put_record.ensures
