use Rattle.extent_records.specs.Rows.{holes_at}
use Rattle.extent_records.proofs.PutLemmas.{puts_next, puts_not}
use Rattle.extent_records.proofs.reading.put_holes.Goals as goal

pub returns-then-not-branch : goal.returns-then-not-branch
returns-then-not-branch c = puts_not holes_at c.args.rows.now c.loop-row.row-index (record { page = 0; count = 0 }) c.args.map.now c.loop-row.map c.put_hole.new.map c.in_ok-put_hole.field-0 c.loop-row-test.true c.if-not-branch.true c.loop-row.invariant c.in_ok-put_hole.ensures

pub loop-row-preserved : goal.loop-row-preserved
loop-row-preserved c = puts_next holes_at c.args.rows.now c.loop-row.row-index (record { page = 0; count = 0 }) c.args.map.now c.loop-row.map c.put_hole.new.map c.in_ok-put_hole.field-0 c.loop-row-test.true c.if-not-branch.false c.loop-row.invariant c.in_ok-put_hole.ensures
