use Rattle.std.proofs.Common.{arith}
use Rattle.release_list.specs.cell_records.Records.{Allowed}
use Rattle.release_steps.proofs.records.record_of.Goals as goal

pub returns-in-User-clause-allowed : goal.returns-in-User-clause-allowed
unfolding Allowed
returns-in-User-clause-allowed c = (omega (arith, c.if-prove-3.false), omega (arith, c.if-prove.false), omega (arith, c.if-prove-2.false))

pub returns-in-Group-clause-allowed : goal.returns-in-Group-clause-allowed
unfolding Allowed
returns-in-Group-clause-allowed c = (omega (arith, c.if-prove-4.false), omega (arith, c.if-prove.false), omega (arith, c.if-prove-2.false))
