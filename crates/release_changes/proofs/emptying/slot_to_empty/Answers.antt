use Rattle.std.proofs.Common.{arith}
use Rattle.release_changes.proofs.ToEmpty.{none_may}
use Rattle.release_changes.proofs.emptying.slot_to_empty.Goals as goal

pub returns-clause-none : goal.returns-clause-none
returns-clause-none c = none_may c.args.memory.now c.requires.back c.loop-n.n (omega (arith, c.loop-n-test.false)) c.loop-n.invariant
