use Rattle.name_space.proofs.OutOfSync.{AreOut}
use Rattle.name_space.proofs.missing.missing_numbers.Given as goal

abbrev pub invariant-loop-one : goal.invariant-loop-one
invariant-loop-one l = AreOut l.nodes l.led l.one-index l.out
