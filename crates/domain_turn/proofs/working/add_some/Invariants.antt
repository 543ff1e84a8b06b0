use Rattle.domain_turn.specs.Working.{IsReady}
use Rattle.domain_turn.proofs.working.add_some.Given as goal

abbrev pub invariant-loop-left : goal.invariant-loop-left
invariant-loop-left g l = IsReady l.turn l.client l.left l.pass

abbrev pub decreases-loop-left : goal.decreases-loop-left
decreases-loop-left g l = l.left
