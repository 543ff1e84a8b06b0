use Rattle.domain_turn.specs.Working.{IsBack}
use Rattle.domain_turn.proofs.working.wait_until.Given as goal

abbrev pub invariant-loop : goal.invariant-loop
invariant-loop g l = IsBack l.turn l.pass
