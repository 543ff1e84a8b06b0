use Rattle.std.proofs.Common.{◌≤◌}
use Rattle.release_tables.specs.Stood.{HasStood}
use Rattle.release_tables.proofs.removing.go_on.Given as goal

abbrev pub invariant-loop : goal.invariant-loop
invariant-loop l = (l.tags ≤ l.counter) × HasStood l.world l.list.list
