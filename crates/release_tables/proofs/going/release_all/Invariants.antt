use Rattle.std.proofs.Common.{◌*◌, ◌≤◌}
use Rattle.release_tables.specs.Going.{HasWell}
use Rattle.release_tables.proofs.going.release_all.Given as goal

abbrev pub invariant-loop : goal.invariant-loop
invariant-loop l = (l.steps ≤ 16 * l.counter) × HasWell l.world l.list.list
