use Rattle.release_tables.specs.Stood.{HasStood}
use Rattle.release_tables.proofs.onward.nine_cut.Given as goal

abbrev pub invariant-loop : goal.invariant-loop
invariant-loop l = HasStood l.world l.list.list
