use Rattle.file_commands.proofs.Shown.{AreNoted}
use Rattle.file_commands.proofs.showing.names_of.Given as goal

abbrev pub invariant-loop-n : goal.invariant-loop-n
invariant-loop-n l = AreNoted l.table.slots l.n l.names
