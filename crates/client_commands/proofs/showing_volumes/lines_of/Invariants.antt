use Rattle.client_commands.proofs.MemberLines.{AreLines}
use Rattle.client_commands.proofs.showing_volumes.lines_of.Given as goal

abbrev pub invariant-loop-n : goal.invariant-loop-n
invariant-loop-n l = AreLines l.memory l.n l.lines.items
