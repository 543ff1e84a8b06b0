use Rattle.std.proofs.Common.{◌≤◌}
use Rattle.file_world.proofs.calls.count_in.Given as goal

abbrev pub invariant-loop-cell : goal.invariant-loop-cell
invariant-loop-cell l = l.count ≤ l.cell
