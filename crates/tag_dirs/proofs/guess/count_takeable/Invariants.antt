use Rattle.std.proofs.Common.{◌≤◌}
use Rattle.tag_dirs.proofs.guess.count_takeable.Given as goal

abbrev pub invariant-loop-entry : goal.invariant-loop-entry
invariant-loop-entry l = l.count ≤ l.entry
