use Rattle.std.proofs.Common.{◌≡◌, drop}
use Rattle.std.specs.Ordering.{nat_cmp}
use Rattle.std.specs.FinMap.Entries.{find}
use Rattle.plain_program.specs.Members.{entries_of}
use Rattle.plain_program.proofs.members.line_of.Given as goal

abbrev pub invariant-loop-line : goal.invariant-loop-line
invariant-loop-line l = find nat_cmp l.vol (entries_of l.members) ≡ find nat_cmp l.vol (entries_of (drop l.line-index l.members))
