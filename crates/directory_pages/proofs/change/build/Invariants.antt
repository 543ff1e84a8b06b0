use Rattle.std.proofs.Common.{◌+◌, ◌≤◌}
use Rattle.directory_pages.proofs.Sets.{Built}
use Rattle.directory_pages.proofs.change.build.Given as goal

abbrev pub invariant-loop-number : goal.invariant-loop-number
invariant-loop-number g l = record {
  built : Built l.dir l.entries l.number (g.S.BitfileSet.files l.initial.set) (g.S.BitfileSet.files l.set);
  count : g.S.BitfileSet.missed l.initial.set ≤ g.S.BitfileSet.missed l.set;
  changes : g.S.BitfileSet.changes l.set ≤ l.number + g.S.BitfileSet.changes l.initial.set;
  rest : g.S.BitfileSet.leaves_rest l.initial.set l.set;
}
