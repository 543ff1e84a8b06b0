use Rattle.sorted_sets.proofs.Joined.{AreInFrom}
use Rattle.sorted_sets.specs.Members.{IsIn, entries}
use Rattle.sorted_sets.proofs.home_set.HomeSet.insert_set.Given as goal

abbrev pub invariant-loop-home : goal.invariant-loop-home
invariant-loop-home l = AreInFrom (IsIn l.initial.self) (IsIn l.self) (entries l.other) l.home-index
