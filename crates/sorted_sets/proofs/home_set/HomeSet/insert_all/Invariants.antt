use Rattle.sorted_sets.proofs.Joined.{AreIn}
use Rattle.sorted_sets.specs.Members.{IsIn}
use Rattle.sorted_sets.proofs.home_set.HomeSet.insert_all.Given as goal

abbrev pub invariant-loop-home : goal.invariant-loop-home
invariant-loop-home l = AreIn (IsIn l.initial.self) (IsIn l.self) l.homes l.home-index
