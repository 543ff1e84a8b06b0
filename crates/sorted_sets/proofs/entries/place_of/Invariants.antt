use Rattle.std.proofs.Common.{◌-◌}
use Rattle.sorted_sets.proofs.SearchLemmas.{Between}
use Rattle.sorted_sets.proofs.entries.place_of.Given as goal

abbrev pub invariant-loop-low : goal.invariant-loop-low
invariant-loop-low g l = Between g.K.Ord.cmp l.entries l.key l.low l.high

abbrev pub decreases-loop-low : goal.decreases-loop-low
decreases-loop-low g l = l.high - l.low
