use Rattle.std.proofs.Common.{◌-◌}
use Rattle.free_space.proofs.Longest.{IsBetween}
use Rattle.free_space.proofs.bitmap.Bitmap.longest_run.Given as goal

abbrev pub invariant-loop-short : goal.invariant-loop-short
invariant-loop-short l = IsBetween l.self l.short l.most

abbrev pub decreases-loop-short : goal.decreases-loop-short
decreases-loop-short l = l.most - l.short
