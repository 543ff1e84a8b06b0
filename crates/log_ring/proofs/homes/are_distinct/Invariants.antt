use Rattle.std.proofs.Common.{drop}
use Rattle.log_ring.specs.Images.{AreDistinct}
use Rattle.log_ring.proofs.homes.are_distinct.Given as goal

abbrev pub invariant-loop-i : goal.invariant-loop-i
invariant-loop-i l = AreDistinct (drop l.i l.homes) → AreDistinct l.homes
