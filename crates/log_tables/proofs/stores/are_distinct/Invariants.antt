use Rattle.std.proofs.Common.{drop}
use Rattle.log_recovery.specs.log_ring.Images.{AreDistinct}
use Rattle.log_tables.proofs.stores.are_distinct.Given as goal

abbrev pub invariant-loop-i : goal.invariant-loop-i
invariant-loop-i l = AreDistinct (drop l.i l.homes) → AreDistinct l.homes
