use Rattle.std.proofs.Common.{take}
use Rattle.log_recovery.specs.log_ring.Homes.{AreLoggable}
use Rattle.log_tables.proofs.logs.are_loggable.Given as goal

abbrev pub invariant-loop-image : goal.invariant-loop-image
invariant-loop-image l = AreLoggable l.anchor (take l.image-index l.images)
