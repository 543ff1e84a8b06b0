use Rattle.std.proofs.Common.{◌≡◌, length, take}
use Rattle.log_ring.specs.Images.{joined}
use Rattle.meta_log.proofs.slots.count_joined.Given as goal

abbrev pub invariant-loop-image : goal.invariant-loop-image
invariant-loop-image l = l.count ≡ length (joined (take l.image-index l.change) l.pending)
