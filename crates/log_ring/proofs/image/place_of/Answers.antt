use Rattle.std.proofs.Common.{arith}
use Rattle.log_ring.proofs.Places.{has-none}
use Rattle.log_ring.proofs.image.place_of.Goals as goal

pub returns-clause-none : goal.returns-clause-none
returns-clause-none c = has-none c.args.home.now c.args.images.now (λ k d lt. c.loop-place.invariant k d (omega arith) lt)
