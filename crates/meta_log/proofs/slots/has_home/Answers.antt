use Rattle.std.proofs.Common.{sym}
use Rattle.log_ring.proofs.Places.{has-place}
use Rattle.meta_log.proofs.slots.has_home.Goals as goal

pub returns-in-Some : goal.returns-in-Some
returns-in-Some c = sym (has-place c.args.home.now c.args.images.now c.in-Some.field-0 c.in-Some.ensures.place)
