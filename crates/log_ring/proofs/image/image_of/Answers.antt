use Rattle.std.proofs.Common.{sym}
use Rattle.log_ring.proofs.Overlays.{image_at-none}
use Rattle.log_ring.proofs.Places.{image_at-place}
use Rattle.log_ring.proofs.image.image_of.Goals as goal

pub returns-in-Some : goal.returns-in-Some
returns-in-Some c = sym (image_at-place c.args.home c.args.images.now c.in-Some.place c.index-images-place.result c.in-Some.ensures.place)

pub returns-in-None : goal.returns-in-None
returns-in-None c = sym (image_at-none c.args.home c.args.images.now c.in-None.ensures.none)
