use Rattle.std.proofs.Common.{List, ◌∙◌, ap}
use Rattle.log_ring.specs.Images.{overlaid}
use Rattle.log_ring.proofs.Overlays.{overlaid-append}
use Rattle.log_ring.specs.declared.image.PageImage.{PageImage}
use Rattle.log_ring.specs.Groups.{images_of, pages_in}
use Rattle.log_ring.proofs.Redoing.{images_of-one_more, redoes_alike, redoes_nothing}
use Rattle.log_ring.proofs.ring_laws.redo_laws.Goals as goal

pub returns-clause-one_more : goal.returns-clause-one_more
returns-clause-one_more c = λ groups group image.
    ap (λ (images : List PageImage). overlaid images (pages_in image)) (images_of-one_more groups group) ∙ overlaid-append (images_of groups) group.images (pages_in image)

pub returns-clause-alike : goal.returns-clause-alike
returns-clause-alike c = redoes_alike

pub returns-clause-home : goal.returns-clause-home
returns-clause-home c = redoes_nothing
