use Rattle.domain_layout.proofs.ShapesAlike.{same_shapes}
use Rattle.domain_layout.proofs.shapes.same_shapes.Goals as goal

pub returns : goal.returns
returns c = same_shapes
