use Rattle.fileset_shapes.proofs.SameShapes.{shapes_alike}
use Rattle.fileset_shapes.proofs.shape_laws.shapes_agree.Goals as goal

pub returns : goal.returns
returns c = λ one other layout home shapes laid none at have agree. shapes_alike one other layout home shapes laid none at have agree
