use Rattle.fileset_shapes.proofs.AllShapes.{all_shapes}
use Rattle.fileset_shapes.proofs.fileset_laws.slots_have_shapes.Goals as goal

pub returns : goal.returns
returns c = λ pages table found good sees. all_shapes pages table good found sees
