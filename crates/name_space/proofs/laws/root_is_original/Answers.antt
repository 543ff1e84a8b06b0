use Rattle.name_space.proofs.Roots.{root_original_lem}
use Rattle.name_space.proofs.laws.root_is_original.Goals as goal

pub returns : goal.returns
returns c = root_original_lem
