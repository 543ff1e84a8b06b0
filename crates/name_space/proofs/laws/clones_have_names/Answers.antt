use Rattle.name_space.proofs.Likeness.{clone_names_lem}
use Rattle.name_space.proofs.laws.clones_have_names.Goals as goal

pub returns : goal.returns
returns c = clone_names_lem
