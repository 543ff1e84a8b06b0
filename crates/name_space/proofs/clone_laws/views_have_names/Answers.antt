use Rattle.name_space.proofs.Views.{view_names_lem}
use Rattle.name_space.proofs.clone_laws.views_have_names.Goals as goal

pub returns : goal.returns
returns c = view_names_lem
