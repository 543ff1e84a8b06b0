use Rattle.standing_laws.proofs.RootParents.{root_parents}
use Rattle.standing_laws.proofs.beside.a_root_alone_stands_in_itself.Goals as goal

pub returns : goal.returns
returns c = root_parents
