use Rattle.standing_laws.proofs.RootParents.{parents_made}
use Rattle.standing_laws.proofs.beside.parents_stay_where_a_root_is_made.Goals as goal

pub returns : goal.returns
returns c = parents_made
