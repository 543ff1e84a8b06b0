use Rattle.standing_laws.proofs.ParentsBegin.{parents_went}
use Rattle.standing_laws.proofs.beside.parents_stay_where_a_fileset_begins_to_go.Goals as goal

pub returns : goal.returns
returns c = parents_went
