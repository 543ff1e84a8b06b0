use Rattle.standing_laws.proofs.ParentsBegin.{parents_begun}
use Rattle.standing_laws.proofs.beside.parents_stay_where_a_fileset_begins.Goals as goal

pub returns : goal.returns
returns c = parents_begun
