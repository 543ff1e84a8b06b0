use Rattle.standing_laws.proofs.FilesetBounded.{parents_bounded}
use Rattle.standing_laws.proofs.bounds.parents_stay_where_a_fileset_is_bounded.Goals as goal

pub returns : goal.returns
returns c = parents_bounded
