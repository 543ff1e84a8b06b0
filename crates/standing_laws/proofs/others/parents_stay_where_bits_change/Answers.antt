use Rattle.standing_laws.proofs.ParentsKept.{parents_kept}
use Rattle.standing_laws.proofs.others.parents_stay_where_bits_change.Goals as goal

pub returns : goal.returns
returns c = parents_kept
