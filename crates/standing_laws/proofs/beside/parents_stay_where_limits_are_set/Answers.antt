use Rattle.standing_laws.proofs.QuotaBeside.{parents_limited}
use Rattle.standing_laws.proofs.beside.parents_stay_where_limits_are_set.Goals as goal

pub returns : goal.returns
returns c = parents_limited
