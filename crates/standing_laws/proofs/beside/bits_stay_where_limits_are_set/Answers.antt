use Rattle.standing_laws.proofs.QuotaBeside.{bits_limited}
use Rattle.standing_laws.proofs.beside.bits_stay_where_limits_are_set.Goals as goal

pub returns : goal.returns
returns c = bits_limited
