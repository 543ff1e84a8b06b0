use Rattle.standing_laws.proofs.QuotaAlone.{alone_limited}
use Rattle.standing_laws.proofs.quotas.files_stand_alone_where_limits_are_set.Goals as goal

pub returns : goal.returns
returns c = alone_limited
