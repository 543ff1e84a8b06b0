use Rattle.standing_laws.proofs.QuotaChains.{chains_stand}
use Rattle.standing_laws.proofs.quotas.chains_stand_on_where_limits_are_set.Goals as goal

pub returns : goal.returns
returns c = chains_stand
