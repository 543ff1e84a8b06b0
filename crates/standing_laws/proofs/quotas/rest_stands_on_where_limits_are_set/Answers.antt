use Rattle.standing_laws.proofs.QuotaRest.{rest_stands}
use Rattle.standing_laws.proofs.quotas.rest_stands_on_where_limits_are_set.Goals as goal

pub returns : goal.returns
returns c = rest_stands
