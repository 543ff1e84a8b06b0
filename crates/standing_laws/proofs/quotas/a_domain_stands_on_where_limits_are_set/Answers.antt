use Rattle.standing_laws.proofs.QuotaDomain.{domain_limited}
use Rattle.standing_laws.proofs.quotas.a_domain_stands_on_where_limits_are_set.Goals as goal

pub returns : goal.returns
returns c = domain_limited
