use Rattle.standing_laws.proofs.QuotaTables.{tables_stand}
use Rattle.standing_laws.proofs.quotas.tables_stand_on_where_limits_are_set.Goals as goal

pub returns : goal.returns
returns c = tables_stand
