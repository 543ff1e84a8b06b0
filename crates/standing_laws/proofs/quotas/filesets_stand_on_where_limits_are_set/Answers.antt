use Rattle.standing_laws.proofs.QuotaFilesets.{slots_limited}
use Rattle.standing_laws.proofs.quotas.filesets_stand_on_where_limits_are_set.Goals as goal

pub returns : goal.returns
returns c = slots_limited
