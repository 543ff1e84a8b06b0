use Rattle.standing_laws.proofs.QuotaLimits.{slot_limited}
use Rattle.standing_laws.proofs.quotas.the_slot_has_the_limits_that_are_set.Goals as goal

pub returns : goal.returns
returns c = slot_limited
