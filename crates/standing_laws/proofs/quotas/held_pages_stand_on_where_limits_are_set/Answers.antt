use Rattle.standing_laws.proofs.QuotaHeld.{owned_still}
use Rattle.standing_laws.proofs.quotas.held_pages_stand_on_where_limits_are_set.Goals as goal

pub returns : goal.returns
returns c = owned_still
