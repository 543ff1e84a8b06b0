use Rattle.standing_laws.proofs.SlotsStand.{quotas_now}
use Rattle.standing_laws.proofs.chains.quota_cells_stand_on.Goals as goal

pub returns : goal.returns
returns c = quotas_now
