use Rattle.standing_laws.proofs.SlotsStand.{slots_now}
use Rattle.standing_laws.proofs.chains.slots_stand_on.Goals as goal

pub returns : goal.returns
returns c = slots_now
