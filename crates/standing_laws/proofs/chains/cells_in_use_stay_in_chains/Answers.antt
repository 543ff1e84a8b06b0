use Rattle.standing_laws.proofs.ChainsStand.{used_now}
use Rattle.standing_laws.proofs.chains.cells_in_use_stay_in_chains.Goals as goal

pub returns : goal.returns
returns c = used_now
