use Rattle.standing_laws.proofs.NothingLeft.{chains_stand}
use Rattle.standing_laws.proofs.chains.chains_stand_on.Goals as goal

pub returns : goal.returns
returns c = chains_stand
