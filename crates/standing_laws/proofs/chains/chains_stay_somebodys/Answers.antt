use Rattle.standing_laws.proofs.ChainsNamed.{named_now}
use Rattle.standing_laws.proofs.chains.chains_stay_somebodys.Goals as goal

pub returns : goal.returns
returns c = named_now
