use Rattle.standing_laws.proofs.ChainsNamed.{listed_now}
use Rattle.standing_laws.proofs.chains.entries_stay_to_be_done.Goals as goal

pub returns : goal.returns
returns c = listed_now
