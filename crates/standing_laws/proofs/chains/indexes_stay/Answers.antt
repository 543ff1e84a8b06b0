use Rattle.standing_laws.proofs.ChainsNamed.{indexed_now}
use Rattle.standing_laws.proofs.chains.indexes_stay.Goals as goal

pub returns : goal.returns
returns c = indexed_now
