use Rattle.legal_histories.proofs.ChainLemmas.{joined}
use Rattle.legal_histories.proofs.points.chains_join.Goals as goal

pub returns : goal.returns
returns c = joined
