use Rattle.legal_histories.proofs.ValidChainLemmas.{legal-valid}
use Rattle.legal_histories.proofs.legal.every_legal_history_ends_valid.Goals as goal

pub returns : goal.returns
returns c = legal-valid
