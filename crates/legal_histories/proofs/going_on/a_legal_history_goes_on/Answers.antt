use Rattle.legal_histories.proofs.GoesOn.{goes_on, goes_on_from}
use Rattle.legal_histories.proofs.going_on.a_legal_history_goes_on.Goals as goal

pub returns-clause-looks_alike : goal.returns-clause-looks_alike
returns-clause-looks_alike c = goes_on

pub returns-clause-without_clones : goal.returns-clause-without_clones
returns-clause-without_clones c = goes_on_from
