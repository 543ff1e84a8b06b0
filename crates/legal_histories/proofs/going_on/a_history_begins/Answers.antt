use Rattle.legal_histories.proofs.GoesOn.{begins}
use Rattle.legal_histories.proofs.going_on.a_history_begins.Goals as goal

pub returns : goal.returns
returns c = begins
