use Rattle.legal_histories.proofs.GoesOn.{one_state}
use Rattle.legal_histories.proofs.going_on.states_without_clones_look_like_themselves.Goals as goal

pub returns : goal.returns
returns c = one_state
