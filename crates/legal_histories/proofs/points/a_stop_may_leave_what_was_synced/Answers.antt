use Rattle.legal_histories.proofs.ExampleLemmas.{left}
use Rattle.legal_histories.proofs.points.a_stop_may_leave_what_was_synced.Goals as goal

pub returns : goal.returns
returns c = left
