use Rattle.set_standing.proofs.CallsAround.{is_refused}
use Rattle.set_standing.proofs.calls.all_stands_around_a_call_that_does_nothing.Goals as goal

pub returns : goal.returns
returns c = is_refused
