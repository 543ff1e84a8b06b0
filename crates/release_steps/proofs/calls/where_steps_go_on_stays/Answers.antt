use Rattle.release_steps.proofs.GoneOn.{goes_on_in}
use Rattle.release_steps.proofs.calls.where_steps_go_on_stays.Goals as goal

pub returns : goal.returns
returns c = goes_on_in
