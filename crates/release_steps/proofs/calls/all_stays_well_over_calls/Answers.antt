use Rattle.release_steps.proofs.CallsWell.{calls_stay_well}
use Rattle.release_steps.proofs.calls.all_stays_well_over_calls.Goals as goal

pub returns : goal.returns
returns c = calls_stay_well
