use Rattle.release_steps.proofs.StillWaits.{same_waits}
use Rattle.release_steps.proofs.calls.what_waits_stays.Goals as goal

pub returns : goal.returns
returns c = same_waits
