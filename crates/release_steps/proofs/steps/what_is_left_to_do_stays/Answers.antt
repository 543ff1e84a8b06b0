use Rattle.release_steps.proofs.LeftStill.{left_so}
use Rattle.release_steps.proofs.steps.what_is_left_to_do_stays.Goals as goal

pub returns : goal.returns
returns c = left_so
