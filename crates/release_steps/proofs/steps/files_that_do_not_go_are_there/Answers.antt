use Rattle.release_steps.proofs.StillThere.{files_stay}
use Rattle.release_steps.proofs.steps.files_that_do_not_go_are_there.Goals as goal

pub returns : goal.returns
returns c = files_stay
