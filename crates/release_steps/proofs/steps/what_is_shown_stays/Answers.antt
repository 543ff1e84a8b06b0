use Rattle.release_steps.proofs.ShownStill.{shown_still}
use Rattle.release_steps.proofs.steps.what_is_shown_stays.Goals as goal

pub returns : goal.returns
returns c = shown_still
