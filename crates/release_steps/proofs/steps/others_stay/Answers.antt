use Rattle.release_steps.proofs.Others.{others_stay}
use Rattle.release_steps.proofs.steps.others_stay.Goals as goal

pub returns : goal.returns
returns c = others_stay
