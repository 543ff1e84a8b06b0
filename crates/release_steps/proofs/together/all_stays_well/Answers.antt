use Rattle.release_steps.proofs.Wells.{wells_stay}
use Rattle.release_steps.proofs.together.all_stays_well.Goals as goal

pub returns : goal.returns
returns c = wells_stay
