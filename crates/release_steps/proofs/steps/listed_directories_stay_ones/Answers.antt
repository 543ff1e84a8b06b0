use Rattle.release_steps.proofs.Left.{directory_left}
use Rattle.release_steps.proofs.steps.listed_directories_stay_ones.Goals as goal

pub returns : goal.returns
returns c = directory_left
