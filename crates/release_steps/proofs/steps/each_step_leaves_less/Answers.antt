use Rattle.release_steps.proofs.Fewer.{steps_fewer}
use Rattle.release_steps.proofs.steps.each_step_leaves_less.Goals as goal

pub returns : goal.returns
returns c = steps_fewer
