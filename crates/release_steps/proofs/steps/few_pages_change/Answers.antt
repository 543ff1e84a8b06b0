use Rattle.release_list.proofs.FewSteps.{steps_change}
use Rattle.release_steps.proofs.steps.few_pages_change.Goals as goal

pub returns : goal.returns
returns c = steps_change
