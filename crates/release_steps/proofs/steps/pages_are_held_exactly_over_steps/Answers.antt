use Rattle.release_steps.proofs.HeldSteps.{held_after}
use Rattle.release_steps.proofs.steps.pages_are_held_exactly_over_steps.Goals as goal

pub returns : goal.returns
returns c = held_after
