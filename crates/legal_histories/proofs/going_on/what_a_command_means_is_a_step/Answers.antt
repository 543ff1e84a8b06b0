use Rattle.legal_histories.proofs.GoesOn.{command_steps}
use Rattle.legal_histories.proofs.going_on.what_a_command_means_is_a_step.Goals as goal

pub returns : goal.returns
returns c = command_steps
