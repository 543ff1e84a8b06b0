use Rattle.release_steps.proofs.WaitOn.{wait_still}
use Rattle.release_steps.proofs.waiting.pages_wait_on.Goals as goal

pub returns : goal.returns
returns c = wait_still
