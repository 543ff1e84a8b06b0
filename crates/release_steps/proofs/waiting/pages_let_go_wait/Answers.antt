use Rattle.release_steps.proofs.Gone.{gone_waits}
use Rattle.release_steps.proofs.waiting.pages_let_go_wait.Goals as goal

pub returns : goal.returns
returns c = gone_waits
