use Rattle.release_steps.proofs.OnlyThese.{only_these_wait}
use Rattle.release_steps.proofs.waiting.only_pages_let_go_wait.Goals as goal

pub returns : goal.returns
returns c = only_these_wait
