use Rattle.release_steps.proofs.ReadBack.{no_more_read}
use Rattle.release_steps.proofs.steps.nothing_more_is_read_through.Goals as goal

pub returns : goal.returns
returns c = no_more_read
