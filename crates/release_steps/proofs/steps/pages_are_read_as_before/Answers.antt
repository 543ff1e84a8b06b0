use Rattle.release_steps.proofs.DeferredLaws.{pages_are_read}
use Rattle.release_steps.proofs.steps.pages_are_read_as_before.Goals as goal

pub returns : goal.returns
returns c = pages_are_read
