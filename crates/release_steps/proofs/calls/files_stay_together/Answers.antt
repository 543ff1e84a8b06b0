use Rattle.release_steps.proofs.TagCalls.{together_still}
use Rattle.release_steps.proofs.calls.files_stay_together.Goals as goal

pub returns : goal.returns
returns c = together_still
