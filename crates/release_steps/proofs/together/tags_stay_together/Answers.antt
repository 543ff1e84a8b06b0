use Rattle.release_steps.proofs.Tags.{tags_stay_together}
use Rattle.release_steps.proofs.together.tags_stay_together.Goals as goal

pub returns : goal.returns
returns c = tags_stay_together
