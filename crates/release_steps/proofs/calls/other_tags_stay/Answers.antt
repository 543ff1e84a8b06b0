use Rattle.release_steps.proofs.TagCalls.{others_same}
use Rattle.release_steps.proofs.calls.other_tags_stay.Goals as goal

pub returns : goal.returns
returns c = others_same
