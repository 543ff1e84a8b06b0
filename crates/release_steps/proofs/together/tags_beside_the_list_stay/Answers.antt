use Rattle.release_steps.proofs.TagsBeside.{beside_stay}
use Rattle.release_steps.proofs.together.tags_beside_the_list_stay.Goals as goal

pub returns : goal.returns
returns c = beside_stay
