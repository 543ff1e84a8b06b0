use Rattle.release_steps.proofs.TagsBeside.{begin_apart}
use Rattle.release_steps.proofs.together.files_of_tags_begin_apart.Goals as goal

pub returns : goal.returns
returns c = begin_apart
