use Rattle.release_steps.proofs.Fronts.{fronts_stay}
use Rattle.release_steps.proofs.steps.trimmed_files_keep_their_front.Goals as goal

pub returns : goal.returns
returns c = fronts_stay
