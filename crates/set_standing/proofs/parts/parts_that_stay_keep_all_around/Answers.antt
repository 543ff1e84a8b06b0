use Rattle.set_standing.proofs.PartsKept.{none_kept}
use Rattle.set_standing.proofs.parts.parts_that_stay_keep_all_around.Goals as goal

pub returns : goal.returns
returns c = none_kept
