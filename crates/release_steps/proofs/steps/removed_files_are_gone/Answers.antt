use Rattle.release_steps.proofs.Emptied.{removed_are_gone}
use Rattle.release_steps.proofs.steps.removed_files_are_gone.Goals as goal

pub returns : goal.returns
returns c = removed_are_gone
