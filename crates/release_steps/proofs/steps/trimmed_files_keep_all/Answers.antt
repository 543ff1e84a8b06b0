use Rattle.release_steps.proofs.AllKept.{trimmed_keep_all}
use Rattle.release_steps.proofs.steps.trimmed_files_keep_all.Goals as goal

pub returns : goal.returns
returns c = trimmed_keep_all
