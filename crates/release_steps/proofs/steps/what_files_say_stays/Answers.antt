use Rattle.release_steps.proofs.SaysStill.{said_so}
use Rattle.release_steps.proofs.steps.what_files_say_stays.Goals as goal

pub returns : goal.returns
returns c = said_so
