use Rattle.release_steps.proofs.BesideCalls.{other_files_same}
use Rattle.release_steps.proofs.calls.other_files_stay.Goals as goal

pub returns : goal.returns
returns c = other_files_same
