use Rattle.release_steps.proofs.InFiles.{in_a_file}
use Rattle.release_steps.proofs.calls.steps_go_on_in_a_file_of_the_domain.Goals as goal

pub returns : goal.returns
returns c = in_a_file
