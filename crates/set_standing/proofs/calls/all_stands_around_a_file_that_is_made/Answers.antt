use Rattle.set_standing.proofs.CallsAround.{is_made}
use Rattle.set_standing.proofs.calls.all_stands_around_a_file_that_is_made.Goals as goal

pub returns : goal.returns
returns c = is_made
