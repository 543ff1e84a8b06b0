use Rattle.set_standing.proofs.Removed.{is_gone}
use Rattle.set_standing.proofs.removing.all_stands_around_a_file_that_is_taken_away.Goals as goal

pub returns : goal.returns
returns c = is_gone
