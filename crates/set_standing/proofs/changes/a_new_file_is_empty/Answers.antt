use Rattle.set_standing.proofs.Changed.{new_file}
use Rattle.set_standing.proofs.changes.a_new_file_is_empty.Goals as goal

pub returns : goal.returns
returns c = new_file
