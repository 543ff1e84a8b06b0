use Rattle.set_standing.proofs.Cut.{cut_is}
use Rattle.set_standing.proofs.changes.a_file_is_cut.Goals as goal

pub returns : goal.returns
returns c = cut_is
