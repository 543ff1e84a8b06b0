use Rattle.no_faults.proofs.Beside.{parents_are_right}
use Rattle.no_faults.proofs.tables.read_parents_are_right.Goals as goal

pub returns : goal.returns
returns c = parents_are_right
