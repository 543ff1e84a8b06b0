use Rattle.set_standing.proofs.PartsKept.{both_kept}
use Rattle.set_standing.proofs.parts.changes_of_parts_join.Goals as goal

pub returns : goal.returns
returns c = λ said number version born. both_kept number version born said
