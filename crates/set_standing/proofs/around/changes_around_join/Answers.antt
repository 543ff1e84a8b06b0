use Rattle.set_standing.proofs.Joined.{joined}
use Rattle.set_standing.proofs.around.changes_around_join.Goals as goal

pub returns : goal.returns
returns c = joined
