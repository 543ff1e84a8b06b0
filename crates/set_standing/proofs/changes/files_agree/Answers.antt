use Rattle.set_standing.proofs.Changed.{agree_on}
use Rattle.set_standing.proofs.changes.files_agree.Goals as goal

pub returns : goal.returns
returns c = agree_on
