use Rattle.set_standing.proofs.Joined.{all_stay}
use Rattle.set_standing.proofs.around.all_stays_around.Goals as goal

pub returns : goal.returns
returns c = all_stay
