use Rattle.release_laws.proofs.BelowGo.{below_goes}
use Rattle.release_laws.proofs.below.all_below_stands_on_over_steps.Goals as goal

pub returns : goal.returns
returns c = below_goes
