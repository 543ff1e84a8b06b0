use Rattle.standing_laws.proofs.BelowStands.{below_stands}
use Rattle.standing_laws.proofs.below.all_below_stands_on.Goals as goal

pub returns : goal.returns
returns c = below_stands
