use Rattle.release_steps.proofs.AllWell.{all_well}
use Rattle.release_steps.proofs.laws.all_stays_well_where_limits_are_set.Goals as goal

pub returns : goal.returns
returns c = all_well
