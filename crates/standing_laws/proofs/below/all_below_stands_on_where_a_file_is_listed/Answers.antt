use Rattle.standing_laws.proofs.BelowStands.{below_listed}
use Rattle.standing_laws.proofs.below.all_below_stands_on_where_a_file_is_listed.Goals as goal

pub returns : goal.returns
returns c = below_listed
