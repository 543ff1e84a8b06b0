use Rattle.standing_laws.proofs.BelowStands.{slots_listed}
use Rattle.standing_laws.proofs.below.filesets_stay_where_a_file_is_listed.Goals as goal

pub returns : goal.returns
returns c = slots_listed
