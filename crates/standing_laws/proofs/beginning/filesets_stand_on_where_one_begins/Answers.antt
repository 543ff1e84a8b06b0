use Rattle.standing_laws.proofs.BegunEmpty.{all_stand}
use Rattle.standing_laws.proofs.beginning.filesets_stand_on_where_one_begins.Goals as goal

pub returns : goal.returns
returns c = all_stand
