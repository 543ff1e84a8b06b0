use Rattle.standing_laws.proofs.FilesetGoes.{slots_went}
use Rattle.standing_laws.proofs.going.filesets_stand_on_where_one_begins_to_go.Goals as goal

pub returns : goal.returns
returns c = slots_went
