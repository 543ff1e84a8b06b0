use Rattle.standing_laws.proofs.FilesetGoes.{others_went}
use Rattle.standing_laws.proofs.going.other_slots_stay_where_a_fileset_begins_to_go.Goals as goal

pub returns : goal.returns
returns c = others_went
