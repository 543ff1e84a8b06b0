use Rattle.standing_laws.proofs.BitsStay.{bits_went}
use Rattle.standing_laws.proofs.beside.bits_stay_where_a_fileset_begins_to_go.Goals as goal

pub returns : goal.returns
returns c = bits_went
