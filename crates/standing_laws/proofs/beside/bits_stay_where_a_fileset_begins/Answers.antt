use Rattle.standing_laws.proofs.BitsStay.{bits_begun}
use Rattle.standing_laws.proofs.beside.bits_stay_where_a_fileset_begins.Goals as goal

pub returns : goal.returns
returns c = bits_begun
