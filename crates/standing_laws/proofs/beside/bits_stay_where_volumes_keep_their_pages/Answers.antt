use Rattle.standing_laws.proofs.BitsStay.{bits_stay}
use Rattle.standing_laws.proofs.beside.bits_stay_where_volumes_keep_their_pages.Goals as goal

pub returns : goal.returns
returns c = bits_stay
