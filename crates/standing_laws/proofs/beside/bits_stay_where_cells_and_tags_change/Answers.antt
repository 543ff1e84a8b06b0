use Rattle.standing_laws.proofs.BitsStay.{bits_beside}
use Rattle.standing_laws.proofs.beside.bits_stay_where_cells_and_tags_change.Goals as goal

pub returns : goal.returns
returns c = bits_beside
