use Rattle.standing_laws.proofs.FilesetBounded.{bits_bounded}
use Rattle.standing_laws.proofs.bounds.bits_stay_where_a_fileset_is_bounded.Goals as goal

pub returns : goal.returns
returns c = bits_bounded
