use Rattle.standing_laws.proofs.BegunDomain.{bits_made}
use Rattle.standing_laws.proofs.beside.bits_stay_where_a_root_is_made.Goals as goal

pub returns : goal.returns
returns c = bits_made
