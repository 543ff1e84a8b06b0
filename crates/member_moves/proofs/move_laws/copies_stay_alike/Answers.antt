use Rattle.member_moves.proofs.Stepping.{alike_always}
use Rattle.member_moves.proofs.move_laws.copies_stay_alike.Goals as goal

pub returns : goal.returns
returns c = alike_always
