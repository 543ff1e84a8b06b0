use Rattle.member_moves.proofs.Stepping.{apart_always}
use Rattle.member_moves.proofs.move_laws.homes_are_of_one_move.Goals as goal

pub returns : goal.returns
returns c = apart_always
