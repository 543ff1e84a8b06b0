use Rattle.member_moves.proofs.OneMove.{move_of-started, move_of-with_phase, move_of-without}
use Rattle.member_moves.proofs.move_laws.changes_are_of_one_move.Goals as goal

pub returns-clause-start : goal.returns-clause-start
returns-clause-start c = move_of-started

pub returns-clause-phase : goal.returns-clause-phase
returns-clause-phase c = move_of-with_phase

pub returns-clause-end : goal.returns-clause-end
returns-clause-end c = move_of-without
