use Rattle.member_moves.proofs.Stepping.{alike_now, holds_on, nothing_moves}
use Rattle.member_moves.proofs.move_laws.steps_keep_copies.Goals as goal

pub returns-clause-first : goal.returns-clause-first
returns-clause-first c = nothing_moves

pub returns-clause-step : goal.returns-clause-step
returns-clause-step c = holds_on

pub returns-clause-alike : goal.returns-clause-alike
returns-clause-alike c = alike_now
