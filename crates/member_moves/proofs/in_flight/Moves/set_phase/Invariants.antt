use Rattle.member_moves.specs.Moves.{rephased}
use Rattle.member_moves.proofs.PartChanged.{IsPartChanged}
use Rattle.member_moves.proofs.in_flight.Moves.set_phase.Given as goal

abbrev pub invariant-loop-page_move : goal.invariant-loop-page_move
invariant-loop-page_move l = IsPartChanged (rephased l.phase l.from) l.initial.page_move-items l.page_move-items l.page_move-index
