use Rattle.member_moves.proofs.Found.{IsFound}
use Rattle.member_moves.proofs.balance.first_open.Given as goal

abbrev pub invariant-loop-count : goal.invariant-loop-count
invariant-loop-count l = IsFound l.end l.counts l.count-index l.first
