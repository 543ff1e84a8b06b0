use Rattle.attached_domain.proofs.LimitsSet.{SaysFrom}
use Rattle.attached_domain.proofs.limits.limits_alone.Given as goal

abbrev pub invariant-loop-i : goal.invariant-loop-i
invariant-loop-i l = SaysFrom l.i l.records l.book.book
