use Rattle.std.proofs.Common.{◌≡◌, ◌+◌, ◌≤◌, false}
use Rattle.legal_histories.specs.Volumes.{touches}
use Rattle.std.specs.List.{AllAdjacentBelow}
use Rattle.plain_program.proofs.extents.are_in_order.Given as goal

abbrev pub invariant-loop-i : goal.invariant-loop-i
invariant-loop-i l = AllAdjacentBelow (λ run next. (run.page + run.count ≤ next.page) × (touches run next ≡ false)) l.runs l.i
