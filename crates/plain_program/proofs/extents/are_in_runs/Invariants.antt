use Rattle.std.proofs.Common.{◌<◌, ℕ, get_or}
use Rattle.legal_histories.specs.Volumes.{IsInRun}
use Rattle.std.specs.List.{Any}
use Rattle.plain_program.proofs.extents.are_in_runs.Given as goal

abbrev pub invariant-loop-q : goal.invariant-loop-q
invariant-loop-q l = (k d : ℕ) → k < l.q-index → Any (IsInRun (get_or l.numbers k d)) l.runs
