use Rattle.std.proofs.Common.{◌<◌, ℕ, get_or}
use Rattle.legal_histories.specs.Volumes.{IsInRun}
use Rattle.legal_histories.specs.fileset_values.declared.reply.ExtentItem.{ExtentItem}
use Rattle.plain_program.proofs.extents.is_in_runs.Given as goal

abbrev pub invariant-loop-run : goal.invariant-loop-run
invariant-loop-run l = (k : ℕ) (d : ExtentItem) → k < l.run-index → ¬ (IsInRun l.q (get_or l.runs k d))
