use Rattle.std.proofs.Common.{◌≡◌, sum_by, take}
use Rattle.file_changes.specs.Counting.{count_in}
use Rattle.file_changes.proofs.counting.count_runs.Given as goal

abbrev pub invariant-loop-run : goal.invariant-loop-run
invariant-loop-run l = l.count ≡ sum_by (count_in l.keep) (take l.run-index l.runs)
