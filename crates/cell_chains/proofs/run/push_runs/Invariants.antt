use Rattle.std.proofs.Common.{◌≡◌, ◌++◌, take}
use Rattle.cell_chains.specs.Runs.{spans_on}
use Rattle.cell_chains.proofs.run.push_runs.Given as goal

abbrev pub invariant-loop-run : goal.invariant-loop-run
invariant-loop-run l = l.spans.items ≡ l.initial.spans.items ++ spans_on l.vol (take l.run-index l.runs)
