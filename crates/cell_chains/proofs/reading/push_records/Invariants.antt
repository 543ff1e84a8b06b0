use Rattle.std.proofs.Common.{◌≡◌, ◌++◌, take}
use Rattle.cell_chains.specs.Reading.{runs_from}
use Rattle.cell_chains.proofs.reading.push_records.Given as goal

abbrev pub invariant-loop-value : goal.invariant-loop-value
invariant-loop-value l = l.runs.items ≡ l.initial.runs.items ++ runs_from l.at (take l.value-index l.records)
