use Rattle.std.proofs.Common.{◌≡◌, ◌++◌, take}
use Rattle.cell_chains.specs.Reading.{runs_at}
use Rattle.cell_chains.proofs.reading.push_rows.Given as goal

abbrev pub invariant-loop-row : goal.invariant-loop-row
invariant-loop-row l = l.runs.items ≡ l.initial.runs.items ++ runs_at l.at (take l.row-index l.rows)
