use Rattle.std.proofs.Common.{◌≡◌, ◌++◌, take}
use Rattle.domain_faults.specs.Rows.{rows_there}
use Rattle.run_parts.specs.Verified.{faults_text}
use Rattle.run_parts.proofs.verifying.push_faults.Given as goal

-- the lines of the faults so far are there
abbrev pub invariant-loop-row : goal.invariant-loop-row
invariant-loop-row l = l.out.items ≡ l.initial.out.items ++ faults_text (rows_there (take l.row-index l.rows))
