use Rattle.std.proofs.Common.{◌≡◌, ◌++◌, take}
use Rattle.slot_files.specs.sorted_sets.Members.{entries}
use Rattle.domain_faults.specs.Rows.{code_of, rows_of, rows_there}
use Rattle.domain_faults.proofs.rows.push_rows.Given as goal

abbrev pub invariant-loop-home : goal.invariant-loop-home
invariant-loop-home l = rows_there l.rows.items ≡ rows_there l.initial.rows.items ++ rows_of (code_of l.rule) (take l.home-index (entries l.found))
