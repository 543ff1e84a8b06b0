use Rattle.directory_rows.specs.Directory.{IsWellFormed}
use Rattle.directory_tables.proofs.row_steps.add_wide.Given as goal

abbrev pub invariant-loop-number : goal.invariant-loop-number
invariant-loop-number g l = IsWellFormed (g.S.BitfileSet.files l.set) l.dir
