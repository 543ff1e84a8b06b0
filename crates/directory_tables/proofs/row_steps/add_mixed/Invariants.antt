use Rattle.directory_rows.specs.Directory.{IsWellFormed}
use Rattle.directory_tables.proofs.row_steps.add_mixed.Given as goal

abbrev pub invariant-loop-step : goal.invariant-loop-step
invariant-loop-step g l = IsWellFormed (g.S.BitfileSet.files l.set) l.dir
