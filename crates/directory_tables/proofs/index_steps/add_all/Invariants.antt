use Rattle.directory_tables.specs.Steps.{HasIndex}
use Rattle.directory_tables.proofs.index_steps.add_all.Given as goal

abbrev pub invariant-loop-number : goal.invariant-loop-number
invariant-loop-number g l = HasIndex l.dir (g.S.BitfileSet.files l.set)
