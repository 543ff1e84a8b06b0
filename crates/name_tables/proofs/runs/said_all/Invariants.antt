use Rattle.fileset_lending.specs.name_space.Changes.{HasOriginal}
use Rattle.name_tables.proofs.runs.said_all.Given as goal

abbrev pub invariant-loop-line : goal.invariant-loop-line
invariant-loop-line g l = HasOriginal (g.S.BitfileSet.files l.set)
