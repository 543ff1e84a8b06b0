use Rattle.cell_faults.proofs.Pushed.{ArePushed}
use Rattle.cell_faults.proofs.tables.push_pages.Given as goal

abbrev pub invariant-loop-place : goal.invariant-loop-place
invariant-loop-place l = ArePushed l.initial.read.items l.homes l.place l.read.items
