use Rattle.cell_chains.proofs.Joined.{AreIn}
use Rattle.cell_chains.specs.Members.{IsIn}
use Rattle.cell_chains.proofs.set.CellSet.insert_all.Given as goal

abbrev pub invariant-loop-at : goal.invariant-loop-at
invariant-loop-at l = AreIn (IsIn l.initial.self) (IsIn l.self) l.cells l.at-index
