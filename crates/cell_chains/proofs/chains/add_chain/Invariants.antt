use Rattle.cell_chains.proofs.Starting.{AddsBelow}
use Rattle.cell_chains.proofs.chains.add_chain.Given as goal

abbrev pub invariant-loop-at : goal.invariant-loop-at
invariant-loop-at l = AddsBelow l.cells l.start l.initial.map l.map l.at-index
