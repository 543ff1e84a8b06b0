use Rattle.cell_chains.proofs.Starting.{AreStarts}
use Rattle.cell_chains.proofs.chains.chain_starts.Given as goal

abbrev pub invariant-loop-at : goal.invariant-loop-at
invariant-loop-at l = AreStarts l.links l.led l.map l.at-index
