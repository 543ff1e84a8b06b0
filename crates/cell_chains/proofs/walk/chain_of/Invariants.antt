use Rattle.cell_chains.specs.Chains.{IsOnWay}
use Rattle.cell_chains.proofs.walk.chain_of.Given as goal

abbrev pub invariant-loop : goal.invariant-loop
invariant-loop l = IsOnWay l.links l.start l.cells.items l.seen l.come.at l.come.link
