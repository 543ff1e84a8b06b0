use Rattle.page_ways.specs.domain_base.declared.place.CellAt.{CellAt}
use Rattle.cell_chains.specs.Links.{cells_of}
use Rattle.cell_chains.specs.Members.{IsIn}
use Rattle.cell_chains.specs.Heads.{IsChained}
use Rattle.cell_chains.proofs.Each.{AreFound}
use Rattle.cell_faults.proofs.unchained.chain_cells.Given as goal

abbrev pub invariant-loop-at : goal.invariant-loop-at
invariant-loop-at l = AreFound (cells_of l.links) {X = CellAt} (λ other at link. IsChained l.links l.led at link other) (IsIn l.marked) l.at-index
