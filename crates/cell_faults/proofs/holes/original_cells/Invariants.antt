use Rattle.page_ways.specs.domain_base.declared.place.CellAt.{CellAt}
use Rattle.cell_chains.specs.Links.{cells_of}
use Rattle.cell_chains.specs.Members.{IsIn}
use Rattle.cell_faults.specs.Holes.{IsOfOriginalFrom}
use Rattle.cell_chains.proofs.Each.{AreFound}
use Rattle.cell_faults.proofs.holes.original_cells.Given as goal

abbrev pub invariant-loop-at : goal.invariant-loop-at
invariant-loop-at g l = AreFound (cells_of l.links) {X = CellAt} (λ other at link. IsOfOriginalFrom (g.M.MetaPages.pages l.pages) l.table l.links at other) (IsIn l.marked) l.at-index
