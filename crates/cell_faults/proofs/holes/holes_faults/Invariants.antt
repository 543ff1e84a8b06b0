use Rattle.page_ways.specs.domain_base.declared.place.Home.{Home}
use Rattle.cell_chains.specs.Links.{cells_of}
use Rattle.page_ways.specs.sorted_sets.Members.{IsIn}
use Rattle.cell_faults.specs.Holes.{HasHolesOf}
use Rattle.cell_chains.proofs.Each.{AreFound}
use Rattle.cell_faults.proofs.holes.holes_faults.Given as goal

abbrev pub invariant-loop-at : goal.invariant-loop-at
invariant-loop-at g l = AreFound (cells_of l.links) {X = Home} (λ home at link. HasHolesOf (g.M.MetaPages.pages l.pages) l.marked home at) (IsIn l.found) l.at-index
