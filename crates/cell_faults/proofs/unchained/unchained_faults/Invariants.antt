use Rattle.std.proofs.Common.{◌≡◌}
use Rattle.page_ways.specs.domain_base.declared.place.Home.{Home}
use Rattle.page_ways.specs.metadata_cells.CellPage.{home_of}
use Rattle.cell_chains.specs.Links.{cells_of}
use Rattle.page_ways.specs.sorted_sets.Members.{IsIn}
use Rattle.cell_faults.specs.ChainPages.{IsLoose}
use Rattle.cell_chains.proofs.Each.{AreFound}
use Rattle.cell_faults.proofs.unchained.unchained_faults.Given as goal

abbrev pub invariant-loop-at : goal.invariant-loop-at
invariant-loop-at l = AreFound (cells_of l.links) {X = Home} (λ home at link. (home_of at ≡ home) × IsLoose l.marked at link) (IsIn l.found) l.at-index
