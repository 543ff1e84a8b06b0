use Rattle.metadata_cells.specs.domain_base.declared.place.Home.{Home}
use Rattle.cell_chains.specs.Links.{cells_of}
use Rattle.metadata_cells.specs.sorted_sets.Members.{IsIn}
use Rattle.cell_chains.specs.Leads.{HasEndAstray}
use Rattle.cell_chains.proofs.Each.{AreFound}
use Rattle.cell_chains.proofs.astray.astray_faults.Given as goal

abbrev pub invariant-loop-at : goal.invariant-loop-at
invariant-loop-at l = AreFound (cells_of l.links) {X = Home} (HasEndAstray l.links l.led) (IsIn l.found) l.at-index
