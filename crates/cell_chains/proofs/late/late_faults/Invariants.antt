use Rattle.metadata_cells.specs.domain_base.declared.place.Home.{Home}
use Rattle.cell_chains.specs.Links.{cells_of}
use Rattle.metadata_cells.specs.sorted_sets.Members.{IsIn}
use Rattle.cell_chains.specs.Leads.{HasLate}
use Rattle.cell_chains.proofs.Each.{AreFound}
use Rattle.cell_chains.proofs.Earlier.{AreEarlier}
use Rattle.cell_chains.proofs.late.late_faults.Given as goal

abbrev pub invariant-loop-at : goal.invariant-loop-at
invariant-loop-at l = record {
  earlier : AreEarlier l.links l.led l.earlier l.at-index;
  found : AreFound (cells_of l.links) {X = Home} (HasLate l.links l.led) (IsIn l.found) l.at-index;
}
