use Rattle.std.proofs.Common.{◌≡◌}
use Rattle.cell_faults.specs.domain_base.declared.place.Home.{Home}
use Rattle.cell_faults.specs.metadata_cells.CellPage.{home_of}
use Rattle.cell_faults.specs.cell_chains.Links.{cells_of}
use Rattle.cell_faults.specs.sorted_sets.Members.{IsIn}
use Rattle.cell_faults.proofs.OfCellChains.Each.{AreFound}
use Rattle.tag_faults.specs.Quotas.{IsQuotaAlone}
use Rattle.tag_faults.proofs.quotas.unnamed_quota_faults.Given as goal

abbrev pub invariant-loop-at : goal.invariant-loop-at
invariant-loop-at l = AreFound (cells_of l.links) {X = Home} (λ home at link. (home_of at ≡ home) × IsQuotaAlone l.led l.named at link) (IsIn l.found) l.at-index
