use Rattle.metadata_cells.specs.domain_base.declared.place.CellAt.{CellAt}
use Rattle.cell_chains.specs.Links.{cells_of}
use Rattle.cell_chains.specs.Members.{IsIn}
use Rattle.cell_chains.specs.Heads.{LeadsTo}
use Rattle.cell_chains.proofs.Each.{AreFound}
use Rattle.cell_chains.proofs.heads.led_cells.Given as goal

abbrev pub invariant-loop-link : goal.invariant-loop-link
invariant-loop-link l = AreFound (cells_of l.links) {X = CellAt} (λ onto at link. LeadsTo link onto) (IsIn l.led) l.link-index
