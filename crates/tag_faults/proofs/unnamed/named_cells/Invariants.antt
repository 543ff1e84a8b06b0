use Rattle.std.proofs.Common.{◌↔◌}
use Rattle.cell_faults.specs.domain_base.declared.place.CellAt.{CellAt}
use Rattle.cell_faults.specs.page_ways.Frame.{frame_in}
use Rattle.cell_faults.specs.cell_chains.Members.{IsIn}
use Rattle.cell_faults.proofs.OfSortedSets.Below.{IsBelow}
use Rattle.tag_faults.specs.Unnamed.{LeadsToFirst}
use Rattle.tag_faults.specs.declared.named.NamedCell.{NamedCell}
use Rattle.tag_faults.proofs.unnamed.named_cells.Given as goal

abbrev pub invariant-loop-entry : goal.invariant-loop-entry
invariant-loop-entry g l = (at : CellAt) → IsIn l.named at ↔ IsBelow {X = NamedCell} l.entry-items (LeadsToFirst (g.M.MetaPages.pages l.pages) (frame_in l.frame) at) l.entry-index
