use Rattle.std.proofs.Common.{◌↔◌}
use Rattle.cell_faults.specs.domain_base.declared.place.Home.{Home}
use Rattle.cell_faults.specs.page_ways.Frame.{frame_in}
use Rattle.cell_faults.specs.sorted_sets.Members.{IsIn}
use Rattle.cell_faults.proofs.OfSortedSets.Below.{IsBelow}
use Rattle.tag_faults.specs.Late.{LeadsToLate}
use Rattle.tag_faults.specs.declared.named.NamedCell.{NamedCell}
use Rattle.tag_faults.proofs.late.late_file_faults.Given as goal

abbrev pub invariant-loop-entry : goal.invariant-loop-entry
invariant-loop-entry g l = (home : Home) → IsIn l.found home ↔ IsBelow {X = NamedCell} l.entry-items (LeadsToLate (g.M.MetaPages.pages l.pages) (frame_in l.frame) l.table home) l.entry-index
