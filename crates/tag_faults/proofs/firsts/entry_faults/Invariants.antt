use Rattle.std.proofs.Common.{◌↔◌}
use Rattle.cell_faults.specs.domain_base.declared.place.Home.{Home}
use Rattle.cell_faults.specs.page_ways.Frame.{frame_in}
use Rattle.cell_faults.specs.sorted_sets.Members.{IsIn}
use Rattle.cell_faults.proofs.OfSortedSets.Below.{IsBelow}
use Rattle.tag_faults.specs.Entries.{LeadsToNoFirst}
use Rattle.tag_faults.specs.declared.named.NamedCell.{NamedCell}
use Rattle.tag_faults.proofs.firsts.entry_faults.Given as goal

abbrev pub invariant-loop-entry : goal.invariant-loop-entry
invariant-loop-entry g l = (home : Home) → IsIn l.found home ↔ IsBelow {X = NamedCell} l.entry-items (LeadsToNoFirst (g.M.MetaPages.pages l.pages) (frame_in l.frame) home) l.entry-index
