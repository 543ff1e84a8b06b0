use Rattle.std.proofs.Common.{◌↔◌}
use Rattle.cell_faults.specs.domain_base.declared.place.Home.{Home}
use Rattle.cell_faults.specs.page_ways.Frame.{frame_in}
use Rattle.cell_faults.specs.sorted_sets.Members.{IsIn}
use Rattle.tag_faults.proofs.Counted.{IsBelow}
use Rattle.tag_faults.proofs.SlotPages.{HasPageBelow, IsFaultAt}
use Rattle.tag_faults.proofs.directories.directory_faults.Given as goal

abbrev pub invariant-loop-number : goal.invariant-loop-number
invariant-loop-number g l = record {
  earlier : (home : Home) → IsIn l.earlier home ↔ HasPageBelow (g.M.MetaPages.pages l.pages) (frame_in l.frame) l.table l.number home;
  found : (home : Home) → IsIn l.found home ↔ IsBelow (IsFaultAt (g.M.MetaPages.pages l.pages) (frame_in l.frame) l.table home) l.number;
}
