use Rattle.std.proofs.Common.{◌↔◌}
use Rattle.cell_faults.specs.domain_base.declared.place.Home.{Home}
use Rattle.cell_faults.specs.page_ways.Frame.{frame_in}
use Rattle.cell_faults.specs.sorted_sets.Members.{IsIn}
use Rattle.tag_faults.specs.Roots.{LacksRoot}
use Rattle.tag_faults.proofs.Counted.{IsBelow}
use Rattle.tag_faults.proofs.roots.root_faults.Given as goal

abbrev pub invariant-loop-number : goal.invariant-loop-number
invariant-loop-number g l = (home : Home) → IsIn l.found home ↔ IsBelow (LacksRoot (g.M.MetaPages.pages l.pages) (frame_in l.frame) l.table l.entries.items home) l.number
