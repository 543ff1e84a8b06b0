use Rattle.std.proofs.Common.{◌↔◌}
use Rattle.tag_faults.specs.domain_base.declared.place.Home.{Home}
use Rattle.tag_faults.specs.page_ways.Frame.{frame_in}
use Rattle.tag_faults.specs.sorted_sets.Members.{IsIn}
use Rattle.tag_faults.proofs.Counted.{IsBelow}
use Rattle.page_faults.proofs.PagesShared.{HasPageAt, IsFaultAt}
use Rattle.page_faults.proofs.shared.wrong_pages.Given as goal

abbrev pub invariant-loop-index : goal.invariant-loop-index
invariant-loop-index g l = record {
  earlier : (home : Home) → IsIn l.earlier home ↔ IsBelow (HasPageAt (g.M.MetaPages.pages l.pages) (frame_in l.frame) l.indexes home) l.index-index;
  found : (home : Home) → IsIn l.found home ↔ IsBelow (IsFaultAt (g.M.MetaPages.pages l.pages) (frame_in l.frame) l.indexes home) l.index-index;
}
