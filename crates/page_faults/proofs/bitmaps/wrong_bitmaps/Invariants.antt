use Rattle.std.proofs.Common.{◌↔◌}
use Rattle.tag_faults.specs.domain_base.declared.place.Home.{Home}
use Rattle.tag_faults.specs.page_ways.Frame.{frame_in}
use Rattle.tag_faults.specs.sorted_sets.Members.{IsIn}
use Rattle.tag_faults.proofs.Counted.{IsBelow}
use Rattle.page_faults.specs.Wrong.{IsWrongBitmapOf}
use Rattle.page_faults.proofs.bitmaps.wrong_bitmaps.Given as goal

abbrev pub invariant-loop-number : goal.invariant-loop-number
invariant-loop-number g l = (home : Home) → IsIn l.found home ↔ IsBelow (IsWrongBitmapOf (g.M.MetaPages.pages l.pages) (frame_in l.frame) l.homes l.runs home) l.number
