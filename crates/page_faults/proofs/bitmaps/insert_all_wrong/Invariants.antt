use Rattle.std.proofs.Common.{◌↔◌, ◌⊎◌}
use Rattle.tag_faults.specs.domain_base.declared.place.Home.{Home}
use Rattle.tag_faults.specs.page_ways.Frame.{frame_in}
use Rattle.tag_faults.specs.sorted_sets.Members.{IsIn}
use Rattle.tag_faults.specs.sorted_sets.SpanMembers.{HasNumber}
use Rattle.tag_faults.proofs.Counted.{IsBelow}
use Rattle.page_faults.specs.Wrong.{HasWrongBits}
use Rattle.page_faults.proofs.bitmaps.insert_all_wrong.Given as goal

abbrev pub invariant-loop-number : goal.invariant-loop-number
invariant-loop-number g l = (home : Home) → IsIn l.found home
    ↔ (IsIn l.initial.found home ⊎ IsBelow (HasWrongBits (g.M.MetaPages.pages l.pages) (frame_in l.frame) (HasNumber l.owned) l.vol home) l.number)
