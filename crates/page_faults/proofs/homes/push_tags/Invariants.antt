use Rattle.std.proofs.Common.{◌↔◌, ◌⊎◌, Contains}
use Rattle.tag_faults.specs.domain_base.declared.place.Home.{Home}
use Rattle.tag_faults.specs.page_ways.Frame.{frame_in}
use Rattle.tag_faults.specs.Directories.{HasPage}
use Rattle.tag_faults.proofs.Counted.{IsBelow}
use Rattle.page_faults.proofs.homes.push_tags.Given as goal

abbrev pub invariant-loop-number : goal.invariant-loop-number
invariant-loop-number g l = (home : Home) → Contains l.homes.items home ↔ (Contains l.initial.homes.items home ⊎ IsBelow (λ number. HasPage (g.M.MetaPages.pages l.pages) (frame_in l.frame) l.table number home) l.number)
