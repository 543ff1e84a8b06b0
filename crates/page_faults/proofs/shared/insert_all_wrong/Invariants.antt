use Rattle.std.proofs.Common.{◌≡◌, ◌↔◌, ◌⊎◌}
use Rattle.tag_faults.specs.domain_base.declared.place.Home.{Home}
use Rattle.tag_faults.specs.sorted_sets.Members.{IsIn}
use Rattle.tag_faults.proofs.OfSortedSets.Below.{IsBelow}
use Rattle.page_faults.specs.Shared.{IsWrongAt}
use Rattle.page_faults.proofs.shared.insert_all_wrong.Given as goal

abbrev pub invariant-loop-home : goal.invariant-loop-home
invariant-loop-home g l = (other : Home) → IsIn l.found other
    ↔ (IsIn l.initial.found other ⊎ IsBelow {X = Home} l.homes (λ home. (home ≡ other) × IsWrongAt (g.M.MetaPages.pages l.pages) (IsIn l.earlier) home) l.home-index)
