use Rattle.std.proofs.Common.{◌≡◌, ◌↔◌, ◌⊎◌}
use Rattle.cell_faults.specs.domain_base.declared.place.Home.{Home}
use Rattle.cell_faults.specs.sorted_sets.Members.{IsIn}
use Rattle.cell_faults.proofs.OfSortedSets.Below.{IsBelow}
use Rattle.tag_faults.proofs.directories.insert_shared.Given as goal

abbrev pub invariant-loop-home : goal.invariant-loop-home
invariant-loop-home l = (other : Home) → IsIn l.found other ↔ (IsIn l.initial.found other ⊎ IsBelow l.homes (λ (home : Home). (home ≡ other) × IsIn l.earlier home) l.home-index)
