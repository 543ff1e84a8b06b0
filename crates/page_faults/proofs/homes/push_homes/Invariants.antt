use Rattle.std.proofs.Common.{◌≡◌, ◌↔◌, ◌⊎◌, Contains}
use Rattle.tag_faults.specs.domain_base.declared.place.Home.{Home}
use Rattle.tag_faults.proofs.OfSortedSets.Below.{IsBelow}
use Rattle.page_faults.proofs.homes.push_homes.Given as goal

abbrev pub invariant-loop-one : goal.invariant-loop-one
invariant-loop-one l = (home : Home) → Contains l.homes.items home ↔ (Contains l.initial.homes.items home ⊎ IsBelow {X = Home} l.more (λ one. one ≡ home) l.one-index)
