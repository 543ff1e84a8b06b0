use Rattle.std.proofs.Common.{◌≡◌, ◌↔◌, ◌⊎◌, ℕ}
use Rattle.metadata_cells.specs.domain_base.declared.place.Home.{Home}
use Rattle.metadata_cells.specs.sorted_sets.SpanMembers.{HasAnyOf}
use Rattle.metadata_cells.proofs.OfSortedSets.Below.{IsBelow}
use Rattle.cell_chains.specs.Runs.{on}
use Rattle.cell_chains.proofs.pages.push_pages.Given as goal

abbrev pub invariant-loop-home : goal.invariant-loop-home
invariant-loop-home l = (n : ℕ) → HasAnyOf l.spans.items n ↔ (HasAnyOf l.initial.spans.items n ⊎ IsBelow {X = Home} l.homes (λ home. home ≡ on l.vol n) l.home-index)
