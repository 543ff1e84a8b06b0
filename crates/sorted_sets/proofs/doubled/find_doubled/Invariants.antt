use Rattle.std.proofs.Common.{◌↔◌, ◌≤◌, ℕ, take}
use Rattle.sorted_sets.specs.SpanMembers.{HasNumber}
use Rattle.sorted_sets.specs.Counts.{EndsAt, counts}
use Rattle.sorted_sets.proofs.doubled.find_doubled.Given as goal

abbrev pub invariant-loop-span : goal.invariant-loop-span
invariant-loop-span l =
    EndsAt l.end (take l.span-index l.span-items) × ((n : ℕ) → HasNumber l.found n ↔ (2 ≤ counts (take l.span-index l.span-items) n))
