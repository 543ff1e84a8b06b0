use Rattle.std.proofs.Common.{◌↔◌, ◌⊎◌, ℕ}
use Rattle.sorted_sets.specs.SpanMembers.{HasNumber, IsOf}
use Rattle.sorted_sets.specs.declared.span.Span.{Span}
use Rattle.sorted_sets.proofs.Below.{IsBelow}
use Rattle.sorted_sets.proofs.span_set.SpanSet.insert_all.Given as goal

abbrev pub invariant-loop-span : goal.invariant-loop-span
invariant-loop-span l = (n : ℕ) → HasNumber l.self n ↔ (HasNumber l.initial.self n ⊎ IsBelow l.spans (λ (span : Span). IsOf span n) l.span-index)
