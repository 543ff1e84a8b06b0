use Rattle.std.proofs.Common.{◌≡◌, ◌<◌, ℕ, get_or}
use Rattle.sorted_sets.specs.SpanMembers.{HasNumber, IsOf}
use Rattle.sorted_sets.specs.declared.span.Span.{Span}
use Rattle.sorted_sets.proofs.span_set.SpanSet.has_any.Given as goal

abbrev pub invariant-loop-span : goal.invariant-loop-span
invariant-loop-span l =
    (k : ℕ) (span : Span) → k < l.span-index → get_or l.spans k span ≡ span → (n : ℕ) → IsOf span n → ¬ HasNumber l.self n
