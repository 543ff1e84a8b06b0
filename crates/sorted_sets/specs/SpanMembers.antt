-- The numbers of spans, and of a set.
use Rattle.std.specs.Prelude.{◌<◌, ◌≤◌, ℕ, List, Contains}
use Rattle.sorted_sets.specs.Spans.{HasIn}
use Rattle.sorted_sets.specs.declared.span_set.SpanSet.{SpanSet}
use Rattle.sorted_sets.specs.declared.span.Span.{Span}

-- it is a number of a span
abbrev pub IsOf : Span → ℕ → Type 0
IsOf span n = (span.from ≤ n) × (n < span.to)

-- a number of some of the spans
abbrev pub HasAnyOf : List Span → ℕ → Type 0
HasAnyOf spans n = (span : Span) × Contains spans span × IsOf span n

-- a number is in the set
abbrev pub HasNumber : SpanSet → ℕ → Type 0
HasNumber set n = HasIn set.spans.items n
