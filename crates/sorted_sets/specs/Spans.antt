-- Spans of numbers, each under its first one.
use Rattle.std.specs.Prelude.{◌≡◌, ◌<◌, ◌≤◌, ℕ, List, Some}
use Rattle.sorted_sets.specs.Rising.{value_at}
use Rattle.sorted_sets.specs.declared.span.Span.{Span}

-- each has a number, and no two have one
pub record AreSpans (spans : List (ℕ × ℕ)) : Type 0 where
  pub some : (from to : ℕ) → value_at spans from ≡ Some to → from < to
  pub apart : (from to other end : ℕ) → value_at spans from ≡ Some to
      → value_at spans other ≡ Some end → from < other → to ≤ other

-- a number is in one of them
abbrev pub HasIn : List (ℕ × ℕ) → ℕ → Type 0
HasIn spans n = (from : ℕ) × (to : ℕ) × (value_at spans from ≡ Some to) × (from ≤ n) × (n < to)

-- a span begins before the end of another one, and ends after its beginning
abbrev pub Meets : Span → Span → Type 0
Meets span met = (met.from < span.to) × (span.from < met.to)
