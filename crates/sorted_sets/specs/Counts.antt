-- How many of many spans have a number.
use Rattle.std.specs.Prelude.{◌&&◌, ◌<◌, ◌≤◌, ◌↔◌, ℕ, List, nat_le, nat_lt, sum_by, if◌then◌else◌}
use Rattle.std.specs.List.{AllByRecursion}
use Rattle.sorted_sets.specs.declared.span.Span.{Span}

-- 1 if a span has the number, else 0
abbrev pub has : ℕ → Span → ℕ
has n span = if nat_le span.from n && nat_lt n span.to then 1 else 0

-- how many of the spans have it
abbrev pub counts : List Span → ℕ → ℕ
counts spans n = sum_by (has n) spans

-- it begins where the others do, or after
abbrev pub IsBehind : Span → List Span → Type 0
IsBehind span earlier = AllByRecursion (λ other. other.from ≤ span.from) earlier

-- from where all of them have begun on, one of them has a number if and only if it is below this
-- end
abbrev pub EndsAt : ℕ → List Span → Type 0
EndsAt end spans = (n : ℕ) → AllByRecursion (λ span. span.from ≤ n) spans
    → (n < end) ↔ (1 ≤ counts spans n)
