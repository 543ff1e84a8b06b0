-- Counts of 64 bits, of calls and of faults: they never fall, and stay at their greatest number.
use Rattle.std.specs.Prelude.{ℕ, ◌+◌, ◌-◌, ◌^◌, ◌≤◌, max, min}

-- the count after one more
abbrev pub raised : ℕ → ℕ
raised count = max count (min (count + 1) (2 ^ 64 - 1))

-- a count has risen, or stands at its greatest number, at which a rise does not show
abbrev pub HasRisen : ℕ → ℕ → Type 0
HasRisen old new = raised old ≤ new
