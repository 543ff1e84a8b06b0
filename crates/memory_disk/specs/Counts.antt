-- Counts of faults, by volume.
use Rattle.std.specs.Prelude.{ℕ, zero, suc, List, slice_index}

-- the count of a volume, and 0 if there is none
abbrev pub count_of : List ℕ → ℕ → ℕ
count_of counts zero = 0
count_of counts (suc at) = slice_index counts at
