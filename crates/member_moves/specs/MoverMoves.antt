-- What a move of a page makes of the counts, and how far apart used shares are.
use Rattle.std.specs.Prelude.{◌+◌, ◌-◌, ◌*◌, ◌/◌, ◌==◌, ◌≤◌, ℕ, if◌then◌else◌, List, [], ◌∷◌, map, sum_by}
use Rattle.member_moves.specs.Balance.{IsOpenOf}
use Rattle.member_moves.specs.declared.counts.VolCount.{VolCount}

-- a volume's count after a page was moved from one volume to another
abbrev pub count_after : ℕ → ℕ → VolCount → VolCount
count_after from to c =
    if c.vol == from then record c { used = c.used - 1 }
    else if c.vol == to then record c { used = c.used + 1 } else c

-- and all counts
abbrev pub counts_after : ℕ → ℕ → List VolCount → List VolCount
counts_after from to counts = map (count_after from to) counts

-- a common multiple of the pages of all volumes
abbrev pub pages_product : List VolCount → ℕ
pages_product [] = 1
pages_product (c ∷ cs) = c.pages * pages_product cs

-- How uneven volumes are: the square of each one's used pages over its pages, summed up, in units
-- of one over the common multiple.
abbrev pub unevenness : List VolCount → ℕ
unevenness counts = sum_by (λ c. c.used * c.used * (pages_product counts / c.pages)) counts

-- each open volume has at least `least` pages
abbrev pub HaveOpenPages : List VolCount → ℕ → Type 0
HaveOpenPages counts least = (c : VolCount) → IsOpenOf counts c → least ≤ c.pages

-- the used share of the first volume is above that of the second by one over this number at most
abbrev pub ExceedsByOneOver : ℕ → VolCount → VolCount → Type 0
ExceedsByOneOver least a b = least * (a.used * b.pages - b.used * a.pages) ≤ a.pages * b.pages

-- how far apart two used shares are, in units of one over the product of the pages
abbrev pub gap : VolCount → VolCount → ℕ
gap a b = (a.used * b.pages - b.used * a.pages) + (b.used * a.pages - a.used * b.pages)
