-- How often hashes and pages stand together.
use Rattle.std.specs.Prelude.{◌≡◌, ◌==◌, ◌&&◌, ℕ, Bool, List, count_by, unwrap_or}
use Rattle.std.specs.BTreeMap.{BTreeMap, get}
use Rattle.std.specs.Ordering.{nat_cmp, ordering_then}
use Rattle.std.specs.declared.cmp.Ordering.{Ordering}

-- hashes with pages, in order
abbrev pub key_order : ℕ × ℕ → ℕ × ℕ → Ordering
key_order one other = ordering_then (nat_cmp one.0 other.0) (nat_cmp one.1 other.1)

-- how often a map says
abbrev pub count_in : BTreeMap (ℕ × ℕ) ℕ → ℕ → ℕ → ℕ
count_in counts hash page = unwrap_or (get key_order counts (hash, page)) 0

-- it is of this hash and page
abbrev pub is_key : ℕ → ℕ → ℕ × ℕ → Bool
is_key hash page key = (key.0 == hash) && (key.1 == page)

-- a map says of each hash and page how often some have both
abbrev pub AreCounts : List (ℕ × ℕ) → BTreeMap (ℕ × ℕ) ℕ → Type 0
AreCounts keys counts = (hash page : ℕ)
    → count_in counts hash page ≡ count_by (is_key hash page) keys
