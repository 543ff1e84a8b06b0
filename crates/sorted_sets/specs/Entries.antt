-- Where a key stands in a list of entries.
use Rattle.std.specs.Prelude.{◌≡◌, ℕ, ◌<◌, ◌≤◌, List, [], ◌∷◌, ◌++◌, length, take, drop, slice_index_or, slice_set, Some, None}
use Rattle.std.specs.declared.cmp.Ordering.{Ordering}
use Rattle.std.specs.declared.cmp.Ordering.TheVariants.{Equal}
use Rattle.std.specs.FinMap.Entries.{find, put}

-- the entry at this place has the key
pub record IsPlaceOf {K X : Type 0} (R : K → K → Ordering)
    (es : List (K × X)) (key : K) (place : ℕ) : Type 0 where
  pub within : place < length es
  pub found : (d : K × X) → find R key es ≡ Some (slice_index_or es place d).1
  pub replaced : (d : K × X) (v : X)
      → put R key v es ≡ slice_set es place ((slice_index_or es place d).0, v)

-- the entry at this place has a key that compares as this one
abbrev pub IsEqualAt : {K X : Type 0} (R : K → K → Ordering) → List (K × X) → K → ℕ → Type 0
IsEqualAt {K = K} {X = X} R es key place =
    (d : K × X) → R key (slice_index_or es place d).0 ≡ Equal

-- no entry has the key, and one would stand at this place
pub record IsGapOf {K X : Type 0} (R : K → K → Ordering)
    (es : List (K × X)) (key : K) (place : ℕ) : Type 0 where
  pub within : place ≤ length es
  pub absent : find R key es ≡ None
  pub placed : (v : X) → put R key v es ≡ take place es ++ (key, v) ∷ drop place es

-- the entries with each of these put in its place
abbrev pub put_each : {K X : Type 0} (R : K → K → Ordering)
    → List (K × X) → List (K × X) → List (K × X)
put_each R [] es = es
put_each R (e ∷ changed) es = put_each R changed (put R e.0 e.1 es)
