-- Lists of numbered values, in the order of their numbers.
use Rattle.std.specs.Prelude.{◌≡◌, ◌==◌, ◌<◌, ◌≤◌, ℕ, List, [], ◌∷◌, Option, Some, None, length, slice_index_or, if◌then◌else◌}

-- the value of that number
abbrev pub value_at : {V : Type 0} → List (ℕ × V) → ℕ → Option V
value_at [] key = None
value_at (e ∷ es) key = if e.0 == key then Some e.1 else value_at es key

-- the numbers rise, so none stands twice
abbrev pub IsRising : {V : Type 0} → List (ℕ × V) → Type 0
IsRising {V} es =
    (i j : ℕ) (d : ℕ × V) → i < j → j < length es
    → (slice_index_or es i d).0 < (slice_index_or es j d).0

-- the entry at this place has the number
pub record IsPlaceOf {V : Type 0} (es : List (ℕ × V)) (key place : ℕ) : Type 0 where
  pub within : place < length es
  pub has_key : (d : ℕ × V) → (slice_index_or es place d).0 ≡ key

-- no entry has the number, and one would stand at this place
pub record IsGapFor {V : Type 0} (es : List (ℕ × V)) (key place : ℕ) : Type 0 where
  pub within : place ≤ length es
  pub before : (j : ℕ) (d : ℕ × V) → j < place → (slice_index_or es j d).0 < key
  pub after : (j : ℕ) (d : ℕ × V) → place ≤ j → j < length es → key < (slice_index_or es j d).0

-- the number has the value, and all others have theirs
abbrev pub Sets : {V : Type 0} → List (ℕ × V) → List (ℕ × V) → ℕ → V → Type 0
Sets old new key value =
    (q : ℕ) → value_at new q ≡ (if key == q then Some value else value_at old q)

-- the number has no value, and all others have theirs
abbrev pub Drops : {V : Type 0} → List (ℕ × V) → List (ℕ × V) → ℕ → Type 0
Drops old new key =
    (q : ℕ) → value_at new q ≡ (if key == q then None else value_at old q)
