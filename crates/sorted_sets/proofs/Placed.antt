-- Numbered values of a list, by their places.
use Rattle.std.proofs.Common.{◌≡◌, suc, ℕ, ◌+◌, ◌<◌, List, [], ◌∷◌, get_or, length, if◌then◌else◌, ◌==◌, eqb-true, Some, None, true, false, refl, arith}
use Rattle.sorted_sets.specs.Rising.{value_at}

some_same : {X : Type 0} (a b : X) → Some a ≡ Some b → a ≡ b
some_same a b e = cc

some_none : {X : Type 0} (x : X) → None ≡ Some x → ⊥
some_none x e = cc

-- the value of a number stands at some place
pub placed : {V : Type 0} (entries : List (ℕ × V)) (key : ℕ) (value : V) → value_at entries key ≡ Some value → (k : ℕ) × (k < length entries) × (get_or entries k (key, value) ≡ (key, value))
placed [] key value e = absurd (some_none value e)
placed {V} (x ∷ entries) key value e = elim (x.0 == key) as (λ b. (x.0 == key) ≡ b → (if b then Some x.1 else value_at entries key) ≡ Some value → (k : ℕ) × (k < suc (length entries)) × (get_or (x ∷ entries) k (key, value) ≡ (key, value))) [
  | true ↦ λ t here. (0, omega arith, λ i. (eqb-true x.0 key t i, some_same x.1 value here i))
  | false ↦ λ t there. let more = placed entries key value there in (suc more.0, omega (arith, more.1), more.2)
] refl e
