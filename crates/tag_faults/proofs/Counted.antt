-- Slots looked at in the order of their numbers.
use Rattle.std.proofs.Common.{◌≡◌, ◌∙◌, ◌⊎◌, ◌↔◌, inl, inr, zero, suc, ℕ, ◌+◌, ◌<◌, List, [], ◌∷◌, length, slice_get, Some, None, sym, subst, arith, ⊎_elim}
use Rattle.std.proofs.lemmas.Bool.{cases_lt}

some_same : {X : Type 0} (a b : X) → Some a ≡ Some b → a ≡ b
some_same a b e = cc

none_some : {X : Type 0} (x : X) → None ≡ Some x → ⊥
none_some x e = cc

pub one_item : {X : Type 0} (items : List X) (k : ℕ) (a b : X) → slice_get items k ≡ Some a → slice_get items k ≡ Some b → a ≡ b
one_item items k a b one other = some_same a b (sym one ∙ other)

pub within_of : {X : Type 0} (items : List X) (k : ℕ) (x : X) → slice_get items k ≡ Some x → k < length items
within_of [] k x is = absurd (none_some x is)
within_of (y ∷ items) zero x is = omega arith
within_of (y ∷ items) (suc k) x is = omega (arith, within_of items k x is)

module _ (Is : ℕ → Type 0) where
  -- a number below another one is such
  abbrev pub IsBelow : ℕ → Type 0
  IsBelow number = (k : ℕ) × (k < number) × Is k

  pub number_more : (number : ℕ) → (IsBelow number ⊎ Is number) ↔ IsBelow (number + 1)
  number_more number = (
    λ which. ⊎_elim (λ (k, below, is). (k, omega (arith, below), is)) (λ is. (number, omega arith, is)) which,
    λ (k, below, is). ⊎_elim (λ low. inl (k, low, is)) (λ high. let here : k ≡ number = omega (arith, below, high) in inr (subst Is here is)) (cases_lt k number),
  )
