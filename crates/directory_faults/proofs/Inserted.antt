-- What is put into a set by items, one after the other.
use Rattle.std.proofs.Common.{◌≡◌, ◌∙◌, ◌⊎◌, ◌↔◌, inl, inr, ℕ, ◌+◌, ◌<◌, ◌≤◌, List, length, Some, Contains, slice_get, sym, ap, subst, arith, ⊎_elim}
use Rattle.std.proofs.lemmas.Bool.{cases_lt}
use Rattle.std.proofs.lemmas.Option.{get_or_from_slice_get, slice_get-get_or, slice_get_within}

some_same : {X : Type 0} (a b : X) → Some a ≡ Some b → a ≡ b
some_same a b e = cc

pub iff_trans : {A B C : Type 0} → A ↔ B → B ↔ C → A ↔ C
iff_trans first second = ((λ a. second.0 (first.0 a)), (λ c. first.1 (second.1 c)))

pub at_among : {X : Type 0} (items : List X) (k : ℕ) (item : X) → slice_get items k ≡ Some item → Contains items item
at_among items k item at = (k, slice_get_within items k item at, get_or_from_slice_get items k item item at)

pub among_at : {X : Type 0} (items : List X) (item : X) → Contains items item → (k : ℕ) × (slice_get items k ≡ Some item)
among_at items item (k, within, is) = (k, slice_get-get_or items k item within ∙ ap Some is)

module _ {X K : Type 0} (items : List X) (P : X → K → Type 0) where
  -- an item in front of a place says it
  abbrev pub IsSaid : ℕ → K → Type 0
  IsSaid number key = (k : ℕ) × (item : X) × (k < number) × (slice_get items k ≡ Some item) × P item key

  -- what is in a set as before, and what items in front of a place say
  abbrev pub AreIn : (K → Type 0) → (K → Type 0) → ℕ → Type 0
  AreIn old new number = (key : K) → new key ↔ (old key ⊎ IsSaid number key)

  pub none_in : (old : K → Type 0) → AreIn old old 0
  none_in old key = ((λ is. inl is), (λ which. ⊎_elim (λ is. is) (λ (k, item, below, at, says). absurd (omega (arith, below))) which))

  pub one_in : (old new more : K → Type 0) (number : ℕ) (item : X) → slice_get items number ≡ Some item → AreIn old new number → ((key : K) → more key ↔ (new key ⊎ P item key)) → AreIn old more (number + 1)
  one_in old new more number item at are put key = (
    λ is. ⊎_elim (λ before. ⊎_elim (λ first. inl first) (λ (k, one, below, there, says). inr (k, one, omega (arith, below), there, says)) ((are key).0 before)) (λ says. inr (number, item, omega arith, at, says)) ((put key).0 is),
    λ which. (put key).1 (⊎_elim (λ first. inl ((are key).1 (inl first))) (λ said. last said) which),
  )
    where
      last : IsSaid (number + 1) key → new key ⊎ P item key
      last (k, one, below, there, says) =
          ⊎_elim (λ low. inl ((are key).1 (inr (k, one, low, there, says))))
          (λ high.
          let here : k ≡ number = omega (arith, below, high) in
          inr (subst (λ x. P x key) (some_same one item (sym there ∙ ap (slice_get items) here ∙ at)) says))
          (cases_lt k number)

  pub all_in : (old new : K → Type 0) (number : ℕ) → length items ≤ number → AreIn old new number → (key : K) → new key ↔ (old key ⊎ ((item : X) × Contains items item × P item key))
  all_in old new number whole are key = (
    λ is. ⊎_elim (λ first. inl first) (λ (k, item, below, at, says). inr (item, at_among items k item at, says)) ((are key).0 is),
    λ which. (are key).1 (⊎_elim (λ first. inl first) (λ (item, among, says). inr (said item among says)) which),
  )
    where
      said : (item : X) → Contains items item → P item key → IsSaid number key
      said item among says =
          let at = among_at items item among in
          let within = slice_get_within items at.0 item at.1 in
          (at.0, item, omega (arith, within, whole), at.1, says)
