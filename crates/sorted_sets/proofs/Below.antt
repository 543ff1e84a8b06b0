-- What some item of a list is, looked for item by item.
use Rattle.std.proofs.Common.{◌≡◌, ◌∙◌, ◌⊎◌, ◌↔◌, inl, inr, ℕ, ◌+◌, ◌<◌, ◌≤◌, List, get_or, length, Contains, sym, subst, arith, ⊎_elim}
use Rattle.std.proofs.lemmas.Bool.{cases_lt}

module _ {X : Type 0} (items : List X) (Is : X → Type 0) where
  -- an item at a place below a number is such
  abbrev pub IsBelow : ℕ → Type 0
  IsBelow number = (x : X) × ((k : ℕ) × (k < number) × (get_or items k x ≡ x)) × Is x

  pub none_below : ¬ IsBelow 0
  none_below (x, (k, below, at), is) = omega (arith, below)

  -- below the next number there are those below one, and the item there
  pub below_more : (number : ℕ) (item : X) → ((d : X) → get_or items number d ≡ item) → (IsBelow number ⊎ Is item) ↔ IsBelow (number + 1)
  below_more number item at = (to, from)
    where
      to : IsBelow number ⊎ Is item → IsBelow (number + 1)
      to (inl (x, (k, below, is_at), is)) = (x, (k, omega (arith, below), is_at), is)
      to (inr is) = (item, (number, omega arith, at item), is)

      from : IsBelow (number + 1) → IsBelow number ⊎ Is item
      from (x, (k, below, is_at), is) =
          ⊎_elim (λ low. inl (x, (k, low, is_at), is))
          (λ high.
          let here : k ≡ number = omega (arith, below, high) in
          inr (subst Is (sym (subst (λ n. get_or items n x ≡ x) here is_at) ∙ at x) is))
          (cases_lt k number)

  -- below the length there are all
  pub below_all : (number : ℕ) → length items ≤ number → number ≤ length items → IsBelow number ↔ ((x : X) × Contains items x × Is x)
  below_all number whole end = (
    λ (x, (k, below, at), is). (x, (k, omega (arith, below, end), at), is),
    λ (x, (k, within, at), is). (x, (k, omega (arith, within, whole), at), is),
  )
