-- Homes put into a set one by one.
use Rattle.std.proofs.Common.{◌≡◌, ◌∙◌, ◌⊎◌, ◌↔◌, inl, inr, ℕ, ◌+◌, ◌<◌, ◌≤◌, List, get_or, length, Some, sym, ap, subst, arith, ⊎_elim}
use Rattle.std.proofs.lemmas.Bool.{cases_lt}
use Rattle.domain_base.specs.declared.place.Home.{Home}
use Rattle.sorted_sets.specs.Homes.{number_of}
use Rattle.sorted_sets.specs.Rising.{IsRising, value_at}
use Rattle.sorted_sets.proofs.Search.{value-present}
use Rattle.sorted_sets.specs.Members.{IsIn, entries}
use Rattle.sorted_sets.specs.Order.{AreNumbered}
use Rattle.sorted_sets.specs.declared.home_set.HomeSet.{HomeSet}
use Rattle.sorted_sets.proofs.Items.{item_of}
use Rattle.sorted_sets.proofs.Placed.{placed}

-- of the homes, those at places below a number are in the set beside those of before
abbrev pub AreIn : (Home → Type 0) → (Home → Type 0) → List Home → ℕ → Type 0
AreIn old new homes number = (other : Home) → new other ↔ (old other ⊎ ((k : ℕ) × (k < number) × (get_or homes k other ≡ other)))

-- a home with its number
abbrev Entry : Type 0
Entry = ℕ × Home

-- a home stands at a place below a number
abbrev IsBelow : List Entry → Home → ℕ → Type 0
IsBelow homes other number = (e : Entry) × ((k : ℕ) × (k < number) × (get_or homes k e ≡ e)) × (e.1 ≡ other)

-- the same of the homes of a set
abbrev pub AreInFrom : (Home → Type 0) → (Home → Type 0) → List Entry → ℕ → Type 0
AreInFrom old new homes number = (other : Home) → new other ↔ (old other ⊎ IsBelow homes other number)

module _ (old now : Home → Type 0) (set : HomeSet) (lent : List Entry) (same : lent ≡ entries set) (number : ℕ) (are : AreInFrom old now (entries set) number) where
  pub in_more : (new : Home → Type 0) (entry : Entry) → number < length lent → entry ≡ get_or lent number entry → ((other : Home) → new other ↔ (now other ⊎ (other ≡ entry.1)))
      → AreInFrom old new (entries set) (number + 1)
  in_more new entry within is put other = (
    λ there. ⊎_elim (λ before. ⊎_elim (λ first. inl first) (λ found. inr (further found)) ((are other).0 before))
        (λ last. inr (entry, (number, omega arith, item_of (entries set) lent number entry same within is entry), sym last)) ((put other).0 there),
    λ which. (put other).1 (⊎_elim (λ first. inl ((are other).1 (inl first))) last which),
  )
    where
      further : IsBelow (entries set) other number → IsBelow (entries set) other (number + 1)
      further (e, (k, below, at), home) = (e, (k, omega (arith, below), at), home)

      last : IsBelow (entries set) other (number + 1) → now other ⊎ (other ≡ entry.1)
      last (e, (k, below, at), home) =
          ⊎_elim (λ low. inl ((are other).1 (inr (e, (k, low, at), home))))
          (λ high.
          let here : k ≡ number = omega (arith, below, high) in
          let alike : e ≡ entry = sym (subst (λ n. get_or (entries set) n e ≡ e) here at) ∙ item_of (entries set) lent number entry same within is e in
          inr (sym home ∙ ap (λ (a : Entry). a.1) alike))
          (cases_lt k number)

  -- in the end those of the whole set are
  pub in_all : IsRising lent → AreNumbered lent → length lent ≤ number → number ≤ length lent → (other : Home) → now other ↔ (old other ⊎ IsIn set other)
  in_all rising numbered whole end other = (
    λ there. ⊎_elim (λ first. inl first) (λ found. inr (from found)) ((are other).0 there),
    λ which. (are other).1 (⊎_elim (λ first. inl first) (λ there. inr (to there)) which),
  )
    where
      from : IsBelow (entries set) other number → IsIn set other
      from (e, (k, below, at), home) =
          let lent_at = subst (λ (l : List Entry). get_or l k e ≡ e) (sym same) at in
          let there : value_at lent e.0 ≡ Some e.1 =
          value-present lent rising e.0 k e (omega (arith, below, end)) (ap (λ (a : Entry). a.0) lent_at) ∙ ap (λ (a : Entry). Some a.1) lent_at in
          subst (λ h. value_at (entries set) (number_of h) ≡ Some h) home
          (subst (λ (l : List Entry). value_at l (number_of e.1) ≡ Some e.1) same
          (subst (λ n. value_at lent n ≡ Some e.1) (numbered e.0 e.1 there).0 there))

      to : IsIn set other → IsBelow (entries set) other number
      to there =
          let at = placed (entries set) (number_of other) other there in
          let within : at.0 < number = omega (arith, subst (λ (l : List Entry). at.0 < length l) (sym same) at.1, whole) in
          ((number_of other, other), (at.0, within, at.2), (λ i. other))
