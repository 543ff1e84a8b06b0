-- Cells of a list that say what one in front of them says.
use Rattle.std.proofs.Common.{◌≡◌, ◌∙◌, ◌⊎◌, ◌↔◌, inl, inr, zero, suc, ℕ, ◌+◌, ◌<◌, ◌≤◌, List, [], ◌∷◌, ◌++◌, get_or, length, Contains, refl, sym, ap, subst, arith, ⊎_elim, length-append}
use Rattle.std.proofs.lemmas.Bool.{cases_lt}
use Rattle.metadata_cells.specs.domain_base.declared.place.CellAt.{CellAt}
use Rattle.metadata_cells.specs.domain_base.declared.place.Home.{Home}
use Rattle.metadata_cells.specs.page_store.Pages.{Pages}
use Rattle.metadata_cells.specs.CellPage.{home_of}
use Rattle.cell_chains.specs.Chains.{IsListed}
use Rattle.cell_chains.specs.Says.{SaysAgain, SaysAt}
use Rattle.cell_chains.specs.declared.said.Said.{Said}
use Rattle.metadata_cells.proofs.OfSortedSets.Below.{IsBelow, below_more}

-- ---- a place of a list, with what stands in front of it

module _ (rest : List CellAt) where
  place_of : (passed : List CellAt) (at : CellAt) → get_or (passed ++ at ∷ rest) (length passed) at ≡ at
  place_of [] at = refl
  place_of (x ∷ xs) at = place_of xs at

  in_front : (passed : List CellAt) (before : CellAt) → Contains passed before → (j : ℕ) × (j < length passed) × (get_or (passed ++ rest) j before ≡ before)
  in_front [] before (j, within, at) = absurd (omega (arith, within))
  in_front (x ∷ xs) before (zero, within, at) = (zero, omega arith, at)
  in_front (x ∷ xs) before (suc j, within, at) = let more = in_front xs before (j, omega (arith, within), at) in (suc more.0, omega (arith, more.1), more.2)

listed_at : (cells : List CellAt) (k : ℕ) (at : CellAt) → k < length cells → get_or cells k at ≡ at
    → (passed : List CellAt) × IsListed cells passed at × ((before : CellAt) (j : ℕ) → j < k → get_or cells j before ≡ before → Contains passed before)
listed_at [] k at within is = absurd (omega (arith, within))
listed_at (x ∷ xs) zero at within is = ([], (xs, ap (λ y. y ∷ xs) is), (λ before j less there. absurd (omega (arith, less))))
listed_at (x ∷ xs) (suc k) at within is =
    let more = listed_at xs k at (omega (arith, within)) is in
    (x ∷ more.0, (more.1.0, ap (λ l. x ∷ l) more.1.1), further more.0 more.2)
  where
    further : (passed : List CellAt) → ((before : CellAt) (j : ℕ) → j < k → get_or xs j before ≡ before → Contains passed before)
        → (before : CellAt) (j : ℕ) → j < suc k → get_or (x ∷ xs) j before ≡ before → Contains (x ∷ passed) before
    further passed among before zero less there = (zero, omega arith, there)
    further passed among before (suc j) less there = let is = among before j (omega (arith, less)) there in (suc is.0, omega (arith, is.1), is.2)

-- ---- cells looked at in the order of the list

module _ (pages : Pages) (what : Said) (cells : List CellAt) where
  -- a cell at a place below a number says a number
  abbrev pub SaidBelow : ℕ → ℕ → Type 0
  SaidBelow number n = IsBelow cells (λ (at : CellAt). SaysAt pages what at n) number

  -- a cell on the page at a place below a number says what one in front of it says
  abbrev pub AgainBelow : ℕ → Home → Type 0
  AgainBelow number home = (k : ℕ) × (k < number) × (at : CellAt) × (get_or cells k at ≡ at) × (home_of at ≡ home) × (n : ℕ) × SaysAt pages what at n × SaidBelow k n

  abbrev pub AreAgain : (Home → Type 0) → (Home → Type 0) → ℕ → Type 0
  AreAgain old now number = (home : Home) → now home ↔ (old home ⊎ AgainBelow number home)

  pub again_none : (old : Home → Type 0) → AreAgain old old 0
  again_none old home = ((λ is. inl is), (λ which. ⊎_elim (λ is. is) (λ again. absurd (omega (arith, again.1))) which))

  module _ (number : ℕ) (at : CellAt) (item : (d : CellAt) → get_or cells number d ≡ at) where
    pub said_more : (n : ℕ) → (SaidBelow number n ⊎ SaysAt pages what at n) ↔ SaidBelow (number + 1) n
    said_more n = below_more cells (λ (a : CellAt). SaysAt pages what a n) number at item

    pub again_more : (old now new : Home → Type 0) → AreAgain old now number
        → ((home : Home) → new home ↔ (now home ⊎ ((home_of at ≡ home) × ((n : ℕ) × SaysAt pages what at n × SaidBelow number n)))) → AreAgain old new (number + 1)
    again_more old now new are put home = (
      λ is. ⊎_elim (λ was. ⊎_elim (λ first. inl first) (λ again. inr (further again)) ((are home).0 was))
          (λ (same, (n, says, said)). inr (number, omega arith, at, item at, same, n, says, said)) ((put home).0 is),
      λ which. (put home).1 (⊎_elim (λ first. inl ((are home).1 (inl first))) last which),
    )
      where
        further : AgainBelow number home → AgainBelow (number + 1) home
        further (k, below, one, is, same, n, says, said) = (k, omega (arith, below), one, is, same, n, says, said)

        last : AgainBelow (number + 1) home → now home ⊎ ((home_of at ≡ home) × ((n : ℕ) × SaysAt pages what at n × SaidBelow number n))
        last (k, below, one, is, same, n, says, said) =
            ⊎_elim (λ low. inl ((are home).1 (inr (k, low, one, is, same, n, says, said))))
            (λ high.
            let here : k ≡ number = omega (arith, below, high) in
            let alike : one ≡ at = sym (subst (λ m. get_or cells m one ≡ one) here is) ∙ item one in
            inr (ap home_of (sym alike) ∙ same, (n, subst (λ (a : CellAt). SaysAt pages what a n) alike says, subst (λ m. SaidBelow m n) here said)))
            (cases_lt k number)

  -- in the end those are found of the whole list
  pub again_all : (old now : Home → Type 0) (number : ℕ) → AreAgain old now number → length cells ≤ number → number ≤ length cells → (home : Home) → now home ↔ (old home ⊎ SaysAgain pages what cells home)
  again_all old now number are whole end home = (
    λ is. ⊎_elim (λ first. inl first) (λ again. inr (to again)) ((are home).0 is),
    λ which. (are home).1 (⊎_elim (λ first. inl first) (λ again. inr (from again)) which),
  )
    where
      to : AgainBelow number home → SaysAgain pages what cells home
      to (k, below, at, is, same, n, says, (before, (j, less, there), said)) =
          let listed = listed_at cells k at (omega (arith, below, end)) is in
          (listed.0, at, listed.1, same, before, listed.2 before j less there, (n, said, says))

      from : SaysAgain pages what cells home → AgainBelow number home
      from (passed, at, (rest, whole_is), same, before, among, (n, said, says)) =
          let front = in_front (at ∷ rest) passed before among in
          let is = subst (λ l. get_or l (length passed) at ≡ at) (sym whole_is) (place_of rest passed at) in
          let there = subst (λ l. get_or l front.0 before ≡ before) (sym whole_is) front.2 in
          (length passed, omega (arith, whole, ap length whole_is, length-append passed (at ∷ rest)), at, is, same, n, says, (before, (front.0, front.1, there), said))
