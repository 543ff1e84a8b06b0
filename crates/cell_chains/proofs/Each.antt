-- What is found at cells that are looked at one by one.
use Rattle.std.proofs.Common.{◌≡◌, ◌∙◌, ◌⊎◌, ◌↔◌, inl, inr, ℕ, ◌+◌, ◌<◌, ◌≤◌, List, get_or, length, Some, sym, ap, subst, arith, ⊎_elim}
use Rattle.std.proofs.lemmas.Bool.{cases_lt}
use Rattle.metadata_cells.specs.domain_base.declared.place.CellAt.{CellAt}
use Rattle.metadata_cells.specs.Chain.{key_of}
use Rattle.metadata_cells.specs.sorted_sets.Rising.{IsRising, value_at}
use Rattle.metadata_cells.proofs.OfSortedSets.Search.{value-present}
use Rattle.metadata_cells.proofs.OfSortedSets.Placed.{placed}
use Rattle.cell_chains.specs.Links.{HasLink, cells_of}
use Rattle.cell_chains.specs.Order.{AreNumbered}
use Rattle.cell_chains.specs.declared.links.CellLink.{CellLink}
use Rattle.cell_chains.specs.declared.links.CellLinks.{CellLinks}
use Rattle.metadata_cells.proofs.OfSortedSets.Items.{item_of}

-- a cell with what is read of it, under its number
abbrev pub Entry : Type 0
Entry = ℕ × (CellAt × CellLink)

module _ (entries : List Entry) where
  -- an entry at a place below a number is such
  abbrev pub SomeBelow : (CellAt → CellLink → Type 0) → ℕ → Type 0
  SomeBelow Is number = (e : Entry) × ((k : ℕ) × (k < number) × (get_or entries k e ≡ e)) × Is e.1.0 e.1.1

  -- those are found that some entry below a number has
  abbrev pub AreFound : {X : Type 0} → (X → CellAt → CellLink → Type 0) → (X → Type 0) → ℕ → Type 0
  AreFound {X} Has found number = (x : X) → found x ↔ SomeBelow (Has x) number

  pub none_found : {X : Type 0} (Has : X → CellAt → CellLink → Type 0) (found : X → Type 0) → ((x : X) → ¬ found x) → AreFound Has found 0
  none_found Has found none x = ((λ is. absurd (none x is)), (λ (e, (k, below, is), has). absurd (omega (arith, below))))

  pub one_more : {X : Type 0} (Has : X → CellAt → CellLink → Type 0) (found new : X → Type 0) (number : ℕ) (entry : Entry) → AreFound Has found number
      → ((d : Entry) → get_or entries number d ≡ entry) → ((x : X) → new x ↔ (found x ⊎ Has x entry.1.0 entry.1.1)) → AreFound Has new (number + 1)
  one_more {X} Has found new number entry are at put x = (
    λ is. ⊎_elim (λ before. further ((are x).0 before)) (λ has. (entry, (number, omega arith, at entry), has)) ((put x).0 is),
    λ below. (put x).1 (last below),
  )
    where
      further : SomeBelow (Has x) number → SomeBelow (Has x) (number + 1)
      further (e, (k, below, is), has) = (e, (k, omega (arith, below), is), has)

      last : SomeBelow (Has x) (number + 1) → found x ⊎ Has x entry.1.0 entry.1.1
      last (e, (k, below, is), has) =
          ⊎_elim (λ low. inl ((are x).1 (e, (k, low, is), has)))
          (λ high.
          let here : k ≡ number = omega (arith, below, high) in
          let alike : e ≡ entry = sym (subst (λ n. get_or entries n e ≡ e) here is) ∙ at e in
          inr (subst (λ (a : Entry). Has x a.1.0 a.1.1) alike has))
          (cases_lt k number)

  pub none_below : (Is : CellAt → CellLink → Type 0) → ¬ SomeBelow Is 0
  none_below Is (e, (k, below, is), has) = omega (arith, below)

  -- below the next number there are those below one, and the entry there
  pub below_more : (Is : CellAt → CellLink → Type 0) (number : ℕ) (entry : Entry) → ((d : Entry) → get_or entries number d ≡ entry)
      → (SomeBelow Is number ⊎ Is entry.1.0 entry.1.1) ↔ SomeBelow Is (number + 1)
  below_more Is number entry at =
      one_more {X = Unit {0}} (λ _. Is) (λ _. SomeBelow Is number) (λ _. SomeBelow Is number ⊎ Is entry.1.0 entry.1.1) number entry (λ _. (λ is. is, λ is. is)) at (λ _. (λ is. is, λ is. is)) tt

-- the cells are lent as a list, and looked at in its order
module _ {X : Type 0} (links : CellLinks) (lent : List Entry) (same : lent ≡ cells_of links) (Has : X → CellAt → CellLink → Type 0) (found : X → Type 0) (number : ℕ)
    (are : AreFound (cells_of links) Has found number) where
  pub found_more : (new : X → Type 0) (entry : Entry) → number < length lent → entry ≡ get_or lent number entry → ((x : X) → new x ↔ (found x ⊎ Has x entry.1.0 entry.1.1))
      → AreFound (cells_of links) Has new (number + 1)
  found_more new entry within is put = one_more (cells_of links) Has found new number entry are (item_of (cells_of links) lent number entry same within is) put

  module _ (rising : IsRising lent) (numbered : AreNumbered lent) (whole : length lent ≤ number) (end : number ≤ length lent) where
    has_link : (entry : Entry) (k : ℕ) → k < number → get_or (cells_of links) k entry ≡ entry → HasLink links entry.1.0 entry.1.1
    has_link entry k below at =
        let there : value_at lent entry.0 ≡ Some entry.1 =
        let lent_at = subst (λ (l : List Entry). get_or l k entry ≡ entry) (sym same) at in
        value-present lent rising entry.0 k entry (omega (arith, below, end)) (ap (λ (a : Entry). a.0) lent_at) ∙ ap (λ (a : Entry). Some a.1) lent_at in
        subst (λ (l : List Entry). value_at l (key_of entry.1.0) ≡ Some entry.1) same
        (subst (λ n. value_at lent n ≡ Some entry.1) (numbered entry.0 entry.1.0 entry.1.1 there).0 there)

    -- in the end those are found that some cell in use has
    pub all_found : (x : X) → found x ↔ ((at : CellAt) × (link : CellLink) × HasLink links at link × Has x at link)
    all_found x = (
      λ is. let one = (are x).0 is in (one.0.1.0, one.0.1.1, has_link one.0 one.1.0 one.1.1 one.1.2, one.2),
      λ (at, link, has, is).
          let there = placed (cells_of links) (key_of at) (at, link) has in
          let within : there.0 < number = omega (arith, subst (λ (l : List Entry). there.0 < length l) (sym same) there.1, whole) in
          (are x).1 ((key_of at, (at, link)), (there.0, within, there.2), is),
    )
