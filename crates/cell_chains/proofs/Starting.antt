-- First cells of chains are added to the sets of the cells of their chains.
use Rattle.std.proofs.Common.{◌≡◌, ◌∙◌, ◌⊎◌, ◌↔◌, inl, inr, ℕ, ◌+◌, ◌<◌, ◌≤◌, ◌==◌, true, false, List, get_or, length, Some, None, if◌then◌else◌, eqb-true, refl, sym, ap, subst, arith, ⊎_elim}
use Rattle.std.proofs.lemmas.Bool.{cases_lt}
use Rattle.metadata_cells.specs.domain_base.declared.place.CellAt.{CellAt}
use Rattle.metadata_cells.specs.Chain.{key_of}
use Rattle.cell_chains.specs.Chains.{Follows, ListsChain}
use Rattle.cell_chains.specs.Links.{HasLink, cells_of}
use Rattle.cell_chains.specs.declared.links.CellLink.{CellLink}
use Rattle.cell_chains.specs.declared.links.CellLinks.{CellLinks}
use Rattle.cell_chains.specs.declared.set.CellSet.{CellSet}
use Rattle.cell_chains.proofs.Walked.{listed_is_on}
use Rattle.cell_chains.proofs.Whole.{has_link}
use Rattle.cell_chains.specs.Heads.{IsChained, IsHead}
use Rattle.cell_chains.specs.Starts.{AddsChain, AddsOne, AddsStart, HasKey, Joins, Stays, Tells, joined, starts_of, told_in}
use Rattle.cell_chains.specs.declared.map.StartMap.{StartMap}
use Rattle.cell_chains.specs.declared.starts.Starts.TheVariants.{One}
use Rattle.cell_chains.proofs.Cells.{apart_of, one_key}
use Rattle.cell_chains.proofs.Each.{Entry, SomeBelow, below_more, none_below}
use Rattle.cell_chains.proofs.Told.{joined_again, tells_joined, tells_same}

-- ---- the cells of one chain

-- a cell at a place below another one stands under a number
abbrev pub HasKeyBelow : List CellAt → ℕ → ℕ → Type 0
HasKeyBelow cells number key = (at : CellAt) × ((k : ℕ) × (k < number) × (get_or cells k at ≡ at)) × (key_of at ≡ key)

-- the first cell was added to the sets of such cells
abbrev pub AddsBelow : List CellAt → CellAt → StartMap → StartMap → ℕ → Type 0
AddsBelow cells start old new number =
    (key : ℕ) → (HasKeyBelow cells number key × AddsOne start old new key) ⊎ ((¬ HasKeyBelow cells number key) × Stays old new key)

pub adds_none : (cells : List CellAt) (start : CellAt) (map : StartMap) → AddsBelow cells start map map 0
adds_none cells start map key = inr ((λ (at, (k, below, is), same). omega (arith, below)), refl)

module _ (cells : List CellAt) (start : CellAt) (old now new : StartMap) (number : ℕ) (at : CellAt) (are : AddsBelow cells start old now number)
    (item : (d : CellAt) → get_or cells number d ≡ at) (joins : Joins now new (key_of at) (One start)) where
  further : (key : ℕ) → HasKeyBelow cells number key → HasKeyBelow cells (number + 1) key
  further key (one, (k, below, is), same) = (one, (k, omega (arith, below), is), same)

  last : (key : ℕ) → HasKeyBelow cells (number + 1) key → HasKeyBelow cells number key ⊎ (key_of at ≡ key)
  last key (one, (k, below, is), same) =
      ⊎_elim (λ low. inl (one, (k, low, is), same))
      (λ high.
      let here : k ≡ number = omega (arith, below, high) in
      let alike : one ≡ at = sym (subst (λ n. get_or cells n one ≡ one) here is) ∙ item one in
      inr (ap key_of (sym alike) ∙ same))
      (cases_lt k number)

  here_added : (key : ℕ) → key_of at ≡ key → told_in new key ≡ Some (joined (told_in now key) (One start)) → AddsOne start old new key
  here_added key same put =
      ⊎_elim (λ was. put ∙ ap (λ o. Some (joined o (One start))) was.1 ∙ ap (λ s. Some s) (joined_again (told_in old key) start))
      (λ not. put ∙ ap (λ o. Some (joined o (One start))) not.1) (are key)

  pub adds_more : AddsBelow cells start old new (number + 1)
  adds_more key = elim (key_of at == key) as (λ b. (key_of at == key) ≡ b → told_in new key ≡ (if b then Some (joined (told_in now (key_of at)) (One start)) else told_in now key)
      → (HasKeyBelow cells (number + 1) key × AddsOne start old new key) ⊎ ((¬ HasKeyBelow cells (number + 1) key) × Stays old new key)) [
        | true ↦ λ test put.
            let same = eqb-true (key_of at) key test in
            inl ((at, (number, omega arith, item at), same), here_added key same (put ∙ ap (λ n. Some (joined (told_in now n) (One start))) same))
        | false ↦ λ test put.
            ⊎_elim (λ was. inl (further key was.0, put ∙ was.1))
            (λ not. inr ((λ has. ⊎_elim (λ before. not.0 before) (λ same. apart_of (key_of at) key test same) (last key has)), put ∙ not.1)) (are key)
      ] refl (joins key)

pub adds_chain : (cells : List CellAt) (start : CellAt) (old new : StartMap) (number : ℕ) → length cells ≤ number → number ≤ length cells → AddsBelow cells start old new number → AddsChain cells start old new
adds_chain cells start old new number whole end are key =
    ⊎_elim (λ was. inl ((was.0.0, (was.0.1.0, omega (arith, was.0.1.1, end), was.0.1.2), was.0.2), was.1))
    (λ not. inr ((λ (at, (k, within, is), same). not.0 (at, (k, omega (arith, within, whole), is), same)), not.1)) (are key)

-- ---- a chain of cells in use

module _ (links : CellLinks) (led : CellSet) (start : CellAt) (first : CellLink) (old new : StartMap) where
  pub adds_start : (cells : List CellAt) → IsHead led start first → ListsChain links start cells → AddsChain cells start old new → AddsStart links led start first old new
  adds_start cells head lists adds at link has =
      ⊎_elim
      (λ was. inl ((head, subst (λ a. (passed : List CellAt) × (l : CellLink) × Follows links start passed a l) (same_at was.0) (on was.0)), was.1))
      (λ not. inr ((λ chained. not.0 (at, (listed_is_on links start cells lists at).1 chained.1, refl)), not.1)) (adds (key_of at))
    where
      on : (key : HasKey cells (key_of at)) → (passed : List CellAt) × (l : CellLink) × Follows links start passed key.0 l
      on key = (listed_is_on links start cells lists key.0).0 key.1

      same_at : (key : HasKey cells (key_of at)) → key.0 ≡ at
      same_at key =
          let there = on key in
          one_key links key.0 at there.1 link (has_link links start there.0 key.0 there.1 there.2) has key.2

  pub adds_nothing : ¬ IsHead led start first → AddsStart links led start first old old
  adds_nothing none at link has = inr ((λ chained. none chained.0), refl)

-- ---- all chains

module _ (links : CellLinks) (led : CellSet) where
  -- a cell is the first one of a chain to which another cell belongs
  abbrev pub Begins : CellAt → CellAt → CellAt → CellLink → Type 0
  Begins at start first link = (first ≡ start) × IsChained links led first link at

  abbrev pub BeginsBelow : ℕ → CellAt → CellAt → Type 0
  BeginsBelow number at start = SomeBelow (cells_of links) (Begins at start) number

  -- of the chains of the first cells at places below a number the sets are told
  abbrev pub AreStarts : StartMap → ℕ → Type 0
  AreStarts map number = (at : CellAt) (link : CellLink) → HasLink links at link → Tells (starts_of map at) (BeginsBelow number at)

  pub no_starts : (map : StartMap) → ((key : ℕ) → told_in map key ≡ None) → AreStarts map 0
  no_starts map none at link has = subst (λ o. Tells o (BeginsBelow 0 at)) (sym (none (key_of at))) (λ start. none_below (cells_of links) (Begins at start))

  pub starts_more : (now new : StartMap) (number : ℕ) (entry : Entry) → ((d : Entry) → get_or (cells_of links) number d ≡ entry) → AreStarts now number
      → AddsStart links led entry.1.0 entry.1.1 now new → AreStarts new (number + 1)
  starts_more now new number entry item are adds at link has =
      ⊎_elim
      (λ was. subst (λ o. Tells o (BeginsBelow (number + 1) at)) (sym was.1)
      (tells_same (λ start. BeginsBelow number at start ⊎ (start ≡ entry.1.0)) (BeginsBelow (number + 1) at)
      (λ start. (
        λ which. (more at start).0 (⊎_elim (λ before. inl before) (λ same. inr (sym same, was.0)) which),
        λ after. ⊎_elim (λ before. inl before) (λ here. inr (sym here.0)) ((more at start).1 after),
      ))
      (Some (joined (starts_of now at) (One entry.1.0)))
      (tells_joined (BeginsBelow number at) (λ start. start ≡ entry.1.0) (starts_of now at) (One entry.1.0) (are at link has) (λ start. (λ is. is, λ is. is)))))
      (λ not. subst (λ o. Tells o (BeginsBelow (number + 1) at)) (sym not.1)
      (tells_same (BeginsBelow number at) (BeginsBelow (number + 1) at)
      (λ start. (λ before. (more at start).0 (inl before), λ after. ⊎_elim (λ before. before) (λ here. absurd (not.0 here.1)) ((more at start).1 after)))
      (starts_of now at) (are at link has)))
      (adds at link has)
    where
      more : (at start : CellAt) → (SomeBelow (cells_of links) (Begins at start) number ⊎ Begins at start entry.1.0 entry.1.1) ↔ SomeBelow (cells_of links) (Begins at start) (number + 1)
      more at start = below_more (cells_of links) (Begins at start) number entry item
