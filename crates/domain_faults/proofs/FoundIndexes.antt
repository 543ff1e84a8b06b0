-- The rules of indexes that are found to be broken, slot after slot.
use Rattle.std.proofs.Common.{◌≡◌, ◌⊎◌, ◌↔◌, inl, inr, ℕ, ◌+◌, ◌<◌, ◌≤◌, length, subst, arith, ⊎_elim}
use Rattle.std.proofs.lemmas.Bool.{cases_lt}
use Rattle.std.proofs.lemmas.Option.{slice_get_within}
use Rattle.slot_files.specs.domain_base.declared.place.Home.{Home}
use Rattle.slot_files.specs.page_store.Pages.{Pages}
use Rattle.slot_files.specs.fileset_table.Table.{IsTable, Table}
use Rattle.slot_files.specs.domain_layout.DirectoryRules.{IsIndexFault, IsWrongIndexPage}
use Rattle.slot_files.specs.domain_layout.Reached.{Frame}
use Rattle.slot_files.specs.index_row_faults.Wrong.{HasWrongIndex}
use Rattle.slot_files.proofs.OfIndexRowFaults.IndexSlots.{by_slot}

module _ (pages : Pages) (frame : Frame) (table : Table) where
  -- what is asked of every index is broken, or an index of a slot in front of a number is wrong
  abbrev pub IsWrongBelow : ℕ → Home → Type 0
  IsWrongBelow count home = IsWrongIndexPage pages frame home ⊎ ((number : ℕ) × (number < count) × HasWrongIndex pages frame table number home)

  abbrev pub AreWrongBelow : (Home → Type 0) → ℕ → Type 0
  AreWrongBelow found count = (home : Home) → found home ↔ IsWrongBelow count home

  pub wrong_none : (found : Home → Type 0) → ((home : Home) → found home ↔ IsWrongIndexPage pages frame home) → AreWrongBelow found 0
  wrong_none found page home = (
    λ is. inl ((page home).0 is),
    λ which. ⊎_elim (λ is. (page home).1 is) (λ (number, below, is). absurd (omega (arith, below))) which,
  )

  pub wrong_more : (old new : Home → Type 0) (count : ℕ) → AreWrongBelow old count → ((home : Home) → new home ↔ (old home ⊎ HasWrongIndex pages frame table count home)) → AreWrongBelow new (count + 1)
  wrong_more old new count are put home = (
    λ is. ⊎_elim (λ before. ⊎_elim (λ page. inl page) (λ (number, below, wrong). inr (number, omega (arith, below), wrong)) ((are home).0 before)) (λ here. inr (count, omega arith, here)) ((put home).0 is),
    λ which. ⊎_elim (λ page. (put home).1 (inl ((are home).1 (inl page))))
        (λ (number, below, wrong).
        ⊎_elim (λ low. (put home).1 (inl ((are home).1 (inr (number, low, wrong)))))
        (λ high. let same : number ≡ count = omega (arith, below, high) in (put home).1 (inr (subst (λ n. HasWrongIndex pages frame table n home) same wrong)))
        (cases_lt number count)) which,
  )

  -- a fileset that has one stands in a slot
  within : (number : ℕ) (home : Home) → HasWrongIndex pages frame table number home → number < length table.slots
  within number home wrong = let has = wrong.has.has in slice_get_within table.slots number has.item has.there

  pub all_wrong_below : IsTable table → (found : Home → Type 0) (count : ℕ) → 32 ≤ count → AreWrongBelow found count → (home : Home) → found home ↔ IsIndexFault pages frame table home
  all_wrong_below good found count whole are home =
      let law = by_slot pages frame table home in (
        λ is. ⊎_elim (λ page. inl page) (λ (number, below, wrong). inr (law.1 (number, wrong))) ((are home).0 is),
        λ fault. ⊎_elim (λ page. (are home).1 (inl page))
            (λ some. let is = law.0 some in (are home).1 (inr (is.0, omega (arith, within is.0 home is.1, good.whole, whole), is.1))) fault,
      )
