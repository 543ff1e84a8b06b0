-- The rules of directories that are found to be broken, slot after slot.
use Rattle.std.proofs.Common.{◌≡◌, ◌⊎◌, ◌↔◌, inl, inr, ℕ, ◌+◌, ◌<◌, ◌≤◌, length, subst, arith, ⊎_elim}
use Rattle.std.proofs.lemmas.Bool.{cases_lt}
use Rattle.std.proofs.lemmas.Option.{slice_get_within}
use Rattle.slot_files.specs.domain_base.declared.place.Home.{Home}
use Rattle.slot_files.specs.page_store.Pages.{Pages}
use Rattle.slot_files.specs.fileset_table.Table.{IsTable, Table}
use Rattle.slot_files.specs.domain_layout.DirectoryRules.{IsDirectoryFault}
use Rattle.slot_files.specs.domain_layout.Reached.{Frame}
use Rattle.slot_files.specs.directory_faults.Slot.{HasDirectoryFault}
use Rattle.slot_files.proofs.OfDirectoryFaults.SlotFaults.{by_slot}

-- ---- slot after slot

module _ (pages : Pages) (frame : Frame) (table : Table) where
  -- a slot in front of a number breaks a rule
  abbrev pub IsFoundBelow : ℕ → Home → Type 0
  IsFoundBelow count home = (number : ℕ) × (number < count) × HasDirectoryFault pages frame table number home

  abbrev pub AreBelow : (Home → Type 0) → ℕ → Type 0
  AreBelow found count = (home : Home) → found home ↔ IsFoundBelow count home

  pub below_none : (found : Home → Type 0) → ((home : Home) → ¬ found home) → AreBelow found 0
  below_none found none home = ((λ is. absurd (none home is)), (λ (number, below, is). absurd (omega (arith, below))))

  pub below_more : (old new : Home → Type 0) (count : ℕ) → AreBelow old count → ((home : Home) → new home ↔ (old home ⊎ HasDirectoryFault pages frame table count home)) → AreBelow new (count + 1)
  below_more old new count are put home = (
    (λ is. ⊎_elim (λ before. let b = (are home).0 before in (b.0, omega (arith, b.1), b.2)) (λ here. (count, omega arith, here)) ((put home).0 is)),
    (λ (number, below, is).
        ⊎_elim (λ low. (put home).1 (inl ((are home).1 (number, low, is))))
        (λ high. let same : number ≡ count = omega (arith, below, high) in (put home).1 (inr (subst (λ n. HasDirectoryFault pages frame table n home) same is)))
        (cases_lt number count)),
  )

  -- a fileset that breaks one stands in a slot
  within : (number : ℕ) (home : Home) → HasDirectoryFault pages frame table number home → number < length table.slots
  within number home (inl (inl wrong)) = let has = wrong.3.has in slice_get_within table.slots number has.item has.there
  within number home (inl (inr (inl twice))) = let has = twice.is_late.is.has in slice_get_within table.slots number has.item has.there
  within number home (inl (inr (inr (inl wrong)))) = let has = wrong.is.is.has in slice_get_within table.slots number has.item has.there
  within number home (inl (inr (inr (inr lost)))) = let has = lost.is.is.has in slice_get_within table.slots number has.item has.there
  within number home (inr wrong) = let has = wrong.has in slice_get_within table.slots number has.item has.there

  pub all_below : IsTable table → (found : Home → Type 0) (count : ℕ) → 32 ≤ count → AreBelow found count → (home : Home) → found home ↔ IsDirectoryFault pages frame table home
  all_below good found count whole are home =
      let law = by_slot pages frame table home in (
        (λ is. let b = (are home).0 is in law.1 (b.0, b.2)),
        (λ fault. let is = law.0 fault in (are home).1 (is.0, omega (arith, within is.0 home is.1, good.whole, whole), is.1)),
      )
