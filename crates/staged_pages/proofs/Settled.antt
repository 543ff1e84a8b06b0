-- What it does to slots when the change of one is kept or taken back.
use Rattle.std.proofs.Common.{◌≡◌, ◌==◌, ◌^◌, ◌||◌, ◌&&◌, ◌≤◌, ℕ, nat_lt, ⊎_elim, Bool, true, false, List, [], ◌∷◌, ◌++◌, length, get_or, set, Option, Some, None, refl, sym, ap, subst, ◌∙◌, arith, if◌then◌else◌, eqb-true}
use Rattle.std.specs.Option.{ForSome, option_and_then}
use Rattle.std.proofs.lemmas.Option.{same_Some}
use Rattle.std.proofs.lemmas.List.{length-append, length-set}
use Rattle.std.proofs.lemmas.Bool.{cases_Bool}
use mathlib.Core.Bool.{false≢true}
use Rattle.page_store.specs.domain_base.declared.place.Home.{Home}
use Rattle.page_store.specs.sorted_sets.Homes.{number_of}
use Rattle.std.proofs.lemmas.Bool.Decides.{nat_tests}
use Rattle.page_store.specs.sorted_sets.Rising.{IsPlaceOf, IsRising, Sets, value_at}
use Rattle.page_store.proofs.OfSortedSets.Search.{sets_at_place, value_at_place}
use Rattle.staged_pages.specs.declared.slot.Slot.{Slot}
use Rattle.staged_pages.specs.Slots.{AreWhole, is_same, page_before, page_now}
use Rattle.staged_pages.specs.Staged.{AreSlots, SettlesSlot, have_pages, is_listed, pages_in}
use Rattle.staged_pages.proofs.Listed.{same_slot}
use Rattle.staged_pages.proofs.Edits.{counts, count_set, for_sets}

self : (key : ℕ) → (key == key) ≡ true
self key = grind (arith, nat_tests)

-- a slot counts for one at most
counts_most : (slot : Slot) → counts slot ≤ 1
counts_most slot = elim (is_same slot) as (λ b. (if b then 1 else 0) ≤ 1) [
  | true ↦ omega arith
  | false ↦ omega arith
]

-- a number that has no slot is settled
pub settles_none : (which : Slot → Option (List ℕ)) (entries : List (ℕ × Slot)) (key : ℕ) → value_at entries key ≡ None → SettlesSlot which key entries entries
settles_none which entries key none = record {
  others = λ q other. refl;
  same = subst (λ o. ForSome o (λ slot. is_same slot ≡ true)) (sym none) (λ x is. absurd (none_some x is));
  page = refl;
  count = omega arith;
}
  where
    none_some : (x : Slot) → None ≡ Some x → ⊥
    none_some x is = grind arith

-- the entry at a place that was found
module _ (which : Slot → Option (List ℕ)) (entries : List (ℕ × Slot)) (rising : IsRising entries) (key : ℕ) (list : List (ℕ × Slot)) (same : list ≡ entries) (at : ℕ) (found : IsPlaceOf list key at) (entry : ℕ × Slot) (value : entry ≡ get_or entries at entry) where
  place : IsPlaceOf entries key at
  place = subst (λ l. IsPlaceOf l key at) same found

  pub slot_there : value_at entries key ≡ Some entry.1
  slot_there = value_at_place _ _ _ place rising entry ∙ ap (λ (e : ℕ × Slot). Some e.1) (sym value)

  sets_it : (slot : Slot) → Sets entries (set entries at (entry.0, slot)) key slot
  sets_it slot = subst (λ k. Sets entries (set entries at (k, slot)) key slot) (sym (ap (λ (e : ℕ × Slot). e.0) value ∙ place.has_key entry)) (sets_at_place _ _ _ place rising slot entry)

  pub whole_with : (slot : Slot) → (AreWhole entry.1 → AreWhole slot) → ((q : ℕ) → ForSome (value_at entries q) AreWhole) → (q : ℕ) → ForSome (value_at (set entries at (entry.0, slot)) q) AreWhole
  whole_with slot kept whole = for_sets (λ q. AreWhole) entries _ key slot (sets_it slot) (kept (whole key entry.1 slot_there)) whole

  pub settles_in_place : (slot : Slot) → is_same slot ≡ true → which slot ≡ which entry.1 → SettlesSlot which key entries (set entries at (entry.0, slot))
  settles_in_place slot unchanged page = record {
    others = λ q other. sets_it slot q ∙ ap (λ b. if b then Some slot else value_at entries q) other;
    same = subst (λ o. ForSome o (λ s. is_same s ≡ true)) (sym here) (λ x is. subst (λ (s : Slot). is_same s ≡ true) (same_Some slot x is) unchanged);
    page = ap (option_and_then which) here ∙ page ∙ sym (ap (option_and_then which) slot_there);
    count = omega (arith, count_set entries at entry.0 slot entry place.within, counts_most slot, length-set entries at (entry.0, slot));
  }
    where
      here : value_at (set entries at (entry.0, slot)) key ≡ Some slot
      here = sets_it slot key ∙ ap (λ b. if b then Some slot else value_at entries key) (self key)

-- the last home of a list is none of the others' numbers where it is another
listed_before : (changed : List Home) (home : Home) (q : ℕ) → (number_of home == q) ≡ false → is_listed (changed ++ home ∷ []) q ≡ true → is_listed changed q ≡ true
listed_before [] home q other is = absurd (grind (arith, nat_tests))
listed_before (x ∷ xs) home q other is =
    ⊎_elim (λ t. ap (λ b. b || is_listed xs q) t)
    (λ t. ap (λ b. b || is_listed xs q) t ∙ listed_before xs home q other (sym (ap (λ b. b || is_listed (xs ++ home ∷ []) q) t) ∙ is))
    (cases_Bool (number_of x == q))

homes_before : (changed : List Home) (home : Home) → have_pages (changed ++ home ∷ []) ≡ true → have_pages changed ≡ true
homes_before [] home are = refl
homes_before (x ∷ xs) home are =
    ⊎_elim (λ t. ap (λ b. b && have_pages xs) t ∙ homes_before xs home (sym (ap (λ b. b && have_pages (xs ++ home ∷ [])) t) ∙ are))
    (λ t. absurd (false≢true (sym (ap (λ b. b && have_pages (xs ++ home ∷ [])) t) ∙ are)))
    (cases_Bool (nat_lt x.page (2 ^ 32)))

-- slots with the last home of the list settled: it is on the list no more
pub slots_settled : (which : Slot → Option (List ℕ)) (old new : List (ℕ × Slot)) (listed changed : List Home) (home : Home) → AreSlots old listed → listed ≡ changed ++ home ∷ [] → SettlesSlot which (number_of home) old new → IsRising new → ((q : ℕ) → ForSome (value_at new q) AreWhole) → AreSlots new changed
slots_settled which old new listed changed home kept is settles rising whole = record {
  rising = rising;
  whole = whole;
  listed = λ q. by_test q (number_of home == q) refl;
  homes = homes_before changed home (subst (λ l. have_pages l ≡ true) is kept.homes);
  once = omega (arith, settles.count, kept.once, ap (λ (l : List Home). length l) is, length-append changed (home ∷ []));
}
  where
    by_test : (q : ℕ) (b : Bool) → (number_of home == q) ≡ b → ForSome (value_at new q) (λ slot. is_same slot ≡ false → is_listed changed q ≡ true)
    by_test q true t = λ slot there changes. absurd (false≢true (sym changes ∙ settles.same slot (ap (value_at new) (eqb-true _ q t) ∙ there)))
    by_test q false t = λ slot there changes. listed_before changed home q t (subst (λ l. is_listed l q ≡ true) is (kept.listed q slot (sym (settles.others q t) ∙ there) changes))

-- so each page is as it was before
pub pages_settled : (which : Slot → Option (List ℕ)) (old new : List (ℕ × Slot)) (key : ℕ) → SettlesSlot which key old new → (q : ℕ) → option_and_then which (value_at new q) ≡ option_and_then which (value_at old q)
pages_settled which old new key settles q = by_test (key == q) refl
  where
    by_test : (b : Bool) → (key == q) ≡ b → option_and_then which (value_at new q) ≡ option_and_then which (value_at old q)
    by_test true t = subst (λ k. option_and_then which (value_at new k) ≡ option_and_then which (value_at old k)) (eqb-true key q t) settles.page
    by_test false t = ap (option_and_then which) (settles.others q t)

-- where no home is listed, no slot has changed
pub none_changed : (entries : List (ℕ × Slot)) (changed : List Home) → AreSlots entries changed → changed ≡ [] → (q : ℕ) → ForSome (value_at entries q) (λ slot. is_same slot ≡ true)
none_changed entries changed kept none q slot there =
    ⊎_elim (λ same. same) (λ changes. absurd (false≢true (subst (λ l. is_listed l q ≡ true) none (kept.listed q slot there changes)))) (cases_Bool (is_same slot))

-- once no slot has changed, the pages are the same before and now
pub same_settled : (entries : List (ℕ × Slot)) → ((q : ℕ) → ForSome (value_at entries q) (λ slot. is_same slot ≡ true)) → (q : ℕ) → option_and_then page_now (value_at entries q) ≡ option_and_then page_before (value_at entries q)
same_settled entries same q = by_slot (value_at entries q) (same q)
  where
    by_slot : (o : Option Slot) → ForSome o (λ slot. is_same slot ≡ true) → option_and_then page_now o ≡ option_and_then page_before o
    by_slot None unchanged = refl
    by_slot (Some slot) unchanged = same_slot slot (unchanged slot refl)

module _ (which other : Slot → Option (List ℕ)) (old new : List (ℕ × Slot)) (agree : (q : ℕ) → option_and_then other (value_at new q) ≡ option_and_then which (value_at old q)) where
  -- slots that have one page at each number have one at each home
  pub same_pages : pages_in other new ≡ pages_in which old
  same_pages = λ i home. at_home home i
    where
      at_home : (home : Home) → pages_in other new home ≡ pages_in which old home
      at_home home = by_width (nat_lt home.page (2 ^ 32))
        where
          by_width : (b : Bool) → option_and_then other (if b then value_at new (number_of home) else None) ≡ option_and_then which (if b then value_at old (number_of home) else None)
          by_width true = agree (number_of home)
          by_width false = refl
