-- What an edit of the slot at a place does to slots and to the list of those that have changed.
use Rattle.std.proofs.Common.{◌≡◌, ◌==◌, ◌+◌, ◌^◌, ◌<◌, ◌≤◌, ◌||◌, ◌&&◌, ℕ, zero, suc, Bool, true, false, nat_lt, List, [], ◌∷◌, ◌++◌, length, get_or, set, Option, Some, None, IsSomeAnd, refl, sym, ap, subst, ◌∙◌, arith, if◌then◌else◌, eqb-true}
use Rattle.std.specs.Option.{ForSome, option_and_then}
use Rattle.std.specs.List.{insert}
use Rattle.std.proofs.lemmas.List.Edits.{length-insert}
use Rattle.std.proofs.lemmas.Option.{same_Some}
use Rattle.std.proofs.lemmas.List.{length-append, length-set}
use Rattle.std.proofs.lemmas.List.Folds.{list_all-append, list_any-append}
use Rattle.std.proofs.lemmas.Bool.Decides.{nat_tests}
use mathlib.Core.Bool.{false≢true}
use Rattle.page_store.specs.domain_base.declared.place.Home.{Home}
use Rattle.page_store.specs.sorted_sets.Homes.{number_of}
use Rattle.page_store.specs.sorted_sets.Rising.{IsGapFor, IsPlaceOf, IsRising, Sets, value_at}
use Rattle.page_store.proofs.OfSortedSets.Search.{rising_at_place, rising_with, sets_at_place, sets_in_gap, value_at_place, value_in_gap}
use Rattle.staged_pages.specs.declared.slot.Slot.{Slot}
use Rattle.staged_pages.specs.Slots.{AreWhole, is_same, page_before, page_now}
use Rattle.staged_pages.specs.Staged.{AreSlots, EditsSlot, count_same, have_pages, is_listed}

-- how many count for one slot
abbrev pub counts : Slot → ℕ
counts slot = if is_same slot then 1 else 0

pub counted : (x : ℕ × Slot) (xs : List (ℕ × Slot)) → count_same (x ∷ xs) ≡ counts x.1 + count_same xs
counted x xs = elim (is_same x.1) as (λ b. (if b then 1 + count_same xs else count_same xs) ≡ (if b then 1 else 0) + count_same xs) [
  | true ↦ refl
  | false ↦ omega arith
]

pub count_set : (entries : List (ℕ × Slot)) (at key : ℕ) (slot : Slot) (d : ℕ × Slot) → at < length entries → count_same (set entries at (key, slot)) + counts (get_or entries at d).1 ≡ count_same entries + counts slot
count_set [] at key slot d within = absurd (omega (arith, within))
count_set (x ∷ xs) zero key slot d within =
    let new = counted (key, slot) xs in
    let old = counted x xs in
    omega (arith, new, old)
count_set (x ∷ xs) (suc at) key slot d within =
    let new = counted x (set xs at (key, slot)) in
    let old = counted x xs in
    let rest = count_set xs at key slot d (omega (arith, within)) in
    omega (arith, new, old, rest)

count_some : (entries : List (ℕ × Slot)) (at : ℕ) (d : ℕ × Slot) → at < length entries → is_same (get_or entries at d).1 ≡ true → 1 ≤ count_same entries
count_some [] at d within unchanged = absurd (omega (arith, within))
count_some (x ∷ xs) zero d within unchanged = rw unchanged (omega arith)
count_some (x ∷ xs) (suc at) d within unchanged = omega (arith, count_some xs at d (omega (arith, within)) unchanged, counted x xs)

-- what holds of a slot that is set and of the others holds of all
pub for_sets : (P : ℕ → Slot → Type 0) (old new : List (ℕ × Slot)) (key : ℕ) (slot : Slot) → Sets old new key slot → P key slot → ((q : ℕ) → ForSome (value_at old q) (P q)) → (q : ℕ) → ForSome (value_at new q) (P q)
for_sets P old new key slot sets holds others q = subst (λ o. ForSome o (P q)) (sym (sets q)) (by_test (key == q) refl)
  where
    by_test : (b : Bool) → (key == q) ≡ b → ForSome (if b then Some slot else value_at old q) (P q)
    by_test true t = λ x is. subst (λ k. P k x) (eqb-true key q t) (subst (P key) (same_Some slot x is) holds)
    by_test false t = others q

-- the list with the home of a slot that had not changed
abbrev pub with_home : Bool → Home → List Home → List Home
with_home true home changed = changed ++ home ∷ []
with_home false home changed = changed

-- what was listed is, and the home is now
listed_more : (was : Bool) (home : Home) (changed : List Home) (key : ℕ) → is_listed changed key ≡ true → is_listed (with_home was home changed) key ≡ true
listed_more true home changed key is = list_any-append (λ h. number_of h == key) changed (home ∷ []) ∙ ap (λ b. b || is_listed (home ∷ []) key) is
listed_more false home changed key is = is

listed_now : (was : Bool) (home : Home) (changed : List Home) → (was ≡ false → is_listed changed (number_of home) ≡ true) → is_listed (with_home was home changed) (number_of home) ≡ true
listed_now true home changed other =
    let at_end : is_listed (home ∷ []) (number_of home) ≡ true = grind (arith, nat_tests) in
    let either = or_right (is_listed changed (number_of home)) _ at_end in
    list_any-append (λ h. number_of h == number_of home) changed (home ∷ []) ∙ either
  where
    or_right : (a b : Bool) → b ≡ true → (a || b) ≡ true
    or_right true b t = refl
    or_right false b t = t
listed_now false home changed other = other refl

homes_more : (was : Bool) (home : Home) (changed : List Home) → home.page < 2 ^ 32 → have_pages changed ≡ true → have_pages (with_home was home changed) ≡ true
homes_more true home changed fits are =
    let last : have_pages (home ∷ []) ≡ true = grind (arith, nat_tests) in
    list_all-append (λ h. nat_lt h.page (2 ^ 32)) changed (home ∷ []) ∙ ap (λ b. b && have_pages (home ∷ [])) are ∙ last
homes_more false home changed fits are = are

length_more : (was : Bool) (home : Home) (changed : List Home) → length (with_home was home changed) ≡ length changed + (if was then 1 else 0)
length_more true home changed = length-append changed (home ∷ [])
length_more false home changed = omega arith

module _ (entries : List (ℕ × Slot)) (changed : List Home) (kept : AreSlots entries changed) (home : Home) (at : ℕ) (place : IsPlaceOf entries (number_of home) at) (d : ℕ × Slot) (slot : Slot) where
  abbrev pub was : Slot
  was = (get_or entries at d).1

  there : value_at entries (number_of home) ≡ Some was
  there = value_at_place _ _ _ place kept.rising d

  sets : Sets entries (set entries at (number_of home, slot)) (number_of home) slot
  sets = sets_at_place _ _ _ place kept.rising slot d

  pub edits_slot : (page : Option (List ℕ)) → page_now slot ≡ page → page_before slot ≡ page_before was → EditsSlot (number_of home) page entries (set entries at (number_of home, slot))
  edits_slot page now before = record {
    pages = λ q. ap (option_and_then page_now) (sets q) ∙ by_page q (number_of home == q) refl;
    before = λ q. ap (option_and_then page_before) (sets q) ∙ by_before q (number_of home == q) refl;
  }
    where
      by_page : (q : ℕ) (b : Bool) → (number_of home == q) ≡ b → option_and_then page_now (if b then Some slot else value_at entries q) ≡ (if b then page else option_and_then page_now (value_at entries q))
      by_page q true t = now
      by_page q false t = refl

      by_before : (q : ℕ) (b : Bool) → (number_of home == q) ≡ b → option_and_then page_before (if b then Some slot else value_at entries q) ≡ option_and_then page_before (value_at entries q)
      by_before q true t = before ∙ sym (ap (option_and_then page_before) (ap (value_at entries) (sym (eqb-true _ q t)) ∙ there))
      by_before q false t = refl

  pub slots_edited : home.page < 2 ^ 32 → is_same slot ≡ false → (AreWhole was → AreWhole slot) → AreSlots (set entries at (number_of home, slot)) (with_home (is_same was) home changed)
  slots_edited fits changes whole = record {
    rising = rising_at_place _ _ _ place kept.rising slot;
    whole = for_sets (λ key. AreWhole) entries _ (number_of home) slot sets (whole (kept.whole (number_of home) was there)) kept.whole;
    listed = for_sets (λ key s. is_same s ≡ false → is_listed (with_home (is_same was) home changed) key ≡ true) entries _ (number_of home) slot sets (λ no. listed_now (is_same was) home changed (kept.listed (number_of home) was there)) (λ q s is no. listed_more (is_same was) home changed q (kept.listed q s is no));
    homes = homes_more (is_same was) home changed fits kept.homes;
    once = grind (arith, kept.once, count_set entries at (number_of home) slot d place.within, length_more (is_same was) home changed, length-set entries at (number_of home, slot));
  }

-- the entry at a place that was found
module _ (entries : List (ℕ × Slot)) (changed : List Home) (kept : AreSlots entries changed) (home : Home) (list : List (ℕ × Slot)) (same : list ≡ entries) (key : ℕ) (is : key ≡ number_of home) (at : ℕ) (found : IsPlaceOf list key at) (entry : ℕ × Slot) (value : entry ≡ get_or entries at entry) where
  place : IsPlaceOf entries (number_of home) at
  place = subst (λ l. IsPlaceOf l (number_of home) at) same (subst (λ k. IsPlaceOf list k at) is found)

  its_key : entry.0 ≡ number_of home
  its_key = ap (λ (e : ℕ × Slot). e.0) value ∙ place.has_key entry

  pub its_slot : value_at entries (number_of home) ≡ Some entry.1
  its_slot = value_at_place _ _ _ place kept.rising entry ∙ ap (λ (e : ℕ × Slot). Some e.1) (sym value)

  -- the list has room for one that has not changed
  pub has_room : is_same entry.1 ≡ true → length changed < length entries
  has_room unchanged = omega (arith, kept.once, count_some entries at entry place.within (ap (λ (e : ℕ × Slot). is_same e.1) (sym value) ∙ unchanged))

  pub edits_entry : (slot : Slot) (page : Option (List ℕ)) → page_now slot ≡ page → page_before slot ≡ page_before entry.1 → EditsSlot (number_of home) page entries (set entries at (entry.0, slot))
  edits_entry slot page now before = subst (λ k. EditsSlot (number_of home) page entries (set entries at (k, slot))) (sym its_key) (edits_slot entries changed kept home at place entry slot page now (before ∙ ap (λ (e : ℕ × Slot). page_before e.1) value))

  pub edits_if_there : (slot : Slot) (change : List ℕ → List ℕ) → IsSomeAnd (page_now entry.1) (λ page. page_now slot ≡ Some (change page)) → page_before slot ≡ page_before entry.1 → IsSomeAnd (option_and_then page_now (value_at entries (number_of home))) (λ page. EditsSlot (number_of home) (Some (change page)) entries (set entries at (entry.0, slot)))
  edits_if_there slot change now before = subst (λ o. IsSomeAnd (option_and_then page_now o) (λ page. EditsSlot (number_of home) (Some (change page)) entries (set entries at (entry.0, slot)))) (sym its_slot) (on_page (page_now entry.1) now)
    where
      on_page : (o : Option (List ℕ)) → IsSomeAnd o (λ page. page_now slot ≡ Some (change page)) → IsSomeAnd o (λ page. EditsSlot (number_of home) (Some (change page)) entries (set entries at (entry.0, slot)))
      on_page None there = there
      on_page (Some page) there = edits_entry slot (Some (change page)) there before

  pub slots_with : (slot : Slot) (unchanged : Bool) → unchanged ≡ is_same entry.1 → home.page < 2 ^ 32 → is_same slot ≡ false → (AreWhole entry.1 → AreWhole slot) → AreSlots (set entries at (entry.0, slot)) (with_home unchanged home changed)
  slots_with slot unchanged says fits changes whole =
      let edited = slots_edited entries changed kept home at place entry slot fits changes (λ were. whole (subst (λ (e : ℕ × Slot). AreWhole e.1) (sym value) were)) in
      let said : is_same (get_or entries at entry).1 ≡ unchanged = ap (λ (e : ℕ × Slot). is_same e.1) (sym value) ∙ sym says in
      subst (λ k. AreSlots (set entries at (k, slot)) (with_home unchanged home changed)) (sym its_key) (subst (λ b. AreSlots (set entries at (number_of home, slot)) (with_home b home changed)) said edited)

-- where no page is at a number, nothing is to be done
pub edits_none : (entries : List (ℕ × Slot)) (key : ℕ) → option_and_then page_now (value_at entries key) ≡ None → EditsSlot key None entries entries
edits_none entries key none = record { pages = λ q. by_test q (key == q) refl; before = λ q. refl }
  where
    by_test : (q : ℕ) (b : Bool) → (key == q) ≡ b → option_and_then page_now (value_at entries q) ≡ (if b then None else option_and_then page_now (value_at entries q))
    by_test q true t = ap (λ k. option_and_then page_now (value_at entries k)) (sym (eqb-true key q t)) ∙ none
    by_test q false t = refl

count_insert : (entries : List (ℕ × Slot)) (at : ℕ) (entry : ℕ × Slot) → count_same (insert entries at entry) ≡ counts entry.1 + count_same entries
count_insert entries zero entry = counted entry entries
count_insert [] (suc at) entry = counted entry []
count_insert (x ∷ xs) (suc at) entry = omega (arith, counted x xs, counted x (insert xs at entry), count_insert xs at entry)

-- a slot put in a gap
module _ (entries : List (ℕ × Slot)) (changed : List Home) (kept : AreSlots entries changed) (home : Home) (list : List (ℕ × Slot)) (same : list ≡ entries) (key : ℕ) (is : key ≡ number_of home) (at : ℕ) (found : IsGapFor list key at) (slot : Slot) where
  gap : IsGapFor entries (number_of home) at
  gap = subst (λ l. IsGapFor l (number_of home) at) same (subst (λ k. IsGapFor list k at) is found)

  sets_new : Sets entries (insert entries at (key, slot)) (number_of home) slot
  sets_new = subst (λ k. Sets entries (insert entries at (k, slot)) (number_of home) slot) (sym is) (sets_in_gap _ _ _ gap slot)

  pub edits_new : (page : Option (List ℕ)) → page_now slot ≡ page → page_before slot ≡ None → EditsSlot (number_of home) page entries (insert entries at (key, slot))
  edits_new page now before = record {
    pages = λ q. ap (option_and_then page_now) (sets_new q) ∙ by_page q (number_of home == q);
    before = λ q. ap (option_and_then page_before) (sets_new q) ∙ by_before q (number_of home == q) refl;
  }
    where
      by_page : (q : ℕ) (b : Bool) → option_and_then page_now (if b then Some slot else value_at entries q) ≡ (if b then page else option_and_then page_now (value_at entries q))
      by_page q true = now
      by_page q false = refl

      by_before : (q : ℕ) (b : Bool) → (number_of home == q) ≡ b → option_and_then page_before (if b then Some slot else value_at entries q) ≡ option_and_then page_before (value_at entries q)
      by_before q true t = before ∙ sym (ap (option_and_then page_before) (ap (value_at entries) (sym (eqb-true _ q t)) ∙ value_in_gap _ _ _ gap))
      by_before q false t = refl

  pub slots_new : is_same slot ≡ false → AreWhole slot → home.page < 2 ^ 32 → AreSlots (insert entries at (key, slot)) (changed ++ home ∷ [])
  slots_new changes whole fits = record {
    rising = subst (λ k. IsRising (insert entries at (k, slot))) (sym is) (rising_with _ _ _ gap kept.rising slot);
    whole = for_sets (λ key. AreWhole) entries _ (number_of home) slot sets_new whole kept.whole;
    listed = for_sets (λ key s. is_same s ≡ false → is_listed (changed ++ home ∷ []) key ≡ true) entries _ (number_of home) slot sets_new (λ no. listed_now true home changed (λ f. absurd (false≢true (sym f)))) (λ q s there no. listed_more true home changed q (kept.listed q s there no));
    homes = homes_more true home changed fits kept.homes;
    once = omega (arith, kept.once, count_insert entries at (key, slot), none_counts, length-append changed (home ∷ []), length-insert entries at (key, slot) gap.within);
  }
    where
      none_counts : counts slot ≡ 0
      none_counts = ap (λ b. if b then 1 else 0) changes
