-- What is on the list of homes that a change has touched.
use Rattle.std.proofs.Common.{◌≡◌, ◌==◌, ◌&&◌, ◌^◌, ◌<◌, ℕ, nat_lt, Bool, true, false, List, [], ◌∷◌, Option, Some, None, IsSome, IsSomeAnd, refl, sym, ap, ◌∙◌, arith, if◌then◌else◌, ⊎_elim}
use Rattle.std.specs.Option.{option_and_then}
use Rattle.std.proofs.lemmas.Bool.Decides.{nat_tests}
use mathlib.Core.Bool.{false≢true}
use Rattle.std.proofs.lemmas.Bool.{cases_Bool}
use Rattle.page_store.specs.domain_base.declared.place.Home.{Home}
use Rattle.page_store.specs.Pages.{same_home, with_page}
use Rattle.page_store.specs.sorted_sets.Homes.{number_of}
use Rattle.page_store.specs.sorted_sets.Rising.{value_at}
use Rattle.staged_pages.specs.declared.slot.Change.{Change}
use Rattle.staged_pages.specs.declared.slot.Change.TheVariants.{Same, Rewritten, Added, Forgotten, Passed}
use Rattle.staged_pages.specs.declared.slot.Slot.{Slot}
use Rattle.staged_pages.specs.declared.slot.Slot.TheVariants.{Taken, Vacant}
use Rattle.staged_pages.specs.Slots.{after, before, is_same, page_before, page_now, stays}
use Rattle.staged_pages.specs.Staged.{AreSlots, EditsSlot, have_pages, is_listed, is_on, pages_in}

both : (a b : Bool) → (a && b) ≡ true → (a ≡ true) × (b ≡ true)
both true b t = (refl, t)
both false b t = absurd (false≢true t)

fits_of : (n : ℕ) → nat_lt n (2 ^ 32) ≡ true → n < 2 ^ 32
fits_of n h = grind (arith, nat_tests)

-- two homes of one number are one
pub one_number : (a b : Home) → a.page < 2 ^ 32 → b.page < 2 ^ 32 → (number_of b == number_of a) ≡ same_home a b
one_number a b low other = grind (arith, nat_tests)

-- what is edited at the number of a home is edited at that home
pub pages_edited : (home : Home) (page : Option (List ℕ)) (old new : List (ℕ × Slot)) → home.page < 2 ^ 32 → EditsSlot (number_of home) page old new
    → pages_in page_now new ≡ (λ h. if same_home h home then page else pages_in page_now old h)
pages_edited home page old new fits edits = λ i h. at_home h i
  where
    at_home : (h : Home) → pages_in page_now new h ≡ (if same_home h home then page else pages_in page_now old h)
    at_home h = by_width (nat_lt h.page (2 ^ 32)) refl
      where
        by_width : (b : Bool) → nat_lt h.page (2 ^ 32) ≡ b → option_and_then page_now (if b then value_at new (number_of h) else None) ≡ (if same_home h home then page else option_and_then page_now (if b then value_at old (number_of h) else None))
        by_width true t = edits.pages (number_of h) ∙ ap (λ b. if b then page else option_and_then page_now (value_at old (number_of h))) (one_number h home (fits_of h.page t) fits)
        by_width false t =
            let apart : same_home h home ≡ false = grind (arith, nat_tests) in
            ap (λ b. if b then page else None) (sym apart)

-- so it is where the page that is there is rewritten
pub pages_rewritten : (home : Home) (change : List ℕ → List ℕ) (old new : List (ℕ × Slot)) → IsSome (pages_in page_now old home)
    → IsSomeAnd (option_and_then page_now (value_at old (number_of home))) (λ page. EditsSlot (number_of home) (Some (change page)) old new)
    → IsSomeAnd (pages_in page_now old home) (λ page. pages_in page_now new ≡ with_page home (change page) (pages_in page_now old))
pages_rewritten home change old new there edits = by_width (nat_lt home.page (2 ^ 32)) refl there
  where
    on_page : home.page < 2 ^ 32 → (found : Option (List ℕ)) → IsSomeAnd found (λ page. EditsSlot (number_of home) (Some (change page)) old new)
        → IsSomeAnd found (λ page. pages_in page_now new ≡ with_page home (change page) (pages_in page_now old))
    on_page fits None edited = edited
    on_page fits (Some page) edited = pages_edited home (Some (change page)) old new fits edited

    by_width : (b : Bool) → nat_lt home.page (2 ^ 32) ≡ b → IsSome (option_and_then page_now (if b then value_at old (number_of home) else None))
        → IsSomeAnd (option_and_then page_now (if b then value_at old (number_of home) else None)) (λ page. pages_in page_now new ≡ with_page home (change page) (pages_in page_now old))
    by_width true t some = on_page (fits_of home.page t) _ edits
    by_width false t some = absurd (false≢true some)

-- a home is on a list if and only if its number is
pub on_list : (homes : List Home) (home : Home) → home.page < 2 ^ 32 → have_pages homes ≡ true → is_listed homes (number_of home) ≡ is_on homes home
on_list [] home fits all = refl
on_list (x ∷ xs) home fits all =
    let parts = both (nat_lt x.page (2 ^ 32)) (have_pages xs) all in
    let here = one_number home x fits (fits_of x.page parts.0) in
    let rest = on_list xs home fits parts.1 in
    rw here (rw rest refl)

-- a slot that has not changed has the page that it had
pub same_slot : (slot : Slot) → is_same slot ≡ true → page_now slot ≡ page_before slot
same_slot Vacant same = refl
same_slot (Taken page other change) same = of_change change same
  where
    of_change : (change : Change) → stays change ≡ true → after change page ≡ before change page other
    of_change Same same = refl
    of_change Rewritten same = absurd (false≢true same)
    of_change Added same = absurd (false≢true same)
    of_change Forgotten same = absurd (false≢true same)
    of_change Passed same = absurd (false≢true same)

-- at a home that is not on the list the page is what it was
pub unlisted_same : (entries : List (ℕ × Slot)) (changed : List Home) → AreSlots entries changed → (home : Home) → is_on changed home ≡ false → pages_in page_now entries home ≡ pages_in page_before entries home
unlisted_same entries changed kept home off = by_width (nat_lt home.page (2 ^ 32)) refl
  where
    by_slot : home.page < 2 ^ 32 → (found : Option Slot) → value_at entries (number_of home) ≡ found → option_and_then page_now found ≡ option_and_then page_before found
    by_slot fits None is = refl
    by_slot fits (Some slot) is =
        ⊎_elim (λ same. same_slot slot same) (λ changes. absurd (false≢true (sym off ∙ sym (on_list changed home fits kept.homes) ∙ kept.listed (number_of home) slot is changes))) (cases_Bool (is_same slot))

    by_width : (b : Bool) → nat_lt home.page (2 ^ 32) ≡ b → option_and_then page_now (if b then value_at entries (number_of home) else None) ≡ option_and_then page_before (if b then value_at entries (number_of home) else None)
    by_width true t = by_slot (fits_of home.page t) (value_at entries (number_of home)) refl
    by_width false t = refl
