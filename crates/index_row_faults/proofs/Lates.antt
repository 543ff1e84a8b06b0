-- Entries that are below one in front of them are those that are below the highest one there.
use Rattle.std.proofs.Common.{◌≡◌, ◌∙◌, ◌⊎◌, ◌↔◌, inl, inr, ℕ, ◌+◌, ◌<◌, Bool, true, false, List, Option, Some, None, slice_get, refl, sym, ap, subst, arith, ⊎_elim}
use Rattle.std.proofs.lemmas.Bool.{and_parts, both_ways, cases_Bool, cases_lt, eqb-true, ltb-true, or_cases}
use Rattle.std.specs.Prelude.{nat_eq, nat_lt, ◌&&◌}
use Rattle.page_faults.specs.domain_base.declared.place.Home.{Home}
use Rattle.page_faults.specs.directory_pages.Entries.{is_below}
use Rattle.page_faults.specs.directory_pages.declared.entry.IndexEntry.{IndexEntry}
use Rattle.page_faults.proofs.OfDirectoryPages.Orders.{below_too}
use Rattle.index_row_faults.specs.Entries.{IsLateBefore, is_below_top}
use Rattle.index_row_faults.specs.declared.entries.EntryAt.{EntryAt}

some_same : {X : Type 0} (a b : X) → Some a ≡ Some b → a ≡ b
some_same a b e = cc

abbrev Below : IndexEntry → IndexEntry → Type 0
Below a b = (a.hash < b.hash) ⊎ ((a.hash ≡ b.hash) × (a.page < b.page))

below_parts : (a b : IndexEntry) → is_below a b ≡ true → Below a b
below_parts a b is = ⊎_elim (λ less. inl (ltb-true a.hash b.hash less))
    (λ both. let parts = and_parts (nat_eq a.hash b.hash) (nat_lt a.page b.page) both in inr (eqb-true a.hash b.hash parts.0, ltb-true a.page b.page parts.1))
    (or_cases (nat_lt a.hash b.hash) (nat_eq a.hash b.hash && nat_lt a.page b.page) is)

not_both : (a b : IndexEntry) → is_below a b ≡ true → is_below b a ≡ true → ⊥
not_both a b one other = by_parts (below_parts a b one) (below_parts b a other)
  where
    by_parts : Below a b → Below b a → ⊥
    by_parts (inl less) (inl more) = omega (arith, less, more)
    by_parts (inl less) (inr (same, page)) = omega (arith, less, same)
    by_parts (inr (same, page)) (inl more) = omega (arith, more, same)
    by_parts (inr (same, page)) (inr (also, later)) = omega (arith, page, later)

not_below_itself : (a : IndexEntry) → is_below a a ≡ false
not_below_itself a = ⊎_elim (λ is. absurd (not_both a a is is)) (λ other. other) (cases_Bool (is_below a a))

module _ (entries : List EntryAt) where
  -- one of the entries in front of a number is the highest of them, if there are any
  pub record IsHighest (number : ℕ) (top : IndexEntry) : Type 0 where
    pub j : ℕ
    pub at : EntryAt
    pub before : j < number
    pub there : slice_get entries j ≡ Some at
    pub is : at.entry ≡ top
    pub most : (k : ℕ) (other : EntryAt) → k < number → slice_get entries k ≡ Some other → is_below top other.entry ≡ false

  abbrev pub IsTop : ℕ → Option IndexEntry → Type 0
  IsTop number None = (k : ℕ) (other : EntryAt) → k < number → ¬ slice_get entries k ≡ Some other
  IsTop number (Some top) = IsHighest number top

  -- an entry is below one of those in front of a number
  abbrev IsBelowSome : ℕ → IndexEntry → Type 0
  IsBelowSome number entry = (j : ℕ) × (before : EntryAt) × (j < number) × (slice_get entries j ≡ Some before) × (is_below entry before.entry ≡ true)

  below_some : (number : ℕ) (top : Option IndexEntry) (entry : IndexEntry) → IsTop number top → (is_below_top top entry ≡ true) ↔ IsBelowSome number entry
  below_some number None entry none = ((λ is. absurd (both_ways false refl is)), (λ (j, before, less, there, below). absurd (none j before less there)))
  below_some number (Some top) entry high = (
    λ is. (high.j, high.at, high.before, high.there, subst (λ (e : IndexEntry). is_below entry e ≡ true) (sym high.is) is),
    λ (j, before, less, there, below).
        ⊎_elim (λ is. is) (λ other. absurd (both_ways (is_below top before.entry) (high.most j before less there) (below_too top entry before.entry other below))) (cases_Bool (is_below entry top)),
  )

  -- behind an entry that is below the highest one that stays, and else the entry is the highest
  pub stays_top : (number : ℕ) (top : Option IndexEntry) (at : EntryAt) → slice_get entries number ≡ Some at → is_below_top top at.entry ≡ true → IsTop number top → IsTop (number + 1) top
  stays_top number None at there is none = absurd (both_ways false refl is)
  stays_top number (Some top) at there is high = record {
    j = high.j;
    at = high.at;
    before = omega (arith, high.before);
    there = high.there;
    is = high.is;
    most = λ k other below at_k. ⊎_elim (λ low. high.most k other low at_k)
        (λ far.
        let here : k ≡ number = omega (arith, below, far) in
        let same : at ≡ other = some_same at other (sym there ∙ ap (slice_get entries) (sym here) ∙ at_k) in
        not_above other (subst (λ (e : EntryAt). is_below e.entry top ≡ true) same is))
        (cases_lt k number);
  }
    where
      not_above : (other : EntryAt) → is_below other.entry top ≡ true → is_below top other.entry ≡ false
      not_above other less = ⊎_elim (λ more. absurd (not_both top other.entry more less)) (λ no. no) (cases_Bool (is_below top other.entry))

  pub is_top : (number : ℕ) (top : Option IndexEntry) (at : EntryAt) → slice_get entries number ≡ Some at → is_below_top top at.entry ≡ false → IsTop number top → IsTop (number + 1) (Some at.entry)
  is_top number top at there not_late was = record {
    j = number;
    at = at;
    before = omega arith;
    there = there;
    is = refl;
    most = λ k other below at_k. ⊎_elim
        (λ low. ⊎_elim (λ is. absurd (both_ways (is_below_top top at.entry) not_late ((below_some number top at.entry was).1 (k, other, low, at_k, is)))) (λ no. no) (cases_Bool (is_below at.entry other.entry)))
        (λ far.
        let here : k ≡ number = omega (arith, below, far) in
        let same : at ≡ other = some_same at other (sym there ∙ ap (slice_get entries) (sym here) ∙ at_k) in
        subst (λ (e : EntryAt). is_below at.entry e.entry ≡ false) same (not_below_itself at.entry))
        (cases_lt k number);
  }

  -- what is put into a set so far
  abbrev pub AreLate : (Home → Type 0) → (Home → Type 0) → ℕ → Type 0
  AreLate old new number = (home : Home) → new home ↔ (old home ⊎ IsLateBefore entries number home)

  pub none_late : (old : Home → Type 0) → AreLate old old 0
  none_late old home = ((λ is. inl is), (λ which. ⊎_elim (λ is. is) (λ (k, j, at, before, below, less, at_k, at_j, late, same). absurd (omega (arith, below))) which))

  -- late ones in front of the next number
  more_late : (number : ℕ) (top : Option IndexEntry) (at : EntryAt) → slice_get entries number ≡ Some at → IsTop number top → (home : Home)
      → IsLateBefore entries (number + 1) home ↔ (IsLateBefore entries number home ⊎ ((is_below_top top at.entry ≡ true) × (home ≡ at.home)))
  more_late number top at there was home = (
    λ (k, j, one, before, below, less, at_k, at_j, late, same). ⊎_elim (λ low. inl (k, j, one, before, low, less, at_k, at_j, late, same))
        (λ far.
        let here : k ≡ number = omega (arith, below, far) in
        let alike : one ≡ at = some_same one at (sym at_k ∙ ap (slice_get entries) here ∙ there) in
        inr (
          (below_some number top at.entry was).1 (j, before, omega (arith, less, here), at_j, subst (λ (e : EntryAt). is_below e.entry before.entry ≡ true) alike late),
          same ∙ ap (λ (e : EntryAt). e.home) alike,
        ))
        (cases_lt k number),
    λ which. ⊎_elim (λ (k, j, one, before, below, less, at_k, at_j, late, same). (k, j, one, before, omega (arith, below), less, at_k, at_j, late, same))
        (λ (late, same).
        let (j, before, less, at_j, below) = (below_some number top at.entry was).0 late in
        (number, j, at, before, omega arith, less, there, at_j, below, same)) which,
  )

  pub late_put : (old mid new : Home → Type 0) (number : ℕ) (top : Option IndexEntry) (at : EntryAt) → slice_get entries number ≡ Some at → IsTop number top → is_below_top top at.entry ≡ true
      → ((home : Home) → new home ↔ (mid home ⊎ (home ≡ at.home))) → AreLate old mid number → AreLate old new (number + 1)
  late_put old mid new number top at there was late put are home =
      let more = more_late number top at there was home in (
        λ is. ⊎_elim (λ before. ⊎_elim (λ first. inl first) (λ low. inr (more.1 (inl low))) ((are home).0 before)) (λ same. inr (more.1 (inr (late, same)))) ((put home).0 is),
        λ which. (put home).1 (⊎_elim (λ first. inl ((are home).1 (inl first))) (λ some. ⊎_elim (λ low. inl ((are home).1 (inr low))) (λ here. inr here.1) (more.0 some)) which),
      )

  pub none_put : (old new : Home → Type 0) (number : ℕ) (top : Option IndexEntry) (at : EntryAt) → slice_get entries number ≡ Some at → IsTop number top → is_below_top top at.entry ≡ false
      → AreLate old new number → AreLate old new (number + 1)
  none_put old new number top at there was not_late are home =
      let more = more_late number top at there was home in (
        λ is. ⊎_elim (λ first. inl first) (λ low. inr (more.1 (inl low))) ((are home).0 is),
        λ which. ⊎_elim (λ first. (are home).1 (inl first)) (λ some. ⊎_elim (λ low. (are home).1 (inr low)) (λ here. absurd (both_ways (is_below_top top at.entry) not_late here.0)) (more.0 some)) which,
      )
