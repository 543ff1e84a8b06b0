-- Rows of the list of faults, rule after rule.
use Rattle.std.proofs.Common.{◌≡◌, ◌∙◌, ◌⊎◌, ◌↔◌, inl, inr, Bool, true, false, IsTrue, append_assoc, nat_eq, take, ℕ, zero, suc, ◌+◌, ◌^◌, ◌<◌, ◌≤◌, List, [], ◌∷◌, ◌++◌, Contains, Some, get_or, length, refl, sym, ap, subst, arith, ⊎_elim}
use Rattle.std.proofs.lemmas.Bool.{cases_order, ne_eqb}
use Rattle.std.proofs.lemmas.List.Elements.{Contains-append_left}
use Rattle.std.specs.List.{AllByRecursion}
use Rattle.slot_files.specs.domain_base.declared.place.Home.{Home}
use Rattle.slot_files.specs.domain_layout.Faults.{AreInOrder, FaultRow, IsBefore}
use Rattle.slot_files.specs.sorted_sets.Members.{IsIn, entries}
use Rattle.slot_files.specs.sorted_sets.Order.{AreNumbered}
use Rattle.slot_files.specs.sorted_sets.declared.home_set.HomeSet.{HomeSet}
use Rattle.slot_files.proofs.OfSortedSets.Placed.{placed}
use Rattle.slot_files.specs.sorted_sets.Homes.{number_of}
use Rattle.slot_files.specs.sorted_sets.Rising.{IsRising, value_at}
use Rattle.slot_files.proofs.OfSortedSets.Search.{value-present}
use Rattle.domain_faults.specs.Rows.{AreRowsOf, row_of, row_there, rows_of, rows_there}
use Rattle.domain_faults.specs.declared.rows.FaultRow.{FaultRow as Told}
use Rattle.slot_files.proofs.OfFilesetsReading.Ways.{map_pushed}
use Rattle.slot_files.proofs.Listed.{taken}

-- a home with its number
abbrev Entry : Type 0
Entry = ℕ × Home

-- ---- elements

pub in_none : {X : Type 0} (x : X) → ¬ Contains [] x
in_none x there = omega (arith, there.1)

first_or : {X : Type 0} (x : X) (xs : List X) (y : X) → Contains (x ∷ xs) y → (x ≡ y) ⊎ Contains xs y
first_or x xs y (zero, within, is) = inl is
first_or x xs y (suc k, within, is) = inr (k, omega (arith, within), is)

at_first : {X : Type 0} (x : X) (xs : List X) → Contains (x ∷ xs) x
at_first x xs = (0, omega arith, refl)

later : {X : Type 0} (x : X) (xs : List X) (y : X) → Contains xs y → Contains (x ∷ xs) y
later x xs y (k, within, is) = (suc k, omega (arith, within), is)

pub in_both : {X : Type 0} (xs ys : List X) (z : X) → Contains (xs ++ ys) z → Contains xs z ⊎ Contains ys z
in_both [] ys z among = inr among
in_both (x ∷ xs) ys z among =
    ⊎_elim (λ here. inl (subst (Contains (x ∷ xs)) here (at_first x xs)))
    (λ more. ⊎_elim (λ front. inl (later x xs z front)) (λ back. inr back) (in_both xs ys z more)) (first_or x (xs ++ ys) z among)

pub in_back : {X : Type 0} (xs ys : List X) (z : X) → Contains ys z → Contains (xs ++ ys) z
in_back [] ys z among = among
in_back (x ∷ xs) ys z among = later x (xs ++ ys) z (in_back xs ys z among)

pub empty_by : {X : Type 0} (xs : List X) → ((x : X) → ¬ Contains xs x) → xs ≡ []
empty_by [] none = refl
empty_by (x ∷ xs) none = absurd (none x (at_first x xs))

-- ---- order

all_both : {X : Type 0} (P : X → Type 0) (xs ys : List X) → AllByRecursion P xs → AllByRecursion P ys → AllByRecursion P (xs ++ ys)
all_both P [] ys first second = second
all_both P (x ∷ xs) ys first second = (first.0, all_both P xs ys first.1 second)

all_by : {X : Type 0} (P : X → Type 0) (xs : List X) → ((x : X) → Contains xs x → P x) → AllByRecursion P xs
all_by P [] so = tt
all_by P (x ∷ xs) so = (so x (at_first x xs), all_by P xs (λ y among. so y (later x xs y among)))

order_both : (xs ys : List FaultRow) → AreInOrder xs → AreInOrder ys → ((x y : FaultRow) → Contains xs x → Contains ys y → IsBefore x y) → AreInOrder (xs ++ ys)
order_both [] ys first second before = second
order_both (x ∷ xs) ys first second before = (
  all_both (IsBefore x) xs ys first.0 (all_by (IsBefore x) ys (λ y among. before x y (at_first x xs) among)),
  order_both xs ys first.1 second (λ z y among also. before z y (later x xs z among) also),
)

-- ---- the rows of a set

by_number : (a b : Home) → number_of a < number_of b → a.page < 2 ^ 32 → b.page < 2 ^ 32 → (a.vol < b.vol) ⊎ ((a.vol ≡ b.vol) × (a.page < b.page))
by_number a b less small also =
    ⊎_elim (λ same. inr (same, omega (arith, less, same)))
    (λ differ. ⊎_elim (λ low. inl low) (λ high. absurd (omega (arith, less, small, also, high))) differ) (cases_order a.vol b.vol)

row_in : (code : ℕ) (homes : List Entry) (row : FaultRow) → Contains (rows_of code homes) row → (e : Entry) × Contains homes e × (row_of code e ≡ row)
row_in code [] row among = absurd (in_none row among)
row_in code (e ∷ es) row among =
    ⊎_elim (λ here. (e, at_first e es, here)) (λ more. let found = row_in code es row more in (found.0, later e es found.0 found.1, found.2)) (first_or (row_of code e) (rows_of code es) row among)

row_at : (code : ℕ) (homes : List Entry) (e : Entry) → Contains homes e → Contains (rows_of code homes) (row_of code e)
row_at code [] e among = absurd (in_none e among)
row_at code (x ∷ xs) e among =
    ⊎_elim (λ here. subst (λ (y : Entry). Contains (rows_of code (x ∷ xs)) (row_of code y)) here (at_first (row_of code x) (rows_of code xs)))
    (λ more. later (row_of code x) (rows_of code xs) (row_of code e) (row_at code xs e more)) (first_or x xs e among)

-- a home stands in front of all that stand behind it
rising_on : (e : Entry) (es : List Entry) → IsRising (e ∷ es) → IsRising es
rising_on e es rising i j d less within = rising (suc i) (suc j) d (omega (arith, less)) (omega (arith, within))

rises : (e : Entry) (es : List Entry) → IsRising (e ∷ es) → (f : Entry) → Contains es f → e.0 < f.0
rises e es rising f (k, within, is) =
    subst (λ (x : Entry). e.0 < x.0) is (rising 0 (suc k) f (omega arith) (omega (arith, within)))

-- entries whose homes have these numbers
abbrev HaveNumbers : List Entry → Type 0
HaveNumbers homes = (e : Entry) → Contains homes e → (e.0 ≡ number_of e.1) × (e.1.page < 2 ^ 32)

have_numbers : (homes : List Entry) → IsRising homes → AreNumbered homes → HaveNumbers homes
have_numbers homes rising numbered e (k, within, is) =
    numbered e.0 e.1 (value-present homes rising e.0 k e within (ap (λ (a : Entry). a.0) is) ∙ ap (λ (a : Entry). Some a.1) is)

in_order : (code : ℕ) (homes : List Entry) → IsRising homes → HaveNumbers homes → AreInOrder (rows_of code homes)
in_order code [] rising numbered = tt
in_order code (e ∷ es) rising numbered = (
  all_by (IsBefore (row_of code e)) (rows_of code es) (λ row among. let found = row_in code es row among in subst (IsBefore (row_of code e)) found.2 (behind found.0 found.1)),
  in_order code es (rising_on e es rising) (λ f among. numbered f (later e es f among)),
)
  where
    behind : (f : Entry) → Contains es f → IsBefore (row_of code e) (row_of code f)
    behind f among =
        let one = numbered e (at_first e es) in
        let other = numbered f (later e es f among) in
        let less = rises e es rising f among in
        inr (refl, by_number e.1 f.1 (omega (arith, less, one.0, other.0)) one.1 other.1)

-- a row of a set
abbrev pub IsRowIn : ℕ → HomeSet → FaultRow → Type 0
IsRowIn code set row = (row.code ≡ code) × IsIn set row.home

module _ (code : ℕ) (set : HomeSet) (rising : IsRising (entries set)) (numbered : AreNumbered (entries set)) where
  to_set : (row : FaultRow) → Contains (rows_of code (entries set)) row → IsRowIn code set row
  to_set row among =
      let found = row_in code (entries set) row among in
      let e = found.0 in
      let k = found.1.0 in
      let is = found.1.2 in
      let there : value_at (entries set) e.0 ≡ Some e.1 =
      value-present (entries set) rising e.0 k e found.1.1 (ap (λ (a : Entry). a.0) is) ∙ ap (λ (a : Entry). Some a.1) is in
      let number = (numbered e.0 e.1 there).0 in
      subst (IsRowIn code set) found.2 (refl, subst (λ n. value_at (entries set) n ≡ Some e.1) number there)

  from_set : (row : FaultRow) → IsRowIn code set row → Contains (rows_of code (entries set)) row
  from_set row is =
      let at = placed (entries set) (number_of row.home) row.home is.1 in
      let among : Contains (entries set) (number_of row.home, row.home) = (at.0, at.1, at.2) in
      let same : row_of code (number_of row.home, row.home) ≡ row = (λ i. record { code = sym is.0 i; home = row.home }) in
      subst (Contains (rows_of code (entries set))) same (row_at code (entries set) (number_of row.home, row.home) among)

  -- they come behind rows of earlier rules
  pub rows_more : (is : FaultRow → Type 0) (old : List FaultRow) → AreRowsOf is old → ((row : FaultRow) → is row → row.code < code) → AreRowsOf (λ row. is row ⊎ IsRowIn code set row) (old ++ rows_of code (entries set))
  rows_more is old are early = record {
    each = λ row. (
      (λ among. ⊎_elim (λ front. inl ((are.each row).0 front)) (λ back. inr (to_set row back)) (in_both old (rows_of code (entries set)) row among)),
      (λ which. ⊎_elim (λ first. Contains-append_left old (rows_of code (entries set)) row ((are.each row).1 first)) (λ also. in_back old (rows_of code (entries set)) row (from_set row also)) which),
    );
    order = order_both old (rows_of code (entries set)) are.order (in_order code (entries set) rising (have_numbers (entries set) rising numbered))
        (λ one other among also. let same = (to_set other also).0 in inl (omega (arith, early one ((are.each one).0 among), same)));
  }

-- ---- few rows

-- no row is of this kind
abbrev pub IsNoRow : FaultRow → Type 0
IsNoRow row = ⊥

pub rows_none : AreRowsOf IsNoRow []
rows_none = record { each = λ row. ((λ among. in_none row among), (λ none. absurd none)); order = tt }

pub rows_alone : (one : FaultRow) → AreRowsOf (λ row. row ≡ one) (one ∷ [])
rows_alone one = record {
  each = λ row. (
    (λ among. ⊎_elim (λ here. sym here) (λ more. absurd (in_none row more)) (first_or one [] row among)),
    (λ same. subst (Contains (one ∷ [])) (sym same) (at_first one [])),
  );
  order = (tt, tt);
}

pub rows_same : (is now : FaultRow → Type 0) (rows : List FaultRow) → ((row : FaultRow) → is row ↔ now row) → AreRowsOf is rows → AreRowsOf now rows
rows_same is now rows same are = record {
  each = λ row. ((λ among. (same row).0 ((are.each row).0 among)), (λ so. (are.each row).1 ((same row).1 so)));
  order = are.order;
}

-- ---- rows as the program has them

pub rows_begin : (rows : List Told) → rows ≡ [] → AreRowsOf IsNoRow (rows_there rows)
rows_begin rows empty = subst (λ (l : List Told). AreRowsOf IsNoRow (rows_there l)) (sym empty) rows_none

pub rows_put : (code : ℕ) (set : HomeSet) → IsRising (entries set) → AreNumbered (entries set) → (is : FaultRow → Type 0) (old new : List FaultRow) → AreRowsOf is old → ((row : FaultRow) → is row → row.code < code) → new ≡ old ++ rows_of code (entries set)
    → AreRowsOf (λ row. is row ⊎ IsRowIn code set row) new
rows_put code set rising numbered is old new are early put = subst (AreRowsOf (λ row. is row ⊎ IsRowIn code set row)) (sym put) (rows_more code set rising numbered is old are early)

pub early_none : (code : ℕ) (row : FaultRow) → IsNoRow row → row.code < code
early_none code row void = absurd void

pub early_on : (code next : ℕ) (set : HomeSet) (is : FaultRow → Type 0) → ((row : FaultRow) → is row → row.code < code) → code < next → (row : FaultRow) → is row ⊎ IsRowIn code set row → row.code < next
early_on code next set is early less row which = ⊎_elim (λ first. let low = early row first in omega (arith, low, less)) (λ also. let same = also.0 in omega (arith, same, less)) which

-- one row more
pub row_more : (old first : List FaultRow) (code : ℕ) (homes : List Entry) (k : ℕ) (entry : Entry) → k < length homes → get_or homes k entry ≡ entry → old ≡ first ++ rows_of code (take k homes) → old ++ row_of code entry ∷ [] ≡ first ++ rows_of code (take (k + 1) homes)
row_more old first code homes k entry within at before =
    ap (λ (l : List FaultRow). l ++ row_of code entry ∷ []) before ∙ append_assoc first (rows_of code (take k homes)) (row_of code entry ∷ [])
    ∙ ap (λ (l : List FaultRow). first ++ l) (sym (map_pushed (row_of code) (take k homes) entry) ∙ ap (rows_of code) (sym (taken homes k entry within ∙ ap (λ e. take k homes ++ e ∷ []) at)))

pub take_whole : {X : Type 0} (xs : List X) (n : ℕ) → length xs ≤ n → take n xs ≡ xs
take_whole [] zero whole = refl
take_whole [] (suc n) whole = refl
take_whole (x ∷ xs) zero whole = absurd (omega (arith, whole))
take_whole (x ∷ xs) (suc n) whole = ap (λ ys. x ∷ ys) (take_whole xs n (omega (arith, whole)))

-- none is there
pub none_there : (rows : List Told) (empty : Bool) → empty ≡ nat_eq (length rows) 0 → IsTrue empty ↔ (rows_there rows ≡ [])
none_there [] empty is = ((λ so. refl), (λ none. is))
none_there (row ∷ rows) empty is = ((λ so. absurd (let e : true ≡ false = sym so ∙ is ∙ ne_eqb (length (row ∷ rows)) 0 (λ same. omega (arith, same)) in absurd (cc))), (λ none. absurd (let e : row_there row ∷ rows_there rows ≡ [] = none in absurd (cc))))
