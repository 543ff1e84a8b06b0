-- Homes that were read, by their numbers.
use Rattle.std.proofs.Common.{◌≡◌, ◌==◌, ◌∙◌, ◌⊎◌, inl, inr, ℕ, zero, suc, ◌+◌, ◌*◌, ◌^◌, ◌<◌, ◌≤◌, nat_lt, Bool, true, false, List, [], ◌∷◌, ◌++◌, length, get_or, Option, Some, None, Contains, IsSome, is_some, if◌then◌else◌, refl, sym, ap, subst, arith, ⊎_elim, length-append}
use Rattle.std.proofs.lemmas.Bool.Decides.{nat_tests}
use Rattle.std.proofs.lemmas.Bool.{cases_lt}
use mathlib.Core.Bool.{false≢true}
use Rattle.domain_layout.specs.domain_base.declared.place.Home.{Home}
use Rattle.domain_layout.specs.sorted_sets.Homes.{found_at, number_of}
use Rattle.domain_layout.specs.sorted_sets.Rising.{IsRising, Sets, value_at}
use Rattle.domain_layout.proofs.OfSortedSets.Search.{value-present}
use Rattle.page_ways.specs.Walk.{AreNumbers}

abbrev Numbers : Type 0
Numbers = List (ℕ × Unit {0})

-- ---- a list of homes with one more after it

in_front : (homes : List Home) (home at : Home) → Contains homes at → Contains (homes ++ home ∷ []) at
in_front [] home at (k, within, is) = absurd (omega (arith, within))
in_front (x ∷ xs) home at (zero, within, is) = (zero, omega arith, is)
in_front (x ∷ xs) home at (suc k, within, is) = let more = in_front xs home at (k, omega (arith, within), is) in (suc more.0, omega (arith, more.1), more.2)

at_end : (homes : List Home) (home : Home) → Contains (homes ++ home ∷ []) home
at_end [] home = (0, omega arith, refl)
at_end (x ∷ xs) home = let more = at_end xs home in (suc more.0, omega (arith, more.1), more.2)

either : (homes : List Home) (home at : Home) → Contains (homes ++ home ∷ []) at → Contains homes at ⊎ (home ≡ at)
either [] home at (zero, within, is) = inr is
either [] home at (suc k, within, is) = absurd (omega (arith, within))
either (x ∷ xs) home at (zero, within, is) = inl (zero, omega arith, is)
either (x ∷ xs) home at (suc k, within, is) =
    ⊎_elim (λ front. inl (suc front.0, omega (arith, front.1), front.2)) (λ last. inr last) (either xs home at (k, omega (arith, within), is))

-- ---- numbers that rise

-- an entry has at least the number of those before it
at_least : (es : Numbers) → IsRising es → (i : ℕ) (d : ℕ × Unit {0}) → i < length es → i ≤ (get_or es i d).0
at_least es rising zero d within = omega arith
at_least es rising (suc i) d within = omega (arith, at_least es rising i d (omega (arith, within)), rising i (suc i) d (omega arith) within)

some_is : {X : Type 0} (o : Option X) (x : X) → o ≡ Some x → IsSome o
some_is o x is = subst IsSome (sym is) refl

pub count_below : (homes : List Home) (numbers : Numbers) → AreNumbers homes numbers → length homes ≤ 9 * 2 ^ 32
count_below homes numbers are = ⊎_elim (λ some. by_last (cases_lt (9 * 2 ^ 32) (length numbers))) (λ none. omega (arith, none, are.count)) (cases_lt 0 (length numbers))
  where
    by_last : (9 * 2 ^ 32 < length numbers) ⊎ (length numbers ≤ 9 * 2 ^ 32) → length homes ≤ 9 * 2 ^ 32
    by_last (inr few) = omega (arith, few, are.count)
    by_last (inl many) =
        let d : ℕ × Unit {0} = (0, tt) in
        let last = get_or numbers (9 * 2 ^ 32) d in
        let there = value-present numbers are.rising last.0 (9 * 2 ^ 32) d many refl in
        absurd (omega (arith, at_least numbers are.rising (9 * 2 ^ 32) d many, are.below last.0 (some_is (value_at numbers last.0) last.1 there)))

pub no_numbers : AreNumbers [] []
no_numbers = record {
  rising = λ i j d less within. absurd (omega (arith, within));
  count = refl;
  each = λ home. (by_width home (nat_lt home.page (2 ^ 32)), (λ there. absurd (omega (arith, there.1))));
  below = λ key none. absurd (false≢true none);
}
  where
    by_width : (home : Home) (b : Bool) → IsSome (if b then value_at {V = Unit {0}} [] (number_of home) else None) → Contains [] home
    by_width home true none = absurd (false≢true none)
    by_width home false none = absurd (false≢true none)

-- the number of a home is among them if and only if the home is
pub found_by_number : (homes : List Home) (numbers : Numbers) → AreNumbers homes numbers → (home : Home) → home.page < 2 ^ 32
    → (IsSome (value_at numbers (number_of home)) → Contains homes home) × (Contains homes home → IsSome (value_at numbers (number_of home)))
found_by_number homes numbers are home fits =
    let wide : found_at numbers home ≡ value_at numbers (number_of home) = grind (arith, nat_tests) in
    ((λ some. (are.each home).0 (subst IsSome (sym wide) some)), (λ there. subst IsSome wide ((are.each home).1 there)))

one_number : (a b : Home) → a.page < 2 ^ 32 → b.page < 2 ^ 32 → number_of a ≡ number_of b → a ≡ b
one_number a b low other same =
    let vols : a.vol ≡ b.vol = omega (arith, low, other, same) in
    let at : a.page ≡ b.page = omega (arith, low, other, same) in
    λ i. record { vol = vols i; page = at i }

-- ---- one home more

module _ (homes : List Home) (numbers new : Numbers) (home : Home) (are : AreNumbers homes numbers) (fits : home.page < 2 ^ 32) (few : home.vol ≤ 8) (fresh : ¬ Contains homes home) (sets : Sets numbers new (number_of home) tt) where
  none_yet : value_at numbers (number_of home) ≡ None
  none_yet = by_value (value_at numbers (number_of home)) refl
    where
      by_value : (o : Option (Unit {0})) → value_at numbers (number_of home) ≡ o → value_at numbers (number_of home) ≡ None
      by_value None is = is
      by_value (Some u) is = absurd (fresh ((found_by_number homes numbers are home fits).0 (some_is (value_at numbers (number_of home)) u is)))

  abbrev Tested : Bool → ℕ → Option (Unit {0})
  Tested b key = if b then Some tt else value_at numbers key

  split : (key : ℕ) → IsSome (value_at new key) → (number_of home ≡ key) ⊎ IsSome (value_at numbers key)
  split key some = by_test (number_of home == key) refl (subst IsSome (sets key) some)
    where
      by_test : (b : Bool) → (number_of home == key) ≡ b → IsSome (Tested b key) → (number_of home ≡ key) ⊎ IsSome (value_at numbers key)
      by_test true same some = inl (grind (arith, nat_tests))
      by_test false other some = inr some

  joined : (key : ℕ) → (number_of home ≡ key) ⊎ IsSome (value_at numbers key) → IsSome (value_at new key)
  joined key which = subst IsSome (sym (sets key)) (by_test (number_of home == key) refl)
    where
      by_test : (b : Bool) → (number_of home == key) ≡ b → IsSome (Tested b key)
      by_test true same = refl
      by_test false other = ⊎_elim (λ same. absurd (grind (arith, nat_tests))) (λ some. some) which

  each_read : (x : Home) → IsSome (found_at new x) → Contains (homes ++ home ∷ []) x
  each_read x some = by_width (nat_lt x.page (2 ^ 32)) refl some
    where
      by_width : (b : Bool) → nat_lt x.page (2 ^ 32) ≡ b → IsSome (if b then value_at new (number_of x) else None) → Contains (homes ++ home ∷ []) x
      by_width false wide some = absurd (false≢true some)
      by_width true narrow some =
          let low : x.page < 2 ^ 32 = grind (arith, nat_tests) in
          ⊎_elim (λ same. subst (Contains (homes ++ home ∷ [])) (one_number home x fits low same) (at_end homes home))
          (λ before. in_front homes home x ((found_by_number homes numbers are x low).0 before)) (split (number_of x) some)

  each_found : (x : Home) → Contains (homes ++ home ∷ []) x → IsSome (found_at new x)
  each_found x there = by_width (nat_lt x.page (2 ^ 32)) refl
    where
      none_wide : nat_lt x.page (2 ^ 32) ≡ false → IsSome (found_at numbers x) → ⊥
      none_wide wide some = false≢true (subst (λ b. IsSome (if b then value_at numbers (number_of x) else None)) wide some)

      by_width : (b : Bool) → nat_lt x.page (2 ^ 32) ≡ b → IsSome (if b then value_at new (number_of x) else None)
      by_width false wide =
          ⊎_elim (λ front. absurd (none_wide wide ((are.each x).1 front)))
          (λ last. let low : x.page < 2 ^ 32 = subst (λ h. h.page < 2 ^ 32) last fits in absurd (grind (arith, nat_tests)))
          (either homes home x there)
      by_width true narrow =
          let low : x.page < 2 ^ 32 = grind (arith, nat_tests) in
          joined (number_of x) (⊎_elim (λ front. inr ((found_by_number homes numbers are x low).1 front)) (λ last. inl (ap number_of last)) (either homes home x there))

  pub added : IsRising new → length new ≡ length numbers + (if is_some (value_at numbers (number_of home)) then 0 else 1) → AreNumbers (homes ++ home ∷ []) new
  added rising longer = record {
    rising = rising;
    count =
        let more : length new ≡ length numbers + 1 = longer ∙ ap (λ o. length numbers + (if is_some o then 0 else 1)) none_yet in
        omega (arith, more, are.count, length-append homes (home ∷ []));
    each = λ x. (each_read x, each_found x);
    below = λ key some. ⊎_elim (λ same. omega (arith, same, fits, few)) (λ before. are.below key before) (split key some);
  }
