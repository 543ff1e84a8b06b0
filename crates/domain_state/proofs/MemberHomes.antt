-- The pages of volumes at which a test is true, each once.
use Rattle.std.proofs.Common.{◌≡◌, ◌∙◌, ◌⊎◌, inl, inr, ℕ, zero, suc, ◌<◌, ◌≤◌, Bool, true, false, cond, List, [], ◌∷◌, Some, Contains, slice_get, refl, sym, ap, subst, arith, ⊎_elim}
use Rattle.std.proofs.lemmas.Bool.{cases_order}
use Rattle.no_faults.specs.domain_base.declared.place.Home.{Home}
use Rattle.no_faults.proofs.OfDomainLayout.OnePage.{some_same}
use Rattle.no_faults.proofs.Ways.{contains_of, nothing}

abbrev pub on : ℕ → ℕ → Home
on vol page = record { vol = vol; page = page }

abbrev pub AreOnce : List Home → Type 0
AreOnce homes = (j k : ℕ) (home : Home) → slice_get homes j ≡ Some home → slice_get homes k ≡ Some home → j ≡ k

abbrev passes : (Home → Bool) → Home → List Home → List Home
passes test home rest = cond (test home) (home ∷ rest) rest

-- those of the first pages of a volume, before others
below : (Home → Bool) → ℕ → ℕ → List Home → List Home
below test vol zero rest = rest
below test vol (suc n) rest = passes test (on vol n) (below test vol n rest)

-- those of volumes of these sizes, from the first one on
pub homes_of : (Home → Bool) → (ℕ → ℕ) → ℕ → List Home
homes_of test size zero = []
homes_of test size (suc v) = below test (suc v) (size (suc v)) (homes_of test size v)

-- ---- one home more

of_first : (x : Home) (xs : List Home) (home : Home) → Contains (x ∷ xs) home → (home ≡ x) ⊎ Contains xs home
of_first x xs home (zero, within, is) = inl (sym is)
of_first x xs home (suc k, within, is) = inr (k, omega (arith, within), is)

behind_first : (x : Home) (xs : List Home) (home : Home) → Contains xs home → Contains (x ∷ xs) home
behind_first x xs home (k, within, is) = (suc k, omega (arith, within), is)

once_more : (x : Home) (xs : List Home) → AreOnce xs → ¬ Contains xs x → AreOnce (x ∷ xs)
once_more x xs once new zero zero home one other = refl
once_more x xs once new zero (suc k) home one other =
    absurd (new (subst (Contains xs) (sym (some_same x home one)) (contains_of xs k home other)))
once_more x xs once new (suc j) zero home one other =
    absurd (new (subst (Contains xs) (sym (some_same x home other)) (contains_of xs j home one)))
once_more x xs once new (suc j) (suc k) home one other = ap suc (once j k home one other)

module _ (test : Home → Bool) where
  of_passes : (x : Home) (xs : List Home) (home : Home) → Contains (passes test x xs) home → ((home ≡ x) × (test home ≡ true)) ⊎ Contains xs home
  of_passes x xs home among = by_test (test x) refl among
    where
      by_test : (b : Bool) → test x ≡ b → Contains (cond b (x ∷ xs) xs) home → ((home ≡ x) × (test home ≡ true)) ⊎ Contains xs home
      by_test true is among = ⊎_elim (λ first. inl (first, ap test first ∙ is)) (λ rest. inr rest) (of_first x xs home among)
      by_test false is among = inr among

  first_passes : (x : Home) (xs : List Home) → test x ≡ true → Contains (passes test x xs) x
  first_passes x xs is = subst (λ b. Contains (cond b (x ∷ xs) xs) x) (sym is) (0, omega arith, refl)

  rest_passes : (x : Home) (xs : List Home) (home : Home) → Contains xs home → Contains (passes test x xs) home
  rest_passes x xs home among = by_test (test x)
    where
      by_test : (b : Bool) → Contains (cond b (x ∷ xs) xs) home
      by_test true = behind_first x xs home among
      by_test false = among

  once_passes : (x : Home) (xs : List Home) → AreOnce xs → ¬ Contains xs x → AreOnce (passes test x xs)
  once_passes x xs once new = by_test (test x)
    where
      by_test : (b : Bool) → AreOnce (cond b (x ∷ xs) xs)
      by_test true = once_more x xs once new
      by_test false = once

  -- ---- a volume

  -- such a page of a volume
  abbrev pub IsOneOf : ℕ → ℕ → Home → Type 0
  IsOneOf vol n home = (home.vol ≡ vol) × (home.page < n) × (test home ≡ true)

  in_below : (vol n : ℕ) (rest : List Home) (home : Home) → Contains (below test vol n rest) home → IsOneOf vol n home ⊎ Contains rest home
  unfolding below
  in_below vol zero rest home among = inr among
  in_below vol (suc n) rest home among =
      ⊎_elim (λ here. let page : home.page ≡ n = ap (λ (h : Home). h.page) here.0 in inl (ap (λ (h : Home). h.vol) here.0, omega (arith, page), here.1))
      (λ more. ⊎_elim (λ one. inl (one.0, omega (arith, one.1), one.2)) (λ other. inr other) (in_below vol n rest home more))
      (of_passes (on vol n) (below test vol n rest) home among)

  rest_below : (vol n : ℕ) (rest : List Home) (home : Home) → Contains rest home → Contains (below test vol n rest) home
  unfolding below
  rest_below vol zero rest home among = among
  rest_below vol (suc n) rest home among = rest_passes (on vol n) (below test vol n rest) home (rest_below vol n rest home among)

  to_below : (vol n : ℕ) (rest : List Home) (home : Home) → IsOneOf vol n home → Contains (below test vol n rest) home
  unfolding below
  to_below vol zero rest home is = absurd (omega (arith, is.1))
  to_below vol (suc n) rest home is =
      ⊎_elim (λ last.
      let here : home ≡ on vol n = (λ i. record { vol = is.0 i; page = last i }) in
      subst (Contains (below test vol (suc n) rest)) (sym here) (first_passes (on vol n) (below test vol n rest) (sym (ap test here) ∙ is.2)))
      (λ apart. rest_passes (on vol n) (below test vol n rest) home (to_below vol n rest home (is.0, ⊎_elim (λ less. less) (λ more. absurd (omega (arith, more, is.1))) apart, is.2)))
      (cases_order home.page n)

  once_below : (vol n : ℕ) (rest : List Home) → AreOnce rest → ((home : Home) → Contains rest home → ¬ home.vol ≡ vol) → AreOnce (below test vol n rest)
  unfolding below
  once_below vol zero rest once others = once
  once_below vol (suc n) rest once others =
      once_passes (on vol n) (below test vol n rest) (once_below vol n rest once others)
      (λ among. ⊎_elim (λ one. absurd (omega (arith, one.1))) (λ other. others (on vol n) other refl) (in_below vol n rest (on vol n) among))

  -- ---- all of them

  module _ (size : ℕ → ℕ) where
    -- such a page of one of the first volumes
    pub record IsAmong (volumes : ℕ) (home : Home) : Type 0 where
      pub first : 1 ≤ home.vol
      pub last : home.vol ≤ volumes
      pub within : home.page < size home.vol
      pub passes : test home ≡ true

    pub in_homes : (v : ℕ) (home : Home) → Contains (homes_of test size v) home → IsAmong v home
    unfolding homes_of
    in_homes zero home (k, within, is) = absurd (omega (arith, within))
    in_homes (suc v) home among =
        ⊎_elim (λ one. record {
          first = omega (arith, one.0);
          last = omega (arith, one.0);
          within = subst (λ n. home.page < size n) (sym one.0) one.1;
          passes = one.2;
        })
        (λ other. let is = in_homes v home other in record { first = is.first; last = omega (arith, is.last); within = is.within; passes = is.passes })
        (in_below (suc v) (size (suc v)) (homes_of test size v) home among)

    pub to_homes : (v : ℕ) (home : Home) → IsAmong v home → Contains (homes_of test size v) home
    unfolding homes_of
    to_homes zero home is = absurd (omega (arith, is.first, is.last))
    to_homes (suc v) home is =
        ⊎_elim (λ here. to_below (suc v) (size (suc v)) (homes_of test size v) home (here, subst (λ n. home.page < size n) here is.within, is.passes))
        (λ apart. rest_below (suc v) (size (suc v)) (homes_of test size v) home
        (to_homes v home (record {
          first = is.first;
          last = ⊎_elim (λ less. omega (arith, less)) (λ more. absurd (omega (arith, more, is.last))) apart;
          within = is.within;
          passes = is.passes;
        })))
        (cases_order home.vol (suc v))

    pub once_homes : (v : ℕ) → AreOnce (homes_of test size v)
    unfolding homes_of
    once_homes zero = λ j k home one other. nothing home one
    once_homes (suc v) =
        once_below (suc v) (size (suc v)) (homes_of test size v) (once_homes v)
        (λ home among same. let is = in_homes v home among in absurd (omega (arith, is.last, same)))
