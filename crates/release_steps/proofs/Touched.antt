-- The first cell of a chain that passes a test, found by going from one to the next.
use Rattle.std.proofs.Common.{◌≡◌, ◌∙◌, ℕ, zero, suc, ◌+◌, ◌<◌, ◌≤◌, Bool, true, false, cond, List, [], ◌∷◌, length, take, get_or, Option, Some, None, refl, ap, subst, arith}
use Rattle.std.proofs.lemmas.List.{take_all}
use Rattle.std.specs.Option.{option_map}
use Rattle.quota_book.specs.QuotaCells.{Said, first_where}

module _ (test : Said → Bool) where
  no_suc : (o : Option ℕ) → option_map suc o ≡ None → o ≡ None
  no_suc None is = refl
  no_suc (Some k) is = absurd (cc)

  pub none_tested : (c : Said) (cs : List Said) → first_where test (c ∷ cs) ≡ None → (test c ≡ false) × (first_where test cs ≡ None)
  none_tested c cs none = by_test (test c) refl none
    where
      by_test : (b : Bool) → test c ≡ b → cond b (Some 0) (option_map suc (first_where test cs)) ≡ None → (test c ≡ false) × (first_where test cs ≡ None)
      by_test true is none = absurd (cc)
      by_test false is none = (is, no_suc (first_where test cs) none)

  passed_over : (c : Said) (cs : List Said) → test c ≡ false → first_where test (c ∷ cs) ≡ option_map suc (first_where test cs)
  passed_over c cs fails = ap (λ b. cond b (Some 0) (option_map suc (first_where test cs))) fails

  none_suc : (xs : List Said) (i : ℕ) → i < length xs → first_where test (take i xs) ≡ None → test (get_or xs i []) ≡ false → first_where test (take (suc i) xs) ≡ None
  none_suc [] i within none fails = absurd (omega (arith, within))
  none_suc (x ∷ xs) zero within none fails = passed_over x [] fails
  none_suc (x ∷ xs) (suc i) within none fails =
      let t = none_tested x (take i xs) none in
      passed_over x (take (suc i) xs) t.0 ∙ ap (option_map suc) (none_suc xs i (omega (arith, within)) t.1 fails)

  pub none_more : (xs : List Said) (i : ℕ) → i < length xs → first_where test (take i xs) ≡ None → test (get_or xs i []) ≡ false → first_where test (take (i + 1) xs) ≡ None
  none_more xs i within none fails = let on : suc i ≡ i + 1 = omega arith in subst (λ n. first_where test (take n xs) ≡ None) on (none_suc xs i within none fails)

  pub first_here : (xs : List Said) (i : ℕ) → i < length xs → first_where test (take i xs) ≡ None → test (get_or xs i []) ≡ true → first_where test xs ≡ Some i
  first_here [] i within none passes = absurd (omega (arith, within))
  first_here (x ∷ xs) zero within none passes = ap (λ b. cond b (Some 0) (option_map suc (first_where test xs))) passes
  first_here (x ∷ xs) (suc i) within none passes =
      let t = none_tested x (take i xs) none in
      passed_over x xs t.0 ∙ ap (option_map suc) (first_here xs i (omega (arith, within)) t.1 passes)

  pub none_at_all : (xs : List Said) (i : ℕ) → length xs ≤ i → first_where test (take i xs) ≡ None → first_where test xs ≡ None
  none_at_all xs i past none = subst (λ ys. first_where test ys ≡ None) (take_all i xs past) none

  -- what is found is there, and passes
  pub found_there : (xs : List Said) (k : ℕ) → first_where test xs ≡ Some k → (k < length xs) × (test (get_or xs k []) ≡ true)
  found_there [] k is = absurd (cc)
  found_there (x ∷ xs) k is = by_test (test x) refl is (λ j at. found_there xs j at)
    where
      some_suc : (o : Option ℕ) → option_map suc o ≡ Some k → (j : ℕ) × (o ≡ Some j) × (suc j ≡ k)
      some_suc None is = absurd (cc)
      some_suc (Some j) is = (j, refl, cc)

      by_test : (b : Bool) → test x ≡ b → cond b (Some 0) (option_map suc (first_where test xs)) ≡ Some k
          → ((j : ℕ) → first_where test xs ≡ Some j → (j < length xs) × (test (get_or xs j []) ≡ true)) → (k < suc (length xs)) × (test (get_or (x ∷ xs) k []) ≡ true)
      by_test true here is rest = let e : 0 ≡ k = cc in subst (λ n. (n < suc (length xs)) × (test (get_or (x ∷ xs) n []) ≡ true)) e (omega arith, here)
      by_test false fails is rest =
          let s = some_suc (first_where test xs) is in
          let r = rest s.0 s.1 in
          subst (λ n. (n < suc (length xs)) × (test (get_or (x ∷ xs) n []) ≡ true)) s.2 (omega (arith, r.0), r.1)
