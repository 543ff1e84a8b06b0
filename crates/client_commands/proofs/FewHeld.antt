-- How many pages more are held with the change that is laid over free space.
use Rattle.std.proofs.Common.{◌≡◌, ◌∙◌, ◌+◌, ◌-◌, ◌<◌, ◌≤◌, ◌⊎◌, ◌&&◌, ◌++◌, ℕ, zero, suc, Bool, true, false, not, cond, List, [], ◌∷◌, Option, Some, None, inl, inr, length, refl, sym, ap, subst, arith, ⊎_elim, if◌then◌else◌}
use Rattle.std.proofs.lemmas.Bool.{cases_Bool, eq-eqb, eqb-true, ne_eqb, or_cases, true≢false}
use Rattle.std.proofs.lemmas.List.{length-append}
use Rattle.std.proofs.lemmas.List.Sums.{sum_by-cons}
use Rattle.std.specs.Cmp.{nat_cmp_total, unsigned_tied}
use Rattle.std.specs.List.{list_any, sum_by}
use Rattle.std.specs.Option.{option_map}
use Rattle.std.specs.Ordering.{eq_by_cmp, nat_cmp}
use Rattle.std.specs.FinSet.{FinSet, contains, contains-difference, contains-empty, contains-items, contains-remove, difference, empty, empty_of_len, from_list, insert, items, len, len-empty, len-insert, len-remove, nat_cmp-IsAntisymmetric, remove, same_set}
use Rattle.file_commands.specs.free_space.Spaces.{AreGivenBackOn, AreTakenOn}
use Rattle.file_commands.specs.free_space.VolumeSpace.{VolumeSpace, as_kept}
use Rattle.file_commands.specs.free_space.declared.waiting.Waiting.{Waiting}
use Rattle.file_commands.specs.domain_memory.Held.{held_if_open}

-- ---- numbers of sets

removed_other : (s : FinSet nat_cmp) (n q : ℕ) → ¬ q ≡ n → contains (remove s n) q ≡ contains s q
removed_other s n q differ = contains-remove nat_cmp_total s n q ∙ ap (λ b. not b && contains s q) (unsigned_tied q n ∙ ne_eqb q n differ)

removed_itself : (s : FinSet nat_cmp) (n : ℕ) → contains (remove s n) n ≡ false
removed_itself s n = contains-remove nat_cmp_total s n n ∙ ap (λ b. not b && contains s n) (unsigned_tied n n ∙ eq-eqb n n refl)

some_there : (s : FinSet nat_cmp) (n : ℕ) → contains s n ≡ true → 1 ≤ len s
some_there s n there = by_len (len s) refl
  where
    by_len : (k : ℕ) → len s ≡ k → 1 ≤ k
    by_len zero none = absurd (true≢false (sym there ∙ ap (λ (t : FinSet nat_cmp). contains t n) (empty_of_len s none) ∙ contains-empty nat_cmp n))
    by_len (suc k) is = omega arith

one_less : (s : FinSet nat_cmp) (n : ℕ) → contains s n ≡ true → len (remove s n) + 1 ≡ len s
one_less s n there =
    let less : len (remove s n) ≡ len s - 1 = len-remove nat_cmp_total s n ∙ ap (λ b. cond b (len s - 1) (len s)) there in
    omega (arith, less, some_there s n there)

no_more : (s : FinSet nat_cmp) (n : ℕ) → len (remove s n) ≤ len s
no_more s n = by_test (contains s n) (len-remove nat_cmp_total s n)
  where
    by_test : (b : Bool) → len (remove s n) ≡ cond b (len s - 1) (len s) → len (remove s n) ≤ len s
    by_test true is = omega (arith, is)
    by_test false is = omega (arith, is)

-- a set that two cover has no more than both
covered_below : (n : ℕ) (a b c : FinSet nat_cmp) → ((p : ℕ) → contains a p ≡ true → p < n) → ((p : ℕ) → contains a p ≡ true → (contains b p ≡ true) ⊎ (contains c p ≡ true)) → len a ≤ len b + len c
covered_below zero a b c below covers =
    let none : a ≡ empty = same_set nat_cmp_total nat_cmp-IsAntisymmetric a empty (λ q. ⊎_elim (λ there. absurd (let low = below q there in absurd (omega (arith, low)))) (λ missing. missing ∙ sym (contains-empty nat_cmp q)) (cases_Bool (contains a q))) in
    omega (arith, ap len none, len-empty nat_cmp)
covered_below (suc n) a b c below covers = ⊎_elim
    (λ there.
    let rest = covered_below n (remove a n) (remove b n) (remove c n)
    (λ p has. let low = below p (was p has) in let other = differs p has in omega (arith, low, other))
    (λ p has. ⊎_elim (λ in_b. inl (removed_other b n p (differs p has) ∙ in_b)) (λ in_c. inr (removed_other c n p (differs p has) ∙ in_c)) (covers p (was p has))) in
    let less = one_less a n there in
    ⊎_elim
    (λ in_b. let less_b = one_less b n in_b in let less_c = no_more c n in omega (arith, rest, less, less_b, less_c))
    (λ in_c. let less_b = no_more b n in let less_c = one_less c n in_c in omega (arith, rest, less, less_b, less_c))
    (covers n there))
    (λ missing. covered_below n a b c (λ p has. let low = below p has in let other = λ (same : p ≡ n). true≢false (sym (subst (λ x. contains a x ≡ true) same has) ∙ missing) in let apart : ¬ p ≡ n = other in omega (arith, low, apart)) covers)
    (cases_Bool (contains a n))
  where
    differs : (p : ℕ) → contains (remove a n) p ≡ true → ¬ p ≡ n
    differs p has same = true≢false (sym (subst (λ x. contains (remove a n) x ≡ true) same has) ∙ removed_itself a n)

    was : (p : ℕ) → contains (remove a n) p ≡ true → contains a p ≡ true
    was p has = sym (removed_other a n p (differs p has)) ∙ has

-- each number of a list is no greater than their sum
below_sum : (xs : List ℕ) (q : ℕ) → list_any (eq_by_cmp nat_cmp q) xs ≡ true → q ≤ sum_by (λ (x : ℕ). x) xs
below_sum [] q none = absurd (true≢false (sym none))
below_sum (x ∷ xs) q there =
    let all = sum_by-cons (λ (y : ℕ). y) x xs in
    ⊎_elim
    (λ here. let same = eqb-true q x (sym (unsigned_tied q x) ∙ here) in omega (arith, same, all))
    (λ later. let low = below_sum xs q later in omega (arith, low, all))
    (or_cases (eq_by_cmp nat_cmp q x) (list_any (eq_by_cmp nat_cmp q) xs) there)

covered : (a b c : FinSet nat_cmp) → ((p : ℕ) → contains a p ≡ true → (contains b p ≡ true) ⊎ (contains c p ≡ true)) → len a ≤ len b + len c
covered a b c covers = covered_below (suc (sum_by (λ (x : ℕ). x) (items a))) a b c (λ p has. let low = below_sum (items a) p (sym (contains-items a p) ∙ has) in omega (arith, low)) covers

listed : (xs : List ℕ) → len (from_list {R = nat_cmp} xs) ≤ length xs
listed [] = omega (arith, len-empty nat_cmp)
listed (x ∷ xs) = by_test (contains (from_list {R = nat_cmp} xs) x) (listed xs) (len-insert nat_cmp_total (from_list xs) x)
  where
    by_test : (b : Bool) → len (from_list {R = nat_cmp} xs) ≤ length xs → len (insert (from_list {R = nat_cmp} xs) x) ≡ cond b (len (from_list {R = nat_cmp} xs)) (len (from_list {R = nat_cmp} xs) + 1) → len (insert (from_list {R = nat_cmp} xs) x) ≤ suc (length xs)
    by_test true less is = omega (arith, less, is)
    by_test false less is = omega (arith, less, is)

-- ---- a volume

module _ (v : VolumeSpace) (taken : List ℕ) (given : List Waiting) (are : from_list taken ≡ difference v.used v.kept_used) (since : v.waiting ≡ v.kept_waiting ++ given) where
  by_kept : (p : ℕ) → contains v.used p ≡ true → (contains v.kept_used p ≡ true) ⊎ (contains (difference v.used v.kept_used) p ≡ true)
  by_kept p has = ⊎_elim
      (λ there. inl there)
      (λ missing. inr (contains-difference nat_cmp_total v.used v.kept_used p ∙ (λ i. has i && not (missing i))))
      (cases_Bool (contains v.kept_used p))

  more_if : (b : Bool) → (if b then len v.used - length v.waiting else 0) ≤ (if b then len v.kept_used - length v.kept_waiting else 0) + (length taken - length given)
  more_if false = omega arith
  more_if true =
      let cover = covered v.used v.kept_used (difference v.used v.kept_used) by_kept in
      let few = listed taken in
      let same = ap len are in
      let long = ap length since ∙ length-append v.kept_waiting given in
      omega (arith, cover, few, same, long)

pub more_on : (o : Option VolumeSpace) (taken : List ℕ) (given : List Waiting) → AreTakenOn o taken → AreGivenBackOn o given → held_if_open o ≤ held_if_open (option_map as_kept o) + (length taken - length given)
more_on None taken given are since = omega arith
more_on (Some v) taken given are since = more_if v taken given are.0 since v.is_open
