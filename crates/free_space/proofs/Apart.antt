-- Lists of waiting pages in which no page stands twice.
use Rattle.std.proofs.Common.{◌≡◌, ℕ, zero, suc, ◌-◌, ◌<◌, ◌≤◌, Bool, true, false, not, cond, ◌&&◌, ◌||◌, List, [], ◌∷◌, ◌++◌, length, get_or, nat_eq, refl, sym, ◌∙◌, ap, subst, arith, ⊎_elim, ◌⊎◌, inl, inr}
use Rattle.std.proofs.lemmas.Bool.{cases_Bool, both_ways, or_cases, eq-eqb, ne_eqb, eqb-true, eqb-false, true≢false, and_parts, not-true, or_left, or_right, or_from}
use Rattle.std.proofs.lemmas.List.Folds.{list_any-append}
use Rattle.std.proofs.lemmas.Map.Keys.{IsDistinct-push}
use Rattle.std.specs.Cmp.{IsEquivalence, nat_cmp_total}
use Rattle.std.specs.List.{filter, AllByRecursion, IsDistinct}
use Rattle.std.specs.Ordering.{nat_cmp}
use Rattle.std.specs.FinSet.{FinSet, empty, contains, len, remove, len-remove, len-empty, contains-empty}
use Rattle.free_space.proofs.Used.{contains-removed, some_used, same_pages}
use Rattle.free_space.specs.declared.waiting.Waiting.{Waiting}
use Rattle.free_space.specs.VolumeSpace.{is_among}
use Rattle.free_space.specs.Sound.{same_page}

nat_eq_sym : (a b : ℕ) → nat_eq a b ≡ nat_eq b a
nat_eq_sym a b = ⊎_elim
    (λ same. same ∙ sym (eq-eqb b a (sym (eqb-true a b same))))
    (λ apart. apart ∙ sym (ne_eqb b a (λ same. both_ways (nat_eq a b) apart (eq-eqb a b (sym same))))) (cases_Bool (nat_eq a b))

same_page_laws : IsEquivalence same_page
same_page_laws = record {
  refl = λ v. eq-eqb v.page v.page refl;
  symm = λ v w. nat_eq_sym v.page w.page;
  congr = λ u v w same. ap (λ p. nat_eq p w.page) (eqb-true u.page v.page same);
}

-- a page of the list is not one that is missing from it
not_member : (ws : List Waiting) (q x : ℕ) → is_among ws x ≡ false → is_among ws q ≡ true → q ≡ x → ⊥
not_member ws q x missing there same = both_ways (is_among ws x) missing (subst (λ y. is_among ws y ≡ true) same there)

none_among : (ws : List Waiting) (p : ℕ) → AllByRecursion (λ w. nat_eq p w.page ≡ false) ws → is_among ws p ≡ false
none_among [] p none = refl
none_among (w ∷ ws) p none = or_from (nat_eq p w.page) (is_among ws p) none.0 (none_among ws p none.1)

pub head_apart : (w : Waiting) (ws : List Waiting) → IsDistinct same_page (w ∷ ws) → is_among ws w.page ≡ false
unfolding IsDistinct
head_apart w ws apart = none_among ws w.page apart.0

pub tail_apart : (w : Waiting) (ws : List Waiting) → IsDistinct same_page (w ∷ ws) → IsDistinct same_page ws
unfolding IsDistinct
tail_apart w ws apart = apart.1

-- pages that are members of a set are no more than the set has
pub length_le_len : (ws : List Waiting) (s : FinSet nat_cmp) → IsDistinct same_page ws → ((q : ℕ) → is_among ws q ≡ true → contains s q ≡ true) → length ws ≤ len s
length_le_len [] s apart members = omega arith
length_le_len (w ∷ ws) s apart members =
    let first : contains s w.page ≡ true = members w.page (or_left (nat_eq w.page w.page) (is_among ws w.page) (eq-eqb w.page w.page refl)) in
    let rest = length_le_len ws (remove s w.page) (tail_apart w ws apart) (λ q there.
    contains-removed s w.page q
    ∙ (λ i. not (ne_eqb q w.page (not_member ws q w.page (head_apart w ws apart) there) i) && members q (or_right (nat_eq q w.page) (is_among ws q) there) i)) in
    let one_less : len (remove s w.page) ≡ len s - 1 = len-remove nat_cmp_total s w.page ∙ ap (λ b. cond b (len s - 1) (len s)) first in
    omega (arith, rest, one_less, some_used s w.page first)

-- a set of numbers below n has at most n of them
pub len_le : (n : ℕ) (s : FinSet nat_cmp) → ((p : ℕ) → contains s p ≡ true → p < n) → len s ≤ n
len_le zero s below =
    let none : s ≡ empty = same_pages s empty (λ q. ⊎_elim (λ there. absurd (omega (arith, below q there))) (λ missing. missing ∙ sym (contains-empty nat_cmp q)) (cases_Bool (contains s q))) in
    omega (arith, ap len none, len-empty nat_cmp)
len_le (suc n) s below =
    let rest = len_le n (remove s n) (λ p there.
    let parts = and_parts (not (nat_eq p n)) (contains s p) (sym (contains-removed s n p) ∙ there) in
    let apart : p ≡ n → ⊥ = eqb-false p n (not-true (nat_eq p n) parts.0) in
    omega (arith, below p parts.1, apart)) in
    removed_one (contains s n) (len s) n (len (remove s n)) (len-remove nat_cmp_total s n) rest
  where
    removed_one : (b : Bool) (m n k : ℕ) → k ≡ cond b (m - 1) m → k ≤ n → m ≤ suc n
    removed_one true m n k e below = omega arith
    removed_one false m n k e below = omega arith

-- one page more, which is not there yet
pub apart_push : (ws : List Waiting) (w : Waiting) → IsDistinct same_page ws → is_among ws w.page ≡ false → IsDistinct same_page (ws ++ w ∷ [])
apart_push ws w apart missing = IsDistinct-push same_page_laws ws w apart missing

pub among_push : (ws : List Waiting) (w : Waiting) (q : ℕ) → is_among (ws ++ w ∷ []) q ≡ true → (q ≡ w.page) ⊎ (is_among ws q ≡ true)
among_push ws w q there = ⊎_elim (λ old. inr old)
    (λ new. ⊎_elim (λ is. inl (eqb-true q w.page is)) (λ none. absurd (true≢false (sym none))) (or_cases (nat_eq q w.page) false new))
    (or_cases (is_among ws q) (nat_eq q w.page || false) (sym (list_any-append (λ (v : Waiting). nat_eq q v.page) ws (w ∷ [])) ∙ there))

-- the pages that stay after a filter
module _ (keep : Waiting → Bool) where
  among_step : (w : Waiting) (ws : List Waiting) (q : ℕ) (b : Bool) → (is_among (filter keep ws) q ≡ true → is_among ws q ≡ true) →
      is_among (cond b (w ∷ filter keep ws) (filter keep ws)) q ≡ true → is_among (w ∷ ws) q ≡ true
  among_step w ws q true more there =
      ⊎_elim (λ here. or_left (nat_eq q w.page) (is_among ws q) here) (λ later. or_right (nat_eq q w.page) (is_among ws q) (more later))
      (or_cases (nat_eq q w.page) (is_among (filter keep ws) q) there)
  among_step w ws q false more there = or_right (nat_eq q w.page) (is_among ws q) (more there)

  pub among_filter : (ws : List Waiting) (q : ℕ) → is_among (filter keep ws) q ≡ true → is_among ws q ≡ true
  among_filter [] q there = there
  among_filter (w ∷ ws) q there = among_step w ws q (keep w) (among_filter ws q) there

  all_step : (P : Waiting → Type 0) (w : Waiting) (xs : List Waiting) (b : Bool) → P w → AllByRecursion P xs → AllByRecursion P (cond b (w ∷ xs) xs)
  all_step P w xs true first rest = (first, rest)
  all_step P w xs false first rest = rest

  all_filter : (P : Waiting → Type 0) (ws : List Waiting) → AllByRecursion P ws → AllByRecursion P (filter keep ws)
  all_filter P [] all = all
  all_filter P (w ∷ ws) all = all_step P w (filter keep ws) (keep w) all.0 (all_filter P ws all.1)

  apart_step : (w : Waiting) (xs : List Waiting) (b : Bool) → AllByRecursion (λ v. same_page w v ≡ false) xs → IsDistinct same_page xs → IsDistinct same_page (cond b (w ∷ xs) xs)
  unfolding IsDistinct
  apart_step w xs true first rest = (first, rest)
  apart_step w xs false first rest = rest

  pub apart_filter : (ws : List Waiting) → IsDistinct same_page ws → IsDistinct same_page (filter keep ws)
  unfolding IsDistinct
  apart_filter [] apart = apart
  apart_filter (w ∷ ws) apart =
      apart_step w (filter keep ws) (keep w) (all_filter (λ v. same_page w v ≡ false) ws apart.0) (apart_filter ws apart.1)

-- each element's page is one of the pages
pub among_at : (ws : List Waiting) (i : ℕ) (d : Waiting) → i < length ws → is_among ws (get_or ws i d).page ≡ true
among_at [] i d within = absurd (omega arith)
among_at (w ∷ ws) zero d within = or_left (nat_eq w.page w.page) (is_among ws w.page) (eq-eqb w.page w.page refl)
among_at (w ∷ ws) (suc i) d within =
    or_right (nat_eq (get_or ws i d).page w.page) (is_among ws (get_or ws i d).page) (among_at ws i d (omega arith))
