-- Pages that were taken or became free since a volume was kept.
use Rattle.std.proofs.Common.{◌≡◌, ℕ, zero, suc, ◌+◌, ◌-◌, ◌<◌, ◌≤◌, Bool, true, false, not, cond, ◌&&◌, ◌||◌, List, [], ◌∷◌, ◌++◌, length, take, get_or, nat_eq, Option, Some, None, if◌then◌else◌, refl, sym, ◌∙◌, ap, subst, arith, ⊎_elim, ◌⊎◌, inl, inr}
use Rattle.std.proofs.lemmas.Bool.{cases_Bool, cases_eq, both_ways, or_cases, eq-eqb, ne_eqb, eqb-true, true≢false, and_parts, not-true, or_left, or_right}
use Rattle.std.proofs.lemmas.List.{take_more, length_push}
use Rattle.std.proofs.lemmas.List.Folds.{list_any-append}
use Rattle.std.proofs.lemmas.Option.{slice_get_within, get_or_from_slice_get}
use Rattle.std.proofs.lemmas.Map.Keys.{IsDistinct-push}
use Rattle.std.specs.Cmp.{nat_eq_equiv, nat_cmp_total}
use Rattle.std.specs.List.{list_any, AllByRecursion, IsDistinct}
use Rattle.std.specs.List.{slice_get}
use Rattle.std.specs.Option.{option_eq, option_to_list}
use Rattle.std.specs.Ordering.{nat_cmp}
use Rattle.std.specs.FinSet.{FinSet, contains, insert, remove, len, len-insert, from_list, union, difference, contains-union, contains-difference, contains-from_list_nat}
use Rattle.free_space.proofs.Used.{contains-inserted, contains-removed, same_pages}
use Rattle.free_space.specs.Sound.{is_one, without, used_before, AreChanges}
use Rattle.free_space.proofs.Apart.{len_le}

-- ---- lists of pages

or_false : (b : Bool) → (b || false) ≡ b
or_false true = refl
or_false false = refl

pub is_one-push : (xs : List ℕ) (p q : ℕ) → is_one (xs ++ p ∷ []) q ≡ (is_one xs q || nat_eq p q)
is_one-push xs p q = list_any-append (λ x. nat_eq x q) xs (p ∷ []) ∙ ap (λ b. is_one xs q || b) (or_false (nat_eq p q))

without_step : (p x q : ℕ) (is rest : Bool) → (b : Bool) → nat_eq x p ≡ b → rest ≡ (not (nat_eq q p) && is) → (ys : List ℕ) → is_one ys q ≡ rest →
    is_one (cond (not b) (x ∷ ys) ys) q ≡ (not (nat_eq q p) && (nat_eq x q || is))
without_step p x q is rest true same next ys has =
    let here : x ≡ p = eqb-true x p same in
    has ∙ next
    ∙ ⊎_elim (λ this. ap (λ b. not b && is) (eq-eqb q p this) ∙ sym (ap (λ b. not b && (nat_eq x q || is)) (eq-eqb q p this)))
    (λ other. ap (λ b. not (nat_eq q p) && (b || is)) (sym (ne_eqb x q (λ e. other (sym e ∙ here))))) (cases_eq q p)
without_step p x q is rest false apart next ys has =
    ap (λ b. nat_eq x q || b) (has ∙ next)
    ∙ ⊎_elim (λ this.
    ap (λ b. nat_eq x q || (not b && is)) (eq-eqb q p this) ∙ or_false (nat_eq x q)
    ∙ ap (λ y. nat_eq x y) this ∙ apart
    ∙ sym (ap (λ b. not b && (nat_eq x q || is)) (eq-eqb q p this)))
    (λ other. ap (λ b. nat_eq x q || (not b && is)) (ne_eqb q p other) ∙ sym (ap (λ b. not b && (nat_eq x q || is)) (ne_eqb q p other))) (cases_eq q p)

and_false : (b : Bool) → (b && false) ≡ false
and_false true = refl
and_false false = refl

pub is_one-without : (p : ℕ) (xs : List ℕ) (q : ℕ) → is_one (without p xs) q ≡ (not (nat_eq q p) && is_one xs q)
is_one-without p [] q = sym (and_false (not (nat_eq q p)))
is_one-without p (x ∷ xs) q =
    without_step p x q (is_one xs q) (is_one (without p xs) q) (nat_eq x p) refl (is_one-without p xs q) (without p xs) refl

all_step : (P : ℕ → Type 0) (x : ℕ) (xs : List ℕ) (b : Bool) → P x → AllByRecursion P xs → AllByRecursion P (cond b (x ∷ xs) xs)
all_step P x xs true first rest = (first, rest)
all_step P x xs false first rest = rest

all_without : (P : ℕ → Type 0) (p : ℕ) (xs : List ℕ) → AllByRecursion P xs → AllByRecursion P (without p xs)
all_without P p [] all = all
all_without P p (x ∷ xs) all = all_step P x (without p xs) (not (nat_eq x p)) all.0 (all_without P p xs all.1)

once_step : (x : ℕ) (xs : List ℕ) (b : Bool) → AllByRecursion (λ y. nat_eq x y ≡ false) xs → IsDistinct nat_eq xs → IsDistinct nat_eq (cond b (x ∷ xs) xs)
unfolding IsDistinct
once_step x xs true first rest = (first, rest)
once_step x xs false first rest = rest

pub once_without : (p : ℕ) (xs : List ℕ) → IsDistinct nat_eq xs → IsDistinct nat_eq (without p xs)
unfolding IsDistinct
once_without p [] once = once
once_without p (x ∷ xs) once = once_step x (without p xs) (not (nat_eq x p)) (all_without (λ y. nat_eq x y ≡ false) p xs once.0) (once_without p xs once.1)

flipped : (p : ℕ) (xs : List ℕ) → list_any (nat_eq p) xs ≡ is_one xs p
flipped p [] = refl
flipped p (x ∷ xs) = λ i. nat_eq_equiv.symm p x i || flipped p xs i

pub once_push : (xs : List ℕ) (p : ℕ) → IsDistinct nat_eq xs → is_one xs p ≡ false → IsDistinct nat_eq (xs ++ p ∷ [])
once_push xs p once missing = IsDistinct-push nat_eq_equiv xs p once (flipped p xs ∙ missing)

pub once_none : IsDistinct nat_eq []
unfolding IsDistinct
once_none = tt

-- a page that is not of the list is not missed when it is struck off
pub without_missing : (p : ℕ) (xs : List ℕ) → is_one xs p ≡ false → without p xs ≡ xs
without_missing p [] missing = refl
without_missing p (x ∷ xs) missing = elim (nat_eq x p) as (λ b. (b || is_one xs p) ≡ false → cond (not b) (x ∷ without p xs) (without p xs) ≡ x ∷ xs) [
  | true ↦ λ one. absurd (true≢false one)
  | false ↦ λ one. ap (λ ys. x ∷ ys) (without_missing p xs one)
] missing

-- the last page is struck off
last_missing : (xs : List ℕ) (p : ℕ) → IsDistinct nat_eq (xs ++ p ∷ []) → is_one xs p ≡ false
unfolding IsDistinct
last_missing [] p once = refl
last_missing (x ∷ xs) p once = λ i. first xs once.0 i || last_missing xs p once.1 i
  where
    first : (ys : List ℕ) → AllByRecursion (λ y. nat_eq x y ≡ false) (ys ++ p ∷ []) → nat_eq x p ≡ false
    first [] all = all.0
    first (y ∷ ys) all = first ys all.1

without_last : (xs : List ℕ) (p : ℕ) → is_one xs p ≡ false → without p (xs ++ p ∷ []) ≡ xs
without_last [] p missing = ap (λ b. cond (not b) (p ∷ []) []) (eq-eqb p p refl)
without_last (x ∷ xs) p missing = elim (nat_eq x p) as (λ b. (b || is_one xs p) ≡ false → cond (not b) (x ∷ without p (xs ++ p ∷ [])) (without p (xs ++ p ∷ [])) ≡ x ∷ xs) [
  | true ↦ λ one. absurd (true≢false one)
  | false ↦ λ one. ap (λ ys. x ∷ ys) (without_last xs p one)
] missing

struck_push : (all xs : List ℕ) (p : ℕ) → all ≡ xs ++ p ∷ [] → IsDistinct nat_eq all → (true ≡ is_one all p) × (xs ≡ without p all)
struck_push all xs p is once =
    let missing = last_missing xs p (subst (IsDistinct nat_eq) is once) in (
      sym (ap (λ ys. is_one ys p) is ∙ is_one-push xs p p ∙ or_right (is_one xs p) (nat_eq p p) (eq-eqb p p refl)),
      sym (ap (without p) is ∙ without_last xs p missing),
    )

is_some_page : (last : Option ℕ) (p : ℕ) → option_eq nat_eq last (Some p) ≡ true → last ≡ Some p
is_some_page None p same = absurd (true≢false (sym same))
is_some_page (Some q) p same = ap Some (eqb-true q p same)

pub struck_last : (all xs : List ℕ) (last popped : Option ℕ) (n p : ℕ) → option_eq nat_eq last (Some p) ≡ true → last ≡ slice_get all (length all - 1) → n ≡ length all →
    ((d : ℕ) → 0 < n → popped ≡ Some (get_or all (n - 1) d)) → all ≡ xs ++ option_to_list popped → IsDistinct nat_eq all →
    (true ≡ is_one all p) × (xs ≡ without p all)
struck_last all xs last popped n p same read size took parts once =
    let there : slice_get all (n - 1) ≡ Some p = ap (λ k. slice_get all (k - 1)) size ∙ sym read ∙ is_some_page last p same in
    let some : 0 < n = omega (arith, slice_get_within all (n - 1) p there, size) in
    let is : popped ≡ Some p = took 0 some ∙ ap Some (get_or_from_slice_get all (n - 1) p 0 there) in
    struck_push all xs p (parts ∙ ap (λ r. xs ++ option_to_list r) is) once

-- so many different pages below a number, and one more
once_len : (xs : List ℕ) → IsDistinct nat_eq xs → length xs ≤ len (from_list {R = nat_cmp} xs)
unfolding IsDistinct
once_len [] once = omega arith
once_len (x ∷ xs) once =
    let missing : contains (from_list {R = nat_cmp} xs) x ≡ false = contains-from_list_nat xs x ∙ none xs once.0 in
    let more : len (from_list {R = nat_cmp} (x ∷ xs)) ≡ len (from_list {R = nat_cmp} xs) + 1 =
    len-insert nat_cmp_total (from_list xs) x ∙ ap (λ b. cond b (len (from_list {R = nat_cmp} xs)) (len (from_list {R = nat_cmp} xs) + 1)) missing in
    omega (arith, once_len xs once.1, more)
  where
    none : (ys : List ℕ) → AllByRecursion (λ y. nat_eq x y ≡ false) ys → is_one ys x ≡ false
    none [] all = refl
    none (y ∷ ys) all = λ i. (nat_eq_equiv.symm y x ∙ all.0) i || none ys all.1 i

pub room_for_one : (pages : ℕ) (xs : List ℕ) (p : ℕ) → IsDistinct nat_eq xs → is_one xs p ≡ false → p < pages → ((q : ℕ) → is_one xs q ≡ true → q < pages) → length xs < pages
room_for_one pages xs p once missing within below =
    let all = len_le pages (from_list (xs ++ p ∷ []))
    (λ q there. ⊎_elim (λ old. below q old) (λ new. let e : p ≡ q = eqb-true p q new in omega arith)
    (or_cases (is_one xs q) (nat_eq p q) (sym (is_one-push xs p q) ∙ sym (contains-from_list_nat (xs ++ p ∷ []) q) ∙ there))) in
    omega (arith, once_len (xs ++ p ∷ []) (once_push xs p once missing), all, length_push xs p)

-- ---- what was used before

pub contains-before : (used : FinSet nat_cmp) (taken freed : List ℕ) (q : ℕ) → contains (used_before used taken freed) q ≡ ((contains used q && not (is_one taken q)) || is_one freed q)
contains-before used taken freed q =
    contains-union nat_cmp_total (difference used (from_list taken)) (from_list freed) q
    ∙ (λ i. (contains-difference nat_cmp_total used (from_list taken) q ∙ ap (λ b. contains used q && not b) (contains-from_list_nat taken q)) i || contains-from_list_nat freed q i)

and_true : (b : Bool) → (b && true) ≡ b
and_true true = refl
and_true false = refl

pub before_none : (used : FinSet nat_cmp) → used_before used [] [] ≡ used
before_none used = same_pages (used_before used [] []) used (λ q. contains-before used [] [] q ∙ or_false (contains used q && true) ∙ and_true (contains used q))

pub no_changes : (pages : ℕ) (used : FinSet nat_cmp) → AreChanges pages used [] []
no_changes pages used = record {
  there = λ p none. absurd (true≢false (sym none));
  free = λ p none. absurd (true≢false (sym none));
  within = λ p none. absurd (true≢false (sym none));
  taken_once = once_none;
  freed_once = once_none;
}

-- a page that is not used is not of those that were taken
pub not_taken : {pages : ℕ} {used : FinSet nat_cmp} {taken freed : List ℕ} → AreChanges pages used taken freed → (p : ℕ) → contains used p ≡ false → is_one taken p ≡ false
not_taken {pages} {used} {taken} {freed} are p free =
    ⊎_elim (λ one. absurd (both_ways (contains used p) free (are.there p one))) (λ none. none) (cases_Bool (is_one taken p))

pub not_freed : {pages : ℕ} {used : FinSet nat_cmp} {taken freed : List ℕ} → AreChanges pages used taken freed → (p : ℕ) → contains used p ≡ true → is_one freed p ≡ false
not_freed {pages} {used} {taken} {freed} are p held =
    ⊎_elim (λ one. absurd (both_ways (contains used p) (are.free p one) held)) (λ none. none) (cases_Bool (is_one freed p))

-- the pages that were taken are those that are used and were not
pub taken_is : {pages : ℕ} {used : FinSet nat_cmp} {taken freed : List ℕ} → AreChanges pages used taken freed → from_list taken ≡ difference used (used_before used taken freed)
taken_is {pages} {used} {taken} {freed} are = same_pages (from_list taken) (difference used (used_before used taken freed)) (λ q.
    contains-from_list_nat taken q
    ∙ sym (contains-difference nat_cmp_total used (used_before used taken freed) q ∙ ap (λ b. contains used q && not b) (contains-before used taken freed q)
    ∙ ⊎_elim (λ held. says (contains used q) held (is_one taken q) (is_one freed q) (not_freed are q held))
    (λ free. ap (λ b. b && not ((contains used q && not (is_one taken q)) || is_one freed q)) free ∙ sym (not_taken are q free)) (cases_Bool (contains used q))))
  where
    twice : (t : Bool) → not (not t || false) ≡ t
    twice true = refl
    twice false = refl

    says : (u : Bool) → u ≡ true → (t f : Bool) → f ≡ false → (u && not ((u && not t) || f)) ≡ t
    says u held t f absent = ap (λ b. b && not ((b && not t) || f)) held ∙ ap (λ b. not (not t || b)) absent ∙ twice t

-- and those that became free are those that were used and are not
pub freed_is : {pages : ℕ} {used : FinSet nat_cmp} {taken freed : List ℕ} → AreChanges pages used taken freed → from_list freed ≡ difference (used_before used taken freed) used
freed_is {pages} {used} {taken} {freed} are = same_pages (from_list freed) (difference (used_before used taken freed) used) (λ q.
    contains-from_list_nat freed q
    ∙ sym (contains-difference nat_cmp_total (used_before used taken freed) used q ∙ ap (λ b. b && not (contains used q)) (contains-before used taken freed q)
    ∙ ⊎_elim (λ held. ap (λ b. ((contains used q && not (is_one taken q)) || is_one freed q) && not b) held ∙ and_false _ ∙ sym (not_freed are q held))
    (λ free. ap (λ b. ((b && not (is_one taken q)) || is_one freed q) && not b) free ∙ and_true (is_one freed q)) (cases_Bool (contains used q))))

-- ---- a page that is taken

-- a list with page p, if that is not of another list
abbrev pub listed : List ℕ → List ℕ → ℕ → List ℕ
listed other pages p = if is_one other p then pages else pages ++ p ∷ []

one_listed : (pages : List ℕ) (p q : ℕ) (b : Bool) → is_one (if b then pages else pages ++ p ∷ []) q ≡ (is_one pages q || (not b && nat_eq p q))
one_listed pages p q true = sym (or_false (is_one pages q))
one_listed pages p q false = is_one-push pages p q

once_listed : (pages : List ℕ) (p : ℕ) (b : Bool) → IsDistinct nat_eq pages → is_one pages p ≡ false → IsDistinct nat_eq (if b then pages else pages ++ p ∷ [])
once_listed pages p true once missing = once
once_listed pages p false once missing = once_push pages p once missing

module _ {pages : ℕ} {used : FinSet nat_cmp} {taken freed : List ℕ} (are : AreChanges pages used taken freed) (p : ℕ) (within : p < pages) where
  pub changes_taken : contains used p ≡ false → AreChanges pages (insert used p) (listed freed taken p) (without p freed)
  changes_taken free = record {
    there = λ q one.
        contains-inserted used p q
        ∙ ⊎_elim (λ old. or_right (nat_eq q p) (contains used q) (are.there q old))
        (λ new. or_left (nat_eq q p) (contains used q) (nat_eq_equiv.symm q p ∙ (and_parts (not (is_one freed p)) (nat_eq p q) new).1))
        (or_cases (is_one taken q) (not (is_one freed p) && nat_eq p q) (sym (one_listed taken p q (is_one freed p)) ∙ one));
    free = λ q one.
        let parts = and_parts (not (nat_eq q p)) (is_one freed q) (sym (is_one-without p freed q) ∙ one) in
        contains-inserted used p q ∙ (λ i. not-true (nat_eq q p) parts.0 i || are.free q parts.1 i);
    within = λ q one. are.within q (and_parts (not (nat_eq q p)) (is_one freed q) (sym (is_one-without p freed q) ∙ one)).1;
    taken_once = once_listed taken p (is_one freed p) are.taken_once (not_taken are p free);
    freed_once = once_without p freed are.freed_once;
  }

  same_taken : (u t f : Bool) (b : Bool) → ((u && not (t || (not b && false))) || f) ≡ ((u && not t) || f)
  same_taken u t f true = ap (λ x. (u && not x) || f) (or_false t)
  same_taken u t f false = ap (λ x. (u && not x) || f) (or_false t)

  this_taken : (t f : Bool) → ((true && not (t || (not f && true))) || false) ≡ ((false && not t) || f) ⊎ (t ≡ true)
  this_taken true f = inr refl
  this_taken false true = inl refl
  this_taken false false = inl refl

  pub before_taken : contains used p ≡ false → used_before (insert used p) (listed freed taken p) (without p freed) ≡ used_before used taken freed
  before_taken free = same_pages (used_before (insert used p) (listed freed taken p) (without p freed)) (used_before used taken freed) (λ q.
      contains-before (insert used p) (listed freed taken p) (without p freed) q
      ∙ (λ i. (contains-inserted used p q i && not (one_listed taken p q (is_one freed p) i)) || is_one-without p freed q i)
      ∙ ⊎_elim
      (λ this. subst
      (λ x. (((nat_eq x p || contains used x) && not (is_one taken x || (not (is_one freed p) && nat_eq p x))) || (not (nat_eq x p) && is_one freed x)) ≡ ((contains used x && not (is_one taken x)) || is_one freed x))
      (sym this)
      ((λ i. ((eq-eqb p p refl i || contains used p) && not (is_one taken p || (not (is_one freed p) && eq-eqb p p refl i))) || (not (eq-eqb p p refl i) && is_one freed p))
      ∙ ⊎_elim (λ same. same) (λ taken_now. absurd (both_ways (is_one taken p) (not_taken are p free) taken_now)) (this_taken (is_one taken p) (is_one freed p))
      ∙ ap (λ b. (b && not (is_one taken p)) || is_one freed p) (sym free)))
      (λ other.
      (λ i. ((ne_eqb q p other i || contains used q) && not (is_one taken q || (not (is_one freed p) && ne_eqb p q (λ e. other (sym e)) i))) || (not (ne_eqb q p other i) && is_one freed q))
      ∙ same_taken (contains used q) (is_one taken q) (is_one freed q) (is_one freed p))
      (cases_eq q p)
      ∙ sym (contains-before used taken freed q))

  -- ---- a page that becomes free
  pub changes_freed : contains used p ≡ true → AreChanges pages (remove used p) (without p taken) (listed taken freed p)
  changes_freed held = record {
    there = λ q one.
        let parts = and_parts (not (nat_eq q p)) (is_one taken q) (sym (is_one-without p taken q) ∙ one) in
        contains-removed used p q ∙ (λ i. parts.0 i && are.there q parts.1 i);
    free = λ q one.
        contains-removed used p q
        ∙ ⊎_elim (λ old. ap (λ b. not (nat_eq q p) && b) (are.free q old) ∙ and_false (not (nat_eq q p)))
        (λ new. ap (λ b. not b && contains used q) (nat_eq_equiv.symm q p ∙ (and_parts (not (is_one taken p)) (nat_eq p q) new).1))
        (or_cases (is_one freed q) (not (is_one taken p) && nat_eq p q) (sym (one_listed freed p q (is_one taken p)) ∙ one));
    within = λ q one.
        ⊎_elim (λ old. are.within q old)
        (λ new. let e : p ≡ q = eqb-true p q (and_parts (not (is_one taken p)) (nat_eq p q) new).1 in omega arith)
        (or_cases (is_one freed q) (not (is_one taken p) && nat_eq p q) (sym (one_listed freed p q (is_one taken p)) ∙ one));
    taken_once = once_without p taken are.taken_once;
    freed_once = once_listed freed p (is_one taken p) are.freed_once (not_freed are p held);
  }

  same_freed : (u t f : Bool) (b : Bool) → ((u && not t) || (f || (not b && false))) ≡ ((u && not t) || f)
  same_freed u t f true = ap (λ x. (u && not t) || x) (or_false f)
  same_freed u t f false = ap (λ x. (u && not t) || x) (or_false f)

  this_freed : (u t f : Bool) → ((false && not (false && t)) || (f || (not t && true))) ≡ ((true && not t) || f) ⊎ (f ≡ true)
  this_freed u t true = inr refl
  this_freed u true false = inl refl
  this_freed u false false = inl refl

  pub before_freed : contains used p ≡ true → used_before (remove used p) (without p taken) (listed taken freed p) ≡ used_before used taken freed
  before_freed held = same_pages (used_before (remove used p) (without p taken) (listed taken freed p)) (used_before used taken freed) (λ q.
      contains-before (remove used p) (without p taken) (listed taken freed p) q
      ∙ (λ i. (contains-removed used p q i && not (is_one-without p taken q i)) || one_listed freed p q (is_one taken p) i)
      ∙ ⊎_elim
      (λ this. subst
      (λ x. (((not (nat_eq x p) && contains used x) && not (not (nat_eq x p) && is_one taken x)) || (is_one freed x || (not (is_one taken p) && nat_eq p x))) ≡ ((contains used x && not (is_one taken x)) || is_one freed x))
      (sym this)
      ((λ i. ((not (eq-eqb p p refl i) && contains used p) && not (not (eq-eqb p p refl i) && is_one taken p)) || (is_one freed p || (not (is_one taken p) && eq-eqb p p refl i)))
      ∙ ⊎_elim (λ same. same) (λ freed_now. absurd (both_ways (is_one freed p) (not_freed are p held) freed_now)) (this_freed true (is_one taken p) (is_one freed p))
      ∙ ap (λ b. (b && not (is_one taken p)) || is_one freed p) (sym held)))
      (λ other.
      (λ i. ((not (ne_eqb q p other i) && contains used q) && not (not (ne_eqb q p other i) && is_one taken q)) || (is_one freed q || (not (is_one taken p) && ne_eqb p q (λ e. other (sym e)) i)))
      ∙ same_freed (contains used q) (is_one taken q) (is_one freed q) (is_one taken p))
      (cases_eq q p)
      ∙ sym (contains-before used taken freed q))

-- ---- each page of a list is counted

pub clear_none : (used : FinSet nat_cmp) → difference used (from_list []) ≡ used
clear_none used = same_pages (difference used (from_list [])) used (λ q.
    contains-difference nat_cmp_total used (from_list []) q ∙ ap (λ b. contains used q && not b) (contains-from_list_nat [] q) ∙ and_true (contains used q))

pub set_none : (used : FinSet nat_cmp) → union used (from_list []) ≡ used
set_none used = same_pages (union used (from_list [])) used (λ q.
    contains-union nat_cmp_total used (from_list []) q ∙ ap (λ b. contains used q || b) (contains-from_list_nat [] q) ∙ or_false (contains used q))

clear_one : (u l e : Bool) → (not e && (u && not l)) ≡ (u && not (l || e))
clear_one true true true = refl
clear_one true true false = refl
clear_one true false true = refl
clear_one true false false = refl
clear_one false l true = refl
clear_one false l false = refl

set_one : (u l e : Bool) → (e || (u || l)) ≡ (u || (l || e))
set_one true true true = refl
set_one true true false = refl
set_one true false true = refl
set_one true false false = refl
set_one false true true = refl
set_one false true false = refl
set_one false false true = refl
set_one false false false = refl

module _ (used : FinSet nat_cmp) (xs : List ℕ) (i d : ℕ) (within : i < length xs) where
  pub clear_more : remove (difference used (from_list (take i xs))) (get_or xs i d) ≡ difference used (from_list (take (i + 1) xs))
  clear_more = same_pages (remove (difference used (from_list (take i xs))) (get_or xs i d)) (difference used (from_list (take (i + 1) xs))) (λ q.
      let p = get_or xs i d in
      contains-removed (difference used (from_list (take i xs))) p q
      ∙ ap (λ b. not (nat_eq q p) && b) (contains-difference nat_cmp_total used (from_list (take i xs)) q ∙ ap (λ b. contains used q && not b) (contains-from_list_nat (take i xs) q))
      ∙ clear_one (contains used q) (is_one (take i xs) q) (nat_eq q p)
      ∙ ap (λ b. contains used q && not (is_one (take i xs) q || b)) (nat_eq_equiv.symm q p)
      ∙ sym (contains-difference nat_cmp_total used (from_list (take (i + 1) xs)) q
      ∙ ap (λ b. contains used q && not b) (contains-from_list_nat (take (i + 1) xs) q ∙ ap (λ ys. is_one ys q) (take_more xs i d within) ∙ is_one-push (take i xs) p q)))

  pub set_more : insert (union used (from_list (take i xs))) (get_or xs i d) ≡ union used (from_list (take (i + 1) xs))
  set_more = same_pages (insert (union used (from_list (take i xs))) (get_or xs i d)) (union used (from_list (take (i + 1) xs))) (λ q.
      let p = get_or xs i d in
      contains-inserted (union used (from_list (take i xs))) p q
      ∙ ap (λ b. nat_eq q p || b) (contains-union nat_cmp_total used (from_list (take i xs)) q ∙ ap (λ b. contains used q || b) (contains-from_list_nat (take i xs) q))
      ∙ set_one (contains used q) (is_one (take i xs) q) (nat_eq q p)
      ∙ ap (λ b. contains used q || (is_one (take i xs) q || b)) (nat_eq_equiv.symm q p)
      ∙ sym (contains-union nat_cmp_total used (from_list (take (i + 1) xs)) q
      ∙ ap (λ b. contains used q || b) (contains-from_list_nat (take (i + 1) xs) q ∙ ap (λ ys. is_one ys q) (take_more xs i d within) ∙ is_one-push (take i xs) p q)))

pub one_at : (xs : List ℕ) (i d : ℕ) → i < length xs → is_one xs (get_or xs i d) ≡ true
one_at [] i d within = absurd (omega arith)
one_at (x ∷ xs) zero d within = or_left (nat_eq x x) (is_one xs x) (eq-eqb x x refl)
one_at (x ∷ xs) (suc i) d within = or_right (nat_eq x (get_or xs i d)) (is_one xs (get_or xs i d)) (one_at xs i d (omega arith))
