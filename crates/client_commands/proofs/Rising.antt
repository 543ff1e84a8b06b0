-- Numbers in rising order: a list of them is told by which it has.
use Rattle.std.proofs.Common.{◌≡◌, ◌⊎◌, ◌+◌, ◌<◌, ◌&&◌, ◌||◌, ◌==◌, ◌++◌, ℕ, Bool, true, false, nat_lt, List, [], ◌∷◌, map, inl, inr, refl, sym, ap, subst, arith, ⊎_elim, true≢false, ltb-true, eqb-true}
use Rattle.std.proofs.lemmas.Bool.Decides.{nat_tests}
use Rattle.std.specs.List.{list_any}
use Rattle.std.specs.Ordering.{eq_by_cmp, is_lt, nat_cmp}
use Rattle.std.specs.FinMap as maps
use Rattle.std.specs.FinMap.Entries.{below_all, is_sorted}
use Rattle.file_commands.proofs.OfFilesetModel.MoveLemmas.{sorted_entries}

abbrev pub Rises : ℕ → List ℕ → Type 0
Rises b [] = Unit {0}
Rises b (x ∷ xs) = (b < x) × Rises x xs

abbrev pub has : ℕ → List ℕ → Bool
has q xs = list_any (eq_by_cmp nat_cmp q) xs

-- ---- whether one of them is the number

tied : (n : ℕ) → eq_by_cmp nat_cmp n n ≡ true
tied n =
    let not_less : nat_lt n n ≡ false = grind (arith, nat_tests) in
    let same : (n == n) ≡ true = grind (arith, nat_tests) in
    rw (not_less, same)

same_if : (q x : ℕ) → eq_by_cmp nat_cmp q x ≡ true → q ≡ x
same_if q x is = by_tests (nat_lt q x) (q == x) refl refl
  where
    by_tests : (less same : Bool) → nat_lt q x ≡ less → (q == x) ≡ same → q ≡ x
    by_tests less true a b = eqb-true q x b
    by_tests true false a b = let e : false ≡ true = rw a at is in absurd (cc)
    by_tests false false a b = let e : false ≡ true = rw (a, b) at is in absurd (cc)

or_cases : (a b : Bool) → (a || b) ≡ true → (a ≡ true) ⊎ (b ≡ true)
or_cases true b is = inl refl
or_cases false b is = inr is

or_later : (a b : Bool) → b ≡ true → (a || b) ≡ true
or_later true b is = refl
or_later false b is = is

pub has_first : (x : ℕ) (xs : List ℕ) → has x (x ∷ xs) ≡ true
has_first x xs = ap (λ b. b || has x xs) (tied x)

pub has_later : (q x : ℕ) (xs : List ℕ) → has q xs ≡ true → has q (x ∷ xs) ≡ true
has_later q x xs is = or_later (eq_by_cmp nat_cmp q x) (has q xs) is

pub has_cases : (q x : ℕ) (xs : List ℕ) → has q (x ∷ xs) ≡ true → (q ≡ x) ⊎ (has q xs ≡ true)
has_cases q x xs is = ⊎_elim (λ here. inl (same_if q x here)) (λ later. inr later) (or_cases (eq_by_cmp nat_cmp q x) (has q xs) is)

-- ---- one more at the end

pub has_pushed : (q y : ℕ) (xs : List ℕ) → has q (xs ++ y ∷ []) ≡ true → (has q xs ≡ true) ⊎ (q ≡ y)
has_pushed q y [] is = ⊎_elim (λ here. inr here) (λ later. absurd (true≢false (sym later))) (has_cases q y [] is)
has_pushed q y (x ∷ xs) is = ⊎_elim
    (λ here. inl (subst (λ n. has q (n ∷ xs) ≡ true) here (has_first q xs)))
    (λ later. ⊎_elim (λ in_rest. inl (has_later q x xs in_rest)) (λ last. inr last) (has_pushed q y xs later))
    (has_cases q x (xs ++ y ∷ []) is)

pub has_last : (y : ℕ) (xs : List ℕ) → has y (xs ++ y ∷ []) ≡ true
has_last y [] = has_first y []
has_last y (x ∷ xs) = has_later y x (xs ++ y ∷ []) (has_last y xs)

pub has_still : (q y : ℕ) (xs : List ℕ) → has q xs ≡ true → has q (xs ++ y ∷ []) ≡ true
has_still q y [] is = absurd (true≢false (sym is))
has_still q y (x ∷ xs) is = ⊎_elim
    (λ here. subst (λ n. has q (n ∷ (xs ++ y ∷ [])) ≡ true) here (has_first q (xs ++ y ∷ [])))
    (λ later. has_later q x (xs ++ y ∷ []) (has_still q y xs later))
    (has_cases q x xs is)

pub rises_pushed : (b y : ℕ) (xs : List ℕ) → Rises b xs → b < y → ((q : ℕ) → has q xs ≡ true → q < y) → Rises b (xs ++ y ∷ [])
rises_pushed b y [] rises low high = (low, tt)
rises_pushed b y (x ∷ xs) rises low high = (rises.0, rises_pushed x y xs rises.1 (high x (has_first x xs)) (λ q is. high q (has_later q x xs is)))

-- ---- lists that have the same

above : (b : ℕ) (xs : List ℕ) → Rises b xs → (q : ℕ) → has q xs ≡ true → b < q
above b [] rises q is = absurd (true≢false (sym is))
above b (x ∷ xs) rises q is = ⊎_elim
    (λ here. omega (arith, here, rises.0))
    (λ later. let more = above x xs rises.1 q later in omega (arith, more, rises.0))
    (has_cases q x xs is)

pub one_list : (b : ℕ) (xs ys : List ℕ) → Rises b xs → Rises b ys → ((q : ℕ) → has q xs ≡ true → has q ys ≡ true) → ((q : ℕ) → has q ys ≡ true → has q xs ≡ true) → xs ≡ ys
one_list b [] [] one other there back = refl
one_list b [] (y ∷ ys) one other there back = absurd (true≢false (sym (back y (has_first y ys))))
one_list b (x ∷ xs) [] one other there back = absurd (true≢false (sym (there x (has_first x xs))))
one_list b (x ∷ xs) (y ∷ ys) one other there back =
    let first : x ≡ y = same_first in
    (λ i. first i ∷ one_list x xs ys one.1 (subst (λ n. Rises n ys) (sym first) other.1) (later x y xs ys first one.1 there) (later y x ys xs (sym first) other.1 back) i)
  where
    same_first : x ≡ y
    same_first = ⊎_elim
        (λ here. here)
        (λ behind. ⊎_elim
        (λ here. sym here)
        (λ behind_too.
        let a = above y ys other.1 x behind in
        let c = above x xs one.1 y behind_too in
        absurd (omega (arith, a, c)))
        (has_cases y x xs (back y (has_first y ys))))
        (has_cases x y ys (there x (has_first x xs)))

    later : (u v : ℕ) (us vs : List ℕ) → u ≡ v → Rises u us → ((q : ℕ) → has q (u ∷ us) ≡ true → has q (v ∷ vs) ≡ true) → (q : ℕ) → has q us ≡ true → has q vs ≡ true
    later u v us vs same rises to q is = ⊎_elim
        (λ here. let more = above u us rises q is in absurd (omega (arith, here, same, more)))
        (λ rest. rest)
        (has_cases q v vs (to q (has_later q u us is)))

-- ---- the keys of a map

both : (a b : Bool) → (a && b) ≡ true → (a ≡ true) × (b ≡ true)
both true true is = (refl, refl)
both true false is = absurd (true≢false (sym is))
both false b is = absurd (true≢false (sym is))

less_if : (k x : ℕ) → is_lt (nat_cmp k x) ≡ true → k < x
less_if k x is = by_tests (nat_lt k x) (k == x) refl refl
  where
    by_tests : (less same : Bool) → nat_lt k x ≡ less → (k == x) ≡ same → k < x
    by_tests true same a b = ltb-true k x a
    by_tests false true a b = let e : false ≡ true = rw (a, b) at is in absurd (cc)
    by_tests false false a b = let e : false ≡ true = rw (a, b) at is in absurd (cc)

module _ {X : Type 0} where
  below : (k : ℕ) (es : List (ℕ × X)) → below_all nat_cmp k es ≡ true → (q : ℕ) → has q (map (λ (e : ℕ × X). e.0) es) ≡ true → k < q
  below k [] all q is = absurd (true≢false (sym is))
  below k (e ∷ es) all q is =
      let t = both (is_lt (nat_cmp k e.0)) (below_all nat_cmp k es) all in
      let less = less_if k e.0 t.0 in
      ⊎_elim (λ here. omega (arith, here, less)) (λ later. below k es t.1 q later) (has_cases q e.0 (map (λ (x : ℕ × X). x.0) es) is)

  sorted_rise : (b : ℕ) (es : List (ℕ × X)) → is_sorted nat_cmp es ≡ true → ((q : ℕ) → has q (map (λ (e : ℕ × X). e.0) es) ≡ true → b < q) → Rises b (map (λ (e : ℕ × X). e.0) es)
  sorted_rise b [] sorted low = tt
  sorted_rise b (e ∷ es) sorted low =
      let t = both (below_all nat_cmp e.0 es) (is_sorted nat_cmp es) sorted in
      (low e.0 (has_first e.0 (map (λ (x : ℕ × X). x.0) es)), sorted_rise e.0 es t.1 (below e.0 es t.0))

  pub keys_rise : (b : ℕ) (m : maps.FinMap nat_cmp X) → ((q : ℕ) → has q (maps.keys m) ≡ true → b < q) → Rises b (maps.keys m)
  keys_rise b m low = sorted_rise b (maps.entries m) (sorted_entries m) low
