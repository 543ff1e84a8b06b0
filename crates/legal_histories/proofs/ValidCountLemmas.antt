-- How many paths lead to a number, and which.
use Rattle.std.proofs.Common.{◌≡◌, ◌≢◌, ℕ, ◌+◌, ◌<◌, ◌≤◌, ◌==◌, ◌&&◌, ◌||◌, not, Bool, true, false, cond, count_by, List, [], ◌∷◌, map as map_each, IsTrue, Some, None, refl, sym, ap, subst, ◌∙◌, true≢false, eqb-true, arith}
use Rattle.std.proofs.lemmas.Option.{none-some}
use Rattle.std.proofs.lemmas.List.Sums.{sum_by-cons}
use Rattle.std.specs.declared.cmp.Ordering.{Ordering}
use Rattle.std.specs.declared.cmp.Ordering.TheVariants.{Less, Equal, Greater}
use Rattle.std.specs.Ordering.{eq_by_cmp, is_eq, is_lt}
use Rattle.std.specs.Cmp.{Equal-is, IsTotalOrder, first_so, second_so, tied_itself}
use Rattle.std.specs.Cmp.Lexicographic.{lists_ties, texts_ties}
use Rattle.std.specs.FinMap as map
use Rattle.std.specs.FinMap.Entries.{below_all, by_order, find, is_sorted, put, where_key}
use Rattle.fileset_model.specs.fileset_values.Orders.{Path, name_cmp, path_cmp, path_cmp-total, path_cmp-IsAntisymmetric}
use Rattle.fileset_model.specs.Fileset.{Fileset}
use Rattle.fileset_model.specs.Paths.{same_path}
use Rattle.fileset_model.specs.Apply.{is_named_elsewhere}
use Rattle.fileset_model.proofs.ChangeLemmas.{named_elsewhere, remove-from_sorted}
use Rattle.fileset_model.proofs.OfSortedSets.EntryLemmas.{entries-from_sorted, is_sorted_where}
use Rattle.fileset_model.proofs.MoveLemmas.{entries-empty, from_sorted-entries, sorted_entries}
use Rattle.legal_histories.proofs.ValidLemmas.{some_inj}

-- ---- what is found in entries in their order

module _ {K X : Type 0} {R : K → K → Ordering} (o : IsTotalOrder R) (a : map.IsAntisymmetric R) where
  below-none : (q : K) (es : List (K × X)) → below_all R q es ≡ true → find R q es ≡ None
  below-none q [] h = refl
  below-none q (e ∷ es) h =
      let rest = below-none q es (second_so _ _ h) in
      elim (R q e.0) as (λ r. is_lt r ≡ true → cond (is_eq r) (Some e.1) (find R q es) ≡ None) [
        | Less ↦ λ less. rest
        | Equal ↦ λ less. absurd (true≢false (sym less))
        | Greater ↦ λ less. absurd (true≢false (sym less))
      ] (first_so _ _ h)

  -- what is found after an entry is found from it on
  pub found_later : (e : K × X) (es : List (K × X)) (q : K) (v : X) → IsTrue (is_sorted R (e ∷ es)) → find R q es ≡ Some v → find R q (e ∷ es) ≡ Some v
  found_later e es q v h found =
      elim (eq_by_cmp R q e.0) as (λ b. eq_by_cmp R q e.0 ≡ b → cond b (Some e.1) (find R q es) ≡ Some v) [
        | true ↦ λ t.
            let none : find R q es ≡ None = ap (λ k. find R k es) (a q e.0 ((Equal-is (R q e.0)).0 t)) ∙ below-none e.0 es (first_so _ _ h) in
            absurd (none-some v (sym none ∙ found))
        | false ↦ λ t. found
      ] refl

  pub found_first : (e : K × X) (es : List (K × X)) → find R e.0 (e ∷ es) ≡ Some e.1
  found_first e es = ap (λ r. cond (is_eq r) (Some e.1) (find R e.0 es)) (tied_itself o e.0)

  pub entries-remove : (m : map.FinMap R X) (k : K) → map.entries (map.remove m k) ≡ where_key R (λ x. not (eq_by_cmp R k x)) (map.entries m)
  entries-remove m k =
      let es = map.entries m in
      ap map.entries (ap (λ n. map.remove n k) (sym (from_sorted-entries m)) ∙ sym (remove-from_sorted o a k es (sorted_entries m)))
      ∙ entries-from_sorted R _ (is_sorted_where R (λ x. not (eq_by_cmp R k x)) es (sorted_entries m))

-- ---- how many entries have a value

abbrev pub count_of : {K : Type 0} → ℕ → List (K × ℕ) → ℕ
count_of k es = count_by (λ e. e.1 == k) es

-- the same, entry by entry
abbrev tally : {K : Type 0} → ℕ → List (K × ℕ) → ℕ
tally k [] = 0
tally k (e ∷ es) = cond (e.1 == k) 1 0 + tally k es

is_tally : {K : Type 0} (k : ℕ) (es : List (K × ℕ)) → count_of k es ≡ tally k es
is_tally k [] = refl
is_tally k (e ∷ es) = sum_by-cons (λ x. cond (x.1 == k) 1 0) e es ∙ ap (λ n. cond (e.1 == k) 1 0 + n) (is_tally k es)

module _ {K : Type 0} (R : K → K → Ordering) (k : ℕ) where
  tally-put : (key : K) (v : ℕ) (es : List (K × ℕ)) → tally k (put R key v es) ≤ tally k es + cond (v == k) 1 0
  tally-put key v [] = omega arith
  tally-put key v (e ∷ es) =
      let rest = tally-put key v es in
      let here : ℕ = cond (e.1 == k) 1 0 in
      let new : ℕ = cond (v == k) 1 0 in
      let before : new + (here + tally k es) ≤ (here + tally k es) + new = omega arith in
      let in_place : new + tally k es ≤ (here + tally k es) + new = omega arith in
      let behind : here + tally k (put R key v es) ≤ (here + tally k es) + new = omega (arith, rest) in
      elim (R key e.0) as (λ r. tally k (by_order r ((key, v) ∷ e ∷ es) ((e.0, v) ∷ es) (e ∷ put R key v es)) ≤ (here + tally k es) + new) [
        | Less ↦ before
        | Equal ↦ in_place
        | Greater ↦ behind
      ]

  tally-where : (p : K → Bool) (es : List (K × ℕ)) → tally k (where_key R p es) ≤ tally k es
  tally-where p [] = omega arith
  tally-where p (e ∷ es) =
      let rest = tally-where p es in
      let here : ℕ = cond (e.1 == k) 1 0 in
      let kept : here + tally k (where_key R p es) ≤ here + tally k es = omega (arith, rest) in
      let gone : tally k (where_key R p es) ≤ here + tally k es = omega (arith, rest) in
      elim (p e.0) as (λ b. tally k (cond b (e ∷ where_key R p es) (where_key R p es)) ≤ here + tally k es) [
        | true ↦ kept
        | false ↦ gone
      ]

module _ {K : Type 0} {R : K → K → Ordering} (o : IsTotalOrder R) (a : map.IsAntisymmetric R) where
  tally-none : (k : ℕ) (es : List (K × ℕ)) → IsTrue (is_sorted R es) → ((q : K) → find R q es ≢ Some k) → tally k es ≡ 0
  tally-none k [] sorted none = refl
  tally-none k (e ∷ es) sorted none =
      let rest = tally-none k es (second_so _ _ sorted) (λ q found. none q (found_later o a e es q k sorted found)) in
      elim (e.1 == k) as (λ b. (e.1 == k) ≡ b → cond b 1 0 + tally k es ≡ 0) [
        | true ↦ λ t. absurd (none e.0 (found_first o a e es ∙ ap Some (eqb-true e.1 k t)))
        | false ↦ λ t. ap (λ n. 0 + n) rest
      ] refl

  -- entries that get other keys are no more than before
  tally-rekeyed : (k : ℕ) (h : K → K) (es : List (K × ℕ)) → tally k (map.entries (map.from_entries {R = R} (map_each (λ e. (h e.0, e.1)) es))) ≤ tally k es
  tally-rekeyed k h [] = subst (λ (l : List (K × ℕ)). tally k l ≤ 0) (sym (entries-empty R)) (omega arith)
  tally-rekeyed k h (e ∷ es) =
      let rest = tally-rekeyed k h es in
      let m = map.from_entries {R = R} (map_each (λ e. (h e.0, e.1)) es) in
      let one = tally-put R k (h e.0) e.1 (map.entries m) in
      subst (λ (l : List (K × ℕ)). tally k l ≤ cond (e.1 == k) 1 0 + tally k es) (sym (map.entries-insert o m (h e.0) e.1)) (omega (arith, rest, one))

-- ---- the same of paths

pub no_paths : (m : map.FinMap path_cmp ℕ) (k : ℕ) → ((q : Path) → map.get m q ≢ Some k) → count_of k (map.entries m) ≡ 0
no_paths m k none = is_tally k (map.entries m) ∙ tally-none path_cmp-total path_cmp-IsAntisymmetric k (map.entries m) (sorted_entries m) (λ q found. none q (map.get-entries m q ∙ found))

one_or_none : (v k n most : ℕ) → n ≤ most → (v ≡ k → n < most) → n + cond (v == k) 1 0 ≤ most
one_or_none v k n most h few = elim (v == k) as (λ b. (v == k) ≡ b → n + cond b 1 0 ≤ most) [
  | true ↦ λ t. let less = few (eqb-true v k t) in omega (arith, less)
  | false ↦ λ t. omega (arith, h)
] refl

pub count-insert : (m : map.FinMap path_cmp ℕ) (path : Path) (v k most : ℕ) → count_of k (map.entries m) ≤ most → count_of v (map.entries m) < most
    → count_of k (map.entries (map.insert m path v)) ≤ most
count-insert m path v k most h few =
    let es = map.entries m in
    let one = tally-put path_cmp k path v es in
    let bound = one_or_none v k (count_of k es) most h (λ same. subst (λ n. count_of n es < most) same few) in
    subst (λ (l : List (Path × ℕ)). count_of k l ≤ most) (sym (map.entries-insert path_cmp-total m path v)) (omega (arith, one, bound, is_tally k es, is_tally k (put path_cmp path v es)))

pub one_more_path : (m : map.FinMap path_cmp ℕ) (path : Path) (v k : ℕ) → count_of k (map.entries m) ≤ 1000 → count_of v (map.entries m) ≡ 0
    → count_of k (map.entries (map.insert m path v)) ≤ 1000
one_more_path m path v k h none = count-insert m path v k 1000 h (subst (λ n. n < 1000) (sym none) (omega arith))

pub count-remove : (m : map.FinMap path_cmp ℕ) (path : Path) (k most : ℕ) → count_of k (map.entries m) ≤ most → count_of k (map.entries (map.remove m path)) ≤ most
count-remove m path k most h =
    let es = map.entries m in
    let left = where_key path_cmp (λ x. not (eq_by_cmp path_cmp path x)) es in
    let fewer = tally-where path_cmp k (λ x. not (eq_by_cmp path_cmp path x)) es in
    subst (λ (l : List (Path × ℕ)). count_of k l ≤ most) (sym (entries-remove path_cmp-total path_cmp-IsAntisymmetric m path)) (omega (arith, fewer, h, is_tally k es, is_tally k left))

-- paths that become others are no more than before
pub count-rekeyed : (k : ℕ) (h : Path → Path) (es : List (Path × ℕ)) → count_of k (map.entries (map.from_entries {R = path_cmp} (map_each (λ e. (h e.0, e.1)) es))) ≤ count_of k es
count-rekeyed k h es =
    let new = map.entries (map.from_entries {R = path_cmp} (map_each (λ (e : Path × ℕ). (h e.0, e.1)) es)) in
    let fewer = tally-rekeyed path_cmp-total path_cmp-IsAntisymmetric k h es in
    omega (arith, fewer, is_tally k es, is_tally k new)

-- ---- another path to a number

is_same_path : (p q : Path) → same_path p q ≡ eq_by_cmp path_cmp p q
is_same_path p q = lists_ties name_cmp texts_ties p q

same_of : (p q : Path) → same_path p q ≡ true → p ≡ q
same_of p q h = path_cmp-IsAntisymmetric p q ((Equal-is (path_cmp p q)).0 (sym (is_same_path p q) ∙ h))

differ_of : (p q : Path) → same_path p q ≡ false → p ≢ q
differ_of p q h e = true≢false (sym (is_same_path p q ∙ ap (eq_by_cmp path_cmp p) (sym e) ∙ ap is_eq (tied_itself path_cmp-total p)) ∙ h)

other_found : (path : Path) (number : ℕ) (es : List (Path × ℕ)) (q : Path) → find path_cmp q es ≡ Some number → q ≢ path → named_elsewhere path number es ≡ true
other_found path number [] q found apart = absurd (none-some number found)
other_found path number (e ∷ es) q found apart =
    elim (eq_by_cmp path_cmp q e.0) as (λ b. eq_by_cmp path_cmp q e.0 ≡ b → cond b (Some e.1) (find path_cmp q es) ≡ Some number
    → ((e.1 == number && not (same_path e.0 path)) || named_elsewhere path number es) ≡ true) [
      | true ↦ λ t is.
          let key : q ≡ e.0 = path_cmp-IsAntisymmetric q e.0 ((Equal-is (path_cmp q e.0)).0 t) in
          let value : (e.1 == number) ≡ true = ap (λ n. n == number) (some_inj is) ∙ same_number number in
          elim (same_path e.0 path) as (λ b. same_path e.0 path ≡ b → ((e.1 == number && not b) || named_elsewhere path number es) ≡ true) [
            | true ↦ λ same. absurd (apart (key ∙ same_of e.0 path same))
            | false ↦ λ other. ap (λ b. (b && true) || named_elsewhere path number es) value
          ] refl
      | false ↦ λ t is. or_true (e.1 == number && not (same_path e.0 path)) _ (other_found path number es q is apart)
    ] refl found
  where
    same_number : (n : ℕ) → (n == n) ≡ true
    same_number n = grind arith

    or_true : (b c : Bool) → c ≡ true → (b || c) ≡ true
    or_true true c h = refl
    or_true false c h = h

pub another_path : (tree : Fileset) (path : Path) (number : ℕ) (q : Path) → map.get tree.paths q ≡ Some number → q ≢ path → is_named_elsewhere tree path number ≡ true
another_path tree path number q at_q apart = other_found path number (map.entries tree.paths) q (sym (map.get-entries tree.paths q) ∙ at_q) apart

found_other : (path : Path) (number : ℕ) (es : List (Path × ℕ)) → IsTrue (is_sorted path_cmp es) → named_elsewhere path number es ≡ true
    → (q : Path) × (q ≢ path) × (find path_cmp q es ≡ Some number)
found_other path number [] sorted h = absurd (true≢false (sym h))
found_other path number (e ∷ es) sorted h =
    let rest = found_other path number es (second_so _ _ sorted) in
    let later : named_elsewhere path number es ≡ true → (q : Path) × (q ≢ path) × (find path_cmp q (e ∷ es) ≡ Some number) =
    λ any. let there = rest any in (there.0, there.1, found_later path_cmp-total path_cmp-IsAntisymmetric e es there.0 number sorted there.2) in
    elim (e.1 == number) as (λ b. (e.1 == number) ≡ b → ((b && not (same_path e.0 path)) || named_elsewhere path number es) ≡ true
    → (q : Path) × (q ≢ path) × (find path_cmp q (e ∷ es) ≡ Some number)) [
      | true ↦ λ value any.
          elim (same_path e.0 path) as (λ b. same_path e.0 path ≡ b → (not b || named_elsewhere path number es) ≡ true → (q : Path) × (q ≢ path) × (find path_cmp q (e ∷ es) ≡ Some number)) [
            | true ↦ λ same any. later any
            | false ↦ λ other any. (e.0, differ_of e.0 path other, found_first path_cmp-total path_cmp-IsAntisymmetric e es ∙ ap Some (eqb-true e.1 number value))
          ] refl any
      | false ↦ λ value any. later any
    ] refl h

pub named_by : (tree : Fileset) (path : Path) (number : ℕ) → is_named_elsewhere tree path number ≡ true → (q : Path) × (q ≢ path) × (map.get tree.paths q ≡ Some number)
named_by tree path number h =
    let there = found_other path number (map.entries tree.paths) (sorted_entries tree.paths) h in
    (there.0, there.1, map.get-entries tree.paths there.0 ∙ there.2)
