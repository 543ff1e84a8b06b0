-- Sums over the values of a map.
use Rattle.std.proofs.Common.{◌≡◌, ◌∙◌, ℕ, zero, suc, ◌+◌, ◌-◌, Bool, true, false, cond, not, List, [], ◌∷◌, length, map as map_each, IsTrue, Option, Some, None, refl, sym, ap, arith, true≢false}
use Rattle.std.proofs.lemmas.List.Sums.{sum_by-cons}
use Rattle.std.specs.List.{sum_by}
use Rattle.std.specs.Option.{is_some, option_map, option_map_or}
use Rattle.std.specs.declared.cmp.Ordering.{Ordering}
use Rattle.std.specs.declared.cmp.Ordering.TheVariants.{Less, Equal, Greater}
use Rattle.std.specs.Ordering.{eq_by_cmp, is_eq, is_lt}
use Rattle.std.specs.Cmp.{Equal-is, IsTotalOrder, first_so, second_so}
use Rattle.std.specs.FinMap as map
use Rattle.std.specs.FinMap.Entries.{below_all, find, is_sorted, where_key}
use Rattle.fileset_model.proofs.MoveLemmas.{sorted_entries}
use Rattle.legal_histories.proofs.ValidCountLemmas.{entries-remove, found_first}

module _ {K X : Type 0} {R : K → K → Ordering} (o : IsTotalOrder R) (a : map.IsAntisymmetric R) (f : X → ℕ) where
  below-none : (q : K) (es : List (K × X)) → below_all R q es ≡ true → find R q es ≡ None
  below-none q [] h = refl
  below-none q (e ∷ es) h =
      let rest = below-none q es (second_so _ _ h) in
      elim (R q e.0) as (λ r. is_lt r ≡ true → cond (is_eq r) (Some e.1) (find R q es) ≡ None) [
        | Less ↦ λ less. rest
        | Equal ↦ λ less. absurd (true≢false (sym less))
        | Greater ↦ λ less. absurd (true≢false (sym less))
      ] (first_so _ _ h)

  abbrev total : List (K × X) → ℕ
  total es = sum_by f (map_each (λ e. e.1) es)

  total-cons : (e : K × X) (es : List (K × X)) → total (e ∷ es) ≡ f e.1 + total es
  total-cons e es = sum_by-cons f e.1 (map_each (λ e. e.1) es)

  abbrev others : K → List (K × X) → List (K × X)
  others k es = where_key R (λ x. not (eq_by_cmp R k x)) es

  others-total : (k : K) (es : List (K × X)) → IsTrue (is_sorted R es) → total (others k es) + option_map_or f (find R k es) 0 ≡ total es
  others-total k [] h = refl
  others-total k (e ∷ es) h =
      let rest : total (others k es) + option_map_or f (find R k es) 0 ≡ total es = others-total k es (second_so (below_all R e.0 es) (is_sorted R es) h) in
      let all = total-cons e es in
      elim (eq_by_cmp R k e.0) as (λ b. eq_by_cmp R k e.0 ≡ b → total (cond (not b) (e ∷ others k es) (others k es)) + option_map_or f (cond b (Some e.1) (find R k es)) 0 ≡ total (e ∷ es)) [
        | true ↦ λ t.
            let none : find R k es ≡ None = ap (λ q. find R q es) (a k e.0 ((Equal-is (R k e.0)).0 t)) ∙ below-none e.0 es (first_so _ _ h) in
            let alone : option_map_or f (find R k es) 0 ≡ 0 = ap (λ x. option_map_or f x 0) none in
            omega (arith, rest, all, alone)
        | false ↦ λ t. let kept = total-cons e (others k es) in omega (arith, rest, all, kept)
      ] refl

  -- all but the value at a key, and that
  pub taken_out : (m : map.FinMap R X) (k : K) → sum_by f (map.values (map.remove m k)) + option_map_or f (map.get m k) 0 ≡ sum_by f (map.values m)
  taken_out m k =
      let less = ap total (entries-remove o a m k) in
      let at = ap (λ x. option_map_or f x 0) (map.get-entries m k) in
      let rest = others-total k (map.entries m) (sorted_entries m) in
      omega (arith, less, at, rest)

  -- ---- maps whose values count the same, key by key

  by_default : (x : Option X) → option_map_or f x 0 ≡ option_map_or (λ (n : ℕ). n) (option_map f x) 0
  by_default None = refl
  by_default (Some v) = refl

  none_there : (x : Option X) → option_map f x ≡ None → x ≡ None
  none_there None is = refl
  none_there (Some v) is = absurd (cc)

  some_there : (x : Option X) (v : ℕ) → option_map f x ≡ Some v → is_some x ≡ true
  some_there None v is = absurd (cc)
  some_there (Some w) v is = refl

  one_less : (m : map.FinMap R X) (k : K) (n : ℕ) → is_some (map.get m k) ≡ true → map.len m ≡ suc n → map.len (map.remove m k) ≡ n
  one_less m k n there many =
      let removed : map.len (map.remove m k) ≡ map.len m - 1 = map.len-remove o m k ∙ ap (λ b. cond b (map.len m - 1) (map.len m)) there in
      omega (arith, removed, many)

  alike_less : (x y : map.FinMap R X) (k q : K) → option_map f (map.get x q) ≡ option_map f (map.get y q) → option_map f (map.get (map.remove x k) q) ≡ option_map f (map.get (map.remove y k) q)
  alike_less x y k q alike = ap (option_map f) (map.get-remove o x k q) ∙ by_test (eq_by_cmp R q k) ∙ ap (option_map f) (sym (map.get-remove o y k q))
    where
      by_test : (b : Bool) → option_map f (cond b None (map.get x q)) ≡ option_map f (cond b None (map.get y q))
      by_test true = refl
      by_test false = alike

  -- the same holds of all that have n values
  abbrev AreSame : ℕ → Type 0
  AreSame n = (x y : map.FinMap R X) → map.len x ≡ n → ((q : K) → option_map f (map.get x q) ≡ option_map f (map.get y q)) → sum_by f (map.values x) ≡ sum_by f (map.values y)

  pub same_sums : (n : ℕ) (x y : map.FinMap R X) → map.len x ≡ n → ((q : K) → option_map f (map.get x q) ≡ option_map f (map.get y q)) → sum_by f (map.values x) ≡ sum_by f (map.values y)
  same_sums zero x y many alike =
      let none : x ≡ map.empty = map.empty_of_len x many in
      let nothing : y ≡ map.empty = map.same_map o a y map.empty (λ q.
      none_there (map.get y q) (sym (alike q) ∙ ap (λ (m : map.FinMap R X). option_map f (map.get m q)) none ∙ ap (option_map f) (map.get-empty R q)) ∙ sym (map.get-empty R q)) in
      ap (λ (m : map.FinMap R X). sum_by f (map.values m)) (none ∙ sym nothing)
  same_sums (suc n) x y many alike = by_entries (same_sums n) (map.entries x) refl
    where
      by_entries : AreSame n → (es : List (K × X)) → map.entries x ≡ es → sum_by f (map.values x) ≡ sum_by f (map.values y)
      by_entries fewer [] is = let short = map.len-entries x ∙ ap length is in absurd (omega (arith, short, many))
      by_entries fewer (e ∷ es) is =
          let at : map.get x e.0 ≡ Some e.1 = map.get-entries x e.0 ∙ ap (find R e.0) is ∙ found_first o a e es in
          let rest = fewer (map.remove x e.0) (map.remove y e.0) (one_less x e.0 n (ap is_some at) many) (λ q. alike_less x y e.0 q (alike q)) in
          let same : option_map_or f (map.get x e.0) 0 ≡ option_map_or f (map.get y e.0) 0 =
          by_default (map.get x e.0) ∙ ap (λ (v : Option ℕ). option_map_or (λ (n : ℕ). n) v 0) (alike e.0) ∙ sym (by_default (map.get y e.0)) in
          let one = taken_out x e.0 in
          let two = taken_out y e.0 in
          omega (arith, rest, same, one, two)
