-- A sum over entries in the order of their numbers, with one of them changed.
use Rattle.std.proofs.Common.{◌≡◌, ◌∙◌, ℕ, ◌+◌, Bool, true, false, not, cond, ◌&&◌, List, [], ◌∷◌, Option, Some, None, refl, ap, T, arith}
use Rattle.std.specs.declared.cmp.Ordering.{Ordering}
use Rattle.std.specs.declared.cmp.Ordering.TheVariants.{Less, Equal, Greater}
use Rattle.std.specs.Ordering.{eq_by_cmp, is_eq, is_lt, nat_cmp}
use Rattle.std.specs.Option.{option_map_or}
use Rattle.std.specs.Cmp.{nat_cmp_total}
use Rattle.std.specs.FinMap.{nat_cmp-IsAntisymmetric}
use Rattle.std.specs.FinMap.Entries.{below_all, by_order, find, is_sorted, put}
use Rattle.fileset_model.proofs.OfSortedSets.Removal.{none_above, others, others-none}

first : (a b : Bool) → T (a && b) → T a
first true b p = tt
first false b p = p

second : (a b : Bool) → T (a && b) → T b
second true b p = p
second false b p = absurd p

less : (r : Ordering) → T (is_lt r) → r ≡ Less
less Less p = refl
less Equal p = absurd p
less Greater p = absurd p

is_equal : (r : Ordering) → is_eq r ≡ true → r ≡ Equal
is_equal Less is = absurd (cc)
is_equal Equal is = refl
is_equal Greater is = absurd (cc)

none_from_less : {X : Type 0} (key x : ℕ) (es : List (ℕ × X)) → nat_cmp key x ≡ Less → T (below_all nat_cmp x es) → find nat_cmp key es ≡ None
none_from_less key x [] before below = refl
none_from_less key x (e ∷ es) before below =
    let apart : nat_cmp key e.0 ≡ Less = nat_cmp_total.trans key x e.0 before (less (nat_cmp x e.0) (first (is_lt (nat_cmp x e.0)) (below_all nat_cmp x es) below)) in
    ap (λ r. cond (is_eq r) (Some e.1) (find nat_cmp key es)) apart ∙ none_from_less key x es before (second (is_lt (nat_cmp x e.0)) (below_all nat_cmp x es) below)

-- a number for each list that counts a weight for each entry
module _ {X : Type 0} (total : List (ℕ × X) → ℕ) (weight : ℕ × X → ℕ) (cons : (e : ℕ × X) (es : List (ℕ × X)) → total (e ∷ es) ≡ weight e + total es) where
  abbrev pub counted : ℕ → Option X → ℕ
  counted key o = option_map_or (λ x. weight (key, x)) o 0

  pub total-put : (key : ℕ) (x : X) (es : List (ℕ × X)) → T (is_sorted nat_cmp es) → total (put nat_cmp key x es) + counted key (find nat_cmp key es) ≡ total es + weight (key, x)
  total-put key x [] sorted = let e = cons (key, x) [] in omega (arith, e)
  total-put key x (e ∷ es) sorted = by_case (nat_cmp key e.0) refl (total-put key x es (second (below_all nat_cmp e.0 es) (is_sorted nat_cmp es) sorted))
    where
      by_case : (r : Ordering) → nat_cmp key e.0 ≡ r → total (put nat_cmp key x es) + counted key (find nat_cmp key es) ≡ total es + weight (key, x)
          → total (by_order r ((key, x) ∷ e ∷ es) ((e.0, x) ∷ es) (e ∷ put nat_cmp key x es)) + counted key (cond (is_eq r) (Some e.1) (find nat_cmp key es)) ≡ total (e ∷ es) + weight (key, x)
      by_case Less is rest =
          let none = ap (counted key) (none_from_less key e.0 es is (first (below_all nat_cmp e.0 es) (is_sorted nat_cmp es) sorted)) in
          let a = cons (key, x) (e ∷ es) in
          omega (arith, none, a)
      by_case Equal is rest =
          let same : key ≡ e.0 = nat_cmp-IsAntisymmetric key e.0 is in
          let a = cons (e.0, x) es in
          let b = cons e es in
          let c : weight (key, e.1) ≡ weight e = ap (λ k. weight (k, e.1)) same in
          let d : weight (key, x) ≡ weight (e.0, x) = ap (λ k. weight (k, x)) same in
          omega (arith, a, b, c, d)
      by_case Greater is rest =
          let a = cons e (put nat_cmp key x es) in
          let b = cons e es in
          omega (arith, a, b, rest)

  pub total-others : (key : ℕ) (es : List (ℕ × X)) → T (is_sorted nat_cmp es) → total (others nat_cmp_total key es) + counted key (find nat_cmp key es) ≡ total es
  total-others key [] sorted = omega arith
  total-others key (e ∷ es) sorted = by_case (eq_by_cmp nat_cmp key e.0) refl (total-others key es (second (below_all nat_cmp e.0 es) (is_sorted nat_cmp es) sorted))
    where
      by_case : (b : Bool) → eq_by_cmp nat_cmp key e.0 ≡ b → total (others nat_cmp_total key es) + counted key (find nat_cmp key es) ≡ total es
          → total (cond (not b) (e ∷ others nat_cmp_total key es) (others nat_cmp_total key es)) + counted key (cond b (Some e.1) (find nat_cmp key es)) ≡ total (e ∷ es)
      by_case true is rest =
          let equal = is_equal (nat_cmp key e.0) is in
          let none = none_above nat_cmp_total key e.0 es equal (first (below_all nat_cmp e.0 es) (is_sorted nat_cmp es) sorted) in
          let a = ap total (others-none nat_cmp_total key es none) in
          let b = cons e es in
          let c : weight (key, e.1) ≡ weight e = ap (λ k. weight (k, e.1)) (nat_cmp-IsAntisymmetric key e.0 equal) in
          omega (arith, a, b, c)
      by_case false is rest =
          let a = cons e (others nat_cmp_total key es) in
          let b = cons e es in
          omega (arith, a, b, rest)
