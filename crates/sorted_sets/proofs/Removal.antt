-- An entry that is taken out of a list of entries in the order of their keys.
use Rattle.std.proofs.Common.{◌≡◌, ◌∙◌, ℕ, zero, suc, ◌<◌, Bool, true, false, not, cond, List, [], ◌∷◌, length, get_or, Some, None, refl, sym, ap, T, arith}
use Rattle.std.specs.declared.cmp.Ordering.{Ordering}
use Rattle.std.specs.declared.cmp.Ordering.TheVariants.{Less, Equal, Greater}
use Rattle.std.specs.Ordering.{eq_by_cmp, is_eq, is_lt, ordering_reverse}
use Rattle.std.specs.Cmp.{IsTotalOrder}
use Rattle.std.specs.List.{remove}
use Rattle.std.specs.FinMap.Entries.{below_all, find, is_sorted, where_key}
use Rattle.sorted_sets.proofs.EntryLemmas.{below_each, first, less, second}

module _ {K X : Type 0} {R : K → K → Ordering} (o : IsTotalOrder R) (key : K) where
  abbrev pub others : List (K × X) → List (K × X)
  others es = where_key R (λ other. not (eq_by_cmp R key other)) es

  kept : (e : K × X) (es : List (K × X)) → eq_by_cmp R key e.0 ≡ false → others (e ∷ es) ≡ e ∷ others es
  kept e es apart = ap (λ b. cond (not b) (e ∷ others es) (others es)) apart

  left_out : (e : K × X) (es : List (K × X)) → eq_by_cmp R key e.0 ≡ true → others (e ∷ es) ≡ others es
  left_out e es same = ap (λ b. cond (not b) (e ∷ others es) (others es)) same

  -- a list without the key is as it was
  pub others-none : (es : List (K × X)) → find R key es ≡ None → others es ≡ es
  others-none [] none = refl
  others-none (e ∷ es) none = by_test (eq_by_cmp R key e.0) refl (λ later. others-none es later)
    where
      by_test : (b : Bool) → eq_by_cmp R key e.0 ≡ b → (find R key es ≡ None → others es ≡ es) → others (e ∷ es) ≡ e ∷ es
      by_test true same rest = let there : Some e.1 ≡ None = sym (ap (λ b. cond b (Some e.1) (find R key es)) same) ∙ none in absurd (cc)
      by_test false apart rest = kept e es apart ∙ ap (λ rest. e ∷ rest) (rest (sym (ap (λ b. cond b (Some e.1) (find R key es)) apart) ∙ none))

  pub none_above : (x : K) (es : List (K × X)) → R key x ≡ Equal → T (below_all R x es) → find R key es ≡ None
  none_above x [] same below = refl
  none_above x (e ∷ es) same below =
      let apart : R key e.0 ≡ Less = o.congr key x e.0 same ∙ less (R x e.0) (first (is_lt (R x e.0)) (below_all R x es) below) in
      ap (λ r. cond (is_eq r) (Some e.1) (find R key es)) apart ∙ none_above x es same (second (is_lt (R x e.0)) (below_all R x es) below)

  -- the key's entry is the one that is left out
  pub others-at : (es : List (K × X)) (i : ℕ) (d : K × X) → T (is_sorted R es) → i < length es → R key (get_or es i d).0 ≡ Equal → others es ≡ remove es i
  others-at [] i d sorted within same = absurd (omega (arith, within))
  others-at (e ∷ es) zero d sorted within same =
      left_out e es (ap is_eq same) ∙ others-none es (none_above e.0 es same (first (below_all R e.0 es) (is_sorted R es) sorted))
  others-at (e ∷ es) (suc i) d sorted within same =
      let x = (get_or es i d).0 in
      let below : R e.0 x ≡ Less = below_each R e.0 es (first (below_all R e.0 es) (is_sorted R es) sorted) i d (omega (arith, within)) in
      let above : R key e.0 ≡ Greater = o.congr key x e.0 same ∙ o.antisymm x e.0 ∙ ap ordering_reverse below in
      kept e es (ap is_eq above) ∙ ap (λ rest. e ∷ rest) (others-at es i d (second (below_all R e.0 es) (is_sorted R es) sorted) (omega (arith, within)) same)
