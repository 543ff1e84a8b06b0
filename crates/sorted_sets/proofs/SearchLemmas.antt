-- A search by halves in a list of entries in the order of their keys.
use Rattle.std.proofs.Common.{◌≡◌, ℕ, zero, suc, ◌+◌, ◌<◌, ◌≤◌, ◌==◌, true, false, cond, List, [], ◌∷◌, ◌++◌, length, take, drop, get_or, refl, sym, ap, subst, ◌∙◌, T, IsTrue, Some, eqb-true, append_assoc, arith}
use Rattle.std.proofs.lemmas.List.{drop_all, drop_more, get_or_default, take_more}
use Rattle.std.specs.declared.cmp.Ordering.{Ordering}
use Rattle.std.specs.declared.cmp.Ordering.TheVariants.{Less, Equal, Greater}
use Rattle.std.specs.Ordering.{is_eq, ordering_reverse}
use Rattle.std.specs.Cmp.{IsTotalOrder}
use Rattle.std.specs.FinMap.Entries.{by_order, find, is_sorted, put}
use Rattle.sorted_sets.specs.Entries.{IsGapOf, IsPlaceOf}
use Rattle.sorted_sets.proofs.EntryLemmas.{Passed, below_each, first, gap_here, place_here, second, to_T}

module _ {K : Type 0} {R : K → K → Ordering} (o : IsTotalOrder R) where
  flipped : (x y : K) → R x y ≡ Less → R y x ≡ Greater
  flipped x y h = o.antisymm y x ∙ ap ordering_reverse h

  flipped_back : (x y : K) → R x y ≡ Greater → R y x ≡ Less
  flipped_back x y h = o.antisymm y x ∙ ap ordering_reverse h

module _ {K X : Type 0} {R : K → K → Ordering} (o : IsTotalOrder R) where
  -- of two entries the later one has the greater key
  rising : (es : List (K × X)) → T (is_sorted R es) → (i j : ℕ) (d : K × X) → i < j → j < length es → R (get_or es i d).0 (get_or es j d).0 ≡ Less
  rising [] h i j d lt within = absurd (omega arith)
  rising (e ∷ es) h i zero d lt within = absurd (omega arith)
  rising (e ∷ es) h zero (suc j) d lt within = below_each R e.0 es (first _ _ h) j d (omega arith)
  rising (e ∷ es) h (suc i) (suc j) d lt within = rising es (second _ _ h) i j d (omega arith) (omega arith)

  passed_on : (es : List (K × X)) (key : K) (j : ℕ) (d : K × X) → Passed R es key j → j < length es → R key (get_or es j d).0 ≡ Greater → Passed R es key (j + 1)
  passed_on es key j d passed within h =
      let e = get_or es j d in
      let rest = drop (j + 1) es in
      let here : drop j es ≡ e ∷ rest = drop_more es j d within in
      record {
        found = ap (λ r. cond (is_eq r) (Some e.1) (find R key rest)) (sym h) ∙ sym (ap (find R key) here) ∙ passed.found;
        placed = λ v. ap (λ l. l ++ put R key v rest) (take_more es j d within)
            ∙ append_assoc (take j es) (e ∷ []) (put R key v rest)
            ∙ ap (λ r. take j es ++ by_order r ((key, v) ∷ e ∷ rest) ((e.0, v) ∷ rest) (e ∷ put R key v rest)) (sym h)
            ∙ sym (ap (λ l. take j es ++ put R key v l) here)
            ∙ passed.placed v;
        sorted = second _ _ (subst (λ l. T (is_sorted R l)) here passed.sorted);
      }

  passed_up_to : (es : List (K × X)) (key : K) (j : ℕ) (d : K × X) → T (is_sorted R es) → j ≤ length es → ((k : ℕ) → k < j → R key (get_or es k d).0 ≡ Greater) → Passed R es key j
  passed_up_to es key zero d sorted within all = record { found = refl; placed = λ v. refl; sorted = sorted }
  passed_up_to es key (suc j) d sorted within all =
      let before = passed_up_to es key j d sorted (omega arith) (λ k lt. all k (omega arith)) in
      let next : j + 1 ≡ suc j = omega arith in
      subst (Passed R es key) next (passed_on es key j d before (omega arith) (all j (omega arith)))

  searched_place : (es : List (K × X)) (key : K) (i : ℕ) → T (is_sorted R es) → i < length es → ((d : K × X) → R (get_or es i d).0 key ≡ Equal) → IsPlaceOf R es key i
  searched_place [] key i sorted within equal = absurd (omega arith)
  searched_place (x ∷ xs) key i sorted within equal =
      let es = x ∷ xs in
      let e = get_or es i x in
      let passed = passed_up_to es key i x sorted (omega arith) (λ k lt. sym (o.congr e.0 key (get_or es k x).0 (equal x)) ∙ flipped o (get_or es k x).0 e.0 (rising es sorted k i x lt within)) in
      place_here o es key i e passed within (get_or_default es i x e within) (o.antisymm key e.0 ∙ ap ordering_reverse (equal x))

  searched_gap : (es : List (K × X)) (key : K) (i : ℕ) → T (is_sorted R es) → i ≤ length es
      → ((k : ℕ) (d : K × X) → 0 ≤ k → k < i → R (get_or es k d).0 key ≡ Less) → ((k : ℕ) (d : K × X) → i ≤ k → k < length es → R (get_or es k d).0 key ≡ Greater) → IsGapOf R es key i
  searched_gap [] key i sorted within before after =
      let none : i ≡ 0 = omega arith in
      subst (IsGapOf R [] key) (sym none) (record { within = omega arith; absent = refl; placed = λ v. refl })
  searched_gap (x ∷ xs) key i sorted within before after =
      let es = x ∷ xs in
      let passed = passed_up_to es key i x sorted within (λ k lt. flipped o (get_or es k x).0 key (before k x (omega arith) lt)) in
      elim (i == length es) as (λ b. (i == length es) ≡ b → IsGapOf R es key i) [
        | true ↦ λ t.
            let end = eqb-true i (length es) t in
            let nil : drop i es ≡ [] = drop_all i es (omega (arith, end)) in
            record {
              within = within;
              absent = sym passed.found ∙ ap (find R key) nil;
              placed = λ v. sym (passed.placed v) ∙ ap (λ l. take i es ++ put R key v l) nil ∙ ap (λ l. take i es ++ (key, v) ∷ l) (sym nil);
            }
        | false ↦ λ t.
            let inside : i < length es = apart i (length es) within t in
            let e = get_or es i x in
            gap_here o es key i e passed inside (get_or_default es i x e inside) (flipped_back o e.0 key (after i x (omega arith) inside))
      ] refl
    where
      apart : (i j : ℕ) → i ≤ j → (i == j) ≡ false → i < j
      apart i j le t = grind arith

-- what a search by halves knows: entries before `low` have smaller keys, and from `high` on greater ones
pub record Between {K X : Type 0} (R : K → K → Ordering) (es : List (K × X)) (key : K) (low high : ℕ) : Type 0 where
  pub ordered : low ≤ high
  pub within : high ≤ length es
  pub before : (k : ℕ) (d : K × X) → 0 ≤ k → k < low → R (get_or es k d).0 key ≡ Less
  pub after : (k : ℕ) (d : K × X) → high ≤ k → k < length es → R (get_or es k d).0 key ≡ Greater

module _ {K X : Type 0} {R : K → K → Ordering} (o : IsTotalOrder R) (es : List (K × X)) (key : K) (sorted : IsTrue (is_sorted R es)) where
  pub between_all : Between R es key 0 (length es)
  between_all = record { ordered = omega arith; within = omega arith; before = λ k d a b. absurd (omega (arith, a, b)); after = λ k d a b. absurd (omega (arith, a, b)) }

  pub between_lower : (low high middle : ℕ) (x : K × X) → Between R es key low high → low ≤ middle → middle < high → R key (get_or es middle x).0 ≡ Less → Between R es key low middle
  between_lower low high middle x now above below h =
      let at : (d : K × X) → R (get_or es middle d).0 key ≡ Greater =
      λ d. ap (λ (e : K × X). R e.0 key) (get_or_default es middle d x (omega (arith, below, now.within))) ∙ flipped o key (get_or es middle x).0 h in
      record {
        ordered = above;
        within = omega (arith, now.within);
        before = now.before;
        after = λ k d a b. elim (k == middle) as (λ t. (k == middle) ≡ t → R (get_or es k d).0 key ≡ Greater) [
          | true ↦ λ t. subst (λ n. R (get_or es n d).0 key ≡ Greater) (sym (eqb-true k middle t)) (at d)
          | false ↦ λ t.
              let later : R (get_or es middle d).0 (get_or es k d).0 ≡ Less = rising o es (to_T _ sorted) middle k d (apart middle k a t) b in
              flipped o key (get_or es k d).0 (o.trans key (get_or es middle d).0 (get_or es k d).0 (flipped_back o (get_or es middle d).0 key (at d)) later)
        ] refl;
      }
    where
      apart : (middle k : ℕ) → middle ≤ k → (k == middle) ≡ false → middle < k
      apart middle k le t = grind arith

  pub between_upper : (low high middle : ℕ) (x : K × X) → Between R es key low high → low ≤ middle → middle < high → R key (get_or es middle x).0 ≡ Greater → Between R es key (middle + 1) high
  between_upper low high middle x now above below h =
      let at : (d : K × X) → R (get_or es middle d).0 key ≡ Less =
      λ d. ap (λ (e : K × X). R e.0 key) (get_or_default es middle d x (omega (arith, below, now.within))) ∙ flipped_back o key (get_or es middle x).0 h in
      record {
        ordered = omega (arith, below);
        within = now.within;
        after = now.after;
        before = λ k d a b. elim (k == middle) as (λ t. (k == middle) ≡ t → R (get_or es k d).0 key ≡ Less) [
          | true ↦ λ t. subst (λ n. R (get_or es n d).0 key ≡ Less) (sym (eqb-true k middle t)) (at d)
          | false ↦ λ t.
              o.trans (get_or es k d).0 (get_or es middle d).0 key (rising o es (to_T _ sorted) k middle d (apart k middle b t) (omega (arith, below, now.within))) (at d)
        ] refl;
      }
    where
      apart : (k middle : ℕ) → k < middle + 1 → (k == middle) ≡ false → k < middle
      apart k middle lt t = grind arith

  pub found_between : (middle : ℕ) (x : K × X) → middle < length es → R key (get_or es middle x).0 ≡ Equal → IsPlaceOf R es key middle
  found_between middle x within h =
      searched_place o es key middle (to_T _ sorted) within
      (λ d. ap (λ (e : K × X). R e.0 key) (get_or_default es middle d x within) ∙ o.antisymm (get_or es middle x).0 key ∙ ap ordering_reverse h)

  pub gap_between : (low high : ℕ) → Between R es key low high → high ≤ low → IsGapOf R es key low
  gap_between low high now done =
      let same : high ≡ low = omega (arith, now.ordered) in
      searched_gap o es key low (to_T _ sorted) (omega (arith, now.within, same)) now.before (subst (λ n. (k : ℕ) (d : K × X) → n ≤ k → k < length es → R (get_or es k d).0 key ≡ Greater) same now.after)
