-- What a search by halving finds in a list of rising numbers, and what an edit at that place does.
use Rattle.std.proofs.Common.{◌≡◌, ◌≢◌, ◌==◌, ℕ, zero, suc, ◌+◌, ◌-◌, ◌<◌, ◌≤◌, List, [], ◌∷◌, length, get_or, set, Some, None, Result, Ok, Err, true, false, if◌then◌else◌, eqb-true, IfOk, IfErr, refl, sym, ap, subst, ◌∙◌, arith}
use Rattle.std.specs.List.{insert, remove}
use Rattle.std.specs.List.Sorted.{IsSearchInRange, IsBinarySearchResult, IsNonDecreasingBy}
use Rattle.std.specs.Ordering.{nat_cmp, ordering_index}
use Rattle.std.proofs.lemmas.Cmp.{ranked}
use Rattle.std.proofs.lemmas.List.Edits.{length-insert, length-remove, get_or-insert_below, get_or-insert_at, get_or-insert_above, get_or-remove_below, get_or-remove_above}
use Rattle.std.proofs.lemmas.Bool.Decides.{nat_tests}
use Rattle.std.proofs.lemmas.Grind.{common_steps}
use Rattle.sorted_sets.specs.Rising.{value_at, IsRising, IsPlaceOf, IsGapFor, Sets, Drops}

module _ {V : Type 0} where
  rising_tail : (x : ℕ × V) (es : List (ℕ × V)) → IsRising (x ∷ es) → IsRising es
  rising_tail x es rising i j d lt within = rising (suc i) (suc j) d (omega arith) (omega arith)

  -- an entry further on has a greater number than the first
  first_less : (x : ℕ × V) (es : List (ℕ × V)) → IsRising (x ∷ es) → (i : ℕ) (d : ℕ × V) → i < length es → x.0 < (get_or es i d).0
  first_less x es rising i d within = rising 0 (suc i) d (omega arith) (omega arith)

  pub value-present : (es : List (ℕ × V)) → IsRising es → (key i : ℕ) (d : ℕ × V) → i < length es → (get_or es i d).0 ≡ key → value_at es key ≡ Some (get_or es i d).1
  value-present [] rising key i d within is = absurd (omega arith)
  value-present (x ∷ es) rising key zero d within is = grind (arith, nat_tests)
  value-present (x ∷ es) rising key (suc i) d within is =
      let less : x.0 < (get_or es i d).0 = first_less x es rising i d (omega arith) in
      let rest = value-present es (rising_tail x es rising) key i d (omega arith) is in
      grind (arith, nat_tests)

  pub value-absent : (es : List (ℕ × V)) (key : ℕ) → ((j : ℕ) (d : ℕ × V) → j < length es → (get_or es j d).0 ≢ key) → value_at es key ≡ None
  value-absent [] key apart = refl
  value-absent (x ∷ es) key apart =
      let differ : x.0 ≢ key = apart 0 x (omega arith) in
      let rest = value-absent es key (λ j d within. apart (suc j) d (omega arith)) in
      grind (arith, nat_tests)

  pub sets-set : (es : List (ℕ × V)) → IsRising es → (key i : ℕ) (v : V) (d : ℕ × V) → i < length es → (get_or es i d).0 ≡ key → Sets es (set es i (key, v)) key v
  sets-set [] rising key i v d within is q = absurd (omega arith)
  sets-set (x ∷ es) rising key zero v d within is q = grind (arith, nat_tests)
  sets-set (x ∷ es) rising key (suc i) v d within is q =
      let less : x.0 < (get_or es i d).0 = first_less x es rising i d (omega arith) in
      let rest = sets-set es (rising_tail x es rising) key i v d (omega arith) is q in
      grind (arith, nat_tests)

  pub sets-insert : (es : List (ℕ × V)) (key i : ℕ) (v : V) → ((j : ℕ) (d : ℕ × V) → j < i → j < length es → (get_or es j d).0 ≢ key) → Sets es (insert es i (key, v)) key v
  sets-insert es key zero v apart q = refl
  sets-insert [] key (suc i) v apart q = refl
  sets-insert (x ∷ es) key (suc i) v apart q =
      let differ : x.0 ≢ key = apart 0 x (omega arith) (omega arith) in
      let rest = sets-insert es key i v (λ j d lt within. apart (suc j) d (omega arith) (omega arith)) q in
      grind (arith, nat_tests)

  -- the list after an entry of that number has no other
  removed_first : (key q : ℕ) (x : ℕ × V) (es : List (ℕ × V)) → x.0 ≡ key → value_at es key ≡ None → value_at es q ≡ (if key == q then None else value_at (x ∷ es) q)
  removed_first key q x es is absent =
      elim (key == q) as (λ b. (key == q) ≡ b → value_at es q ≡ (if b then None else value_at (x ∷ es) q)) [
        | true ↦ λ t. let same : key ≡ q = eqb-true key q t in sym (ap (value_at es) same) ∙ absent
        | false ↦ λ t. grind (arith, nat_tests)
      ] refl

  pub drops-remove : (es : List (ℕ × V)) → IsRising es → (key i : ℕ) (d : ℕ × V) → i < length es → (get_or es i d).0 ≡ key → Drops es (remove es i) key
  drops-remove [] rising key i d within is q = absurd (omega arith)
  drops-remove (x ∷ es) rising key zero d within is q =
      let absent : value_at es key ≡ None = value-absent es key (λ j e in_rest same. let less : x.0 < (get_or es j e).0 = first_less x es rising j e in_rest in omega arith) in
      removed_first key q x es is absent
  drops-remove (x ∷ es) rising key (suc i) d within is q =
      let less : x.0 < (get_or es i d).0 = first_less x es rising i d (omega arith) in
      let rest = drops-remove es (rising_tail x es rising) key i d (omega arith) is q in
      grind (arith, nat_tests)

module _ {V : Type 0} (es : List (ℕ × V)) (rising : IsRising es) (key : ℕ) where
  -- the comparisons with the number rise along the list, as a search by halving asks
  comparisons_rise : IsNonDecreasingBy (λ (e : ℕ × V). ordering_index (nat_cmp e.0 key)) es
  comparisons_rise i j d le within =
      let keys_rise : (get_or es i d).0 ≤ (get_or es j d).0 = grind (arith, rising i j d, λ (same : i ≡ j). ap (λ k. (get_or es k d).0) same) in
      grind (arith, nat_tests)

  pub searched : (r : Result ℕ ℕ) → IsSearchInRange r (length es) → IsBinarySearchResult (λ (e : ℕ × V). nat_cmp e.0 key) es r → record { found : IfOk r (IsPlaceOf es key); absent : IfErr r (IsGapFor es key) }
  searched (Ok at) within equal = record { found = record { within = within; has_key = λ d. ranked _ key _ (sym (equal d)) }; absent = tt }
  searched (Err at) within parted = record {
    found = tt;
    absent = record {
      within = within;
      before = λ j d lt. ranked _ key _ (sym ((parted comparisons_rise).0 j d (omega arith) lt));
      after = λ j d le lt. ranked _ key _ (sym ((parted comparisons_rise).1 j d le lt));
    };
  }

module _ {V : Type 0} (es : List (ℕ × V)) (key at : ℕ) (place : IsPlaceOf es key at) where
  pub value_at_place : IsRising es → (d : ℕ × V) → value_at es key ≡ Some (get_or es at d).1
  value_at_place rising d = value-present es rising key at d place.within (place.has_key d)

  pub sets_at_place : IsRising es → (v : V) (d : ℕ × V) → Sets es (set es at (key, v)) key v
  sets_at_place rising v d = sets-set es rising key at v d place.within (place.has_key d)

  pub rising_at_place : IsRising es → (v : V) → IsRising (set es at (key, v))
  rising_at_place rising v i j d lt within = grind (arith, common_steps, rising i j d, rising i at d, rising at j d, place.within, place.has_key d)

  pub drops_at_place : IsRising es → (d : ℕ × V) → Drops es (remove es at) key
  drops_at_place rising d = drops-remove es rising key at d place.within (place.has_key d)

  pub rising_without : IsRising es → IsRising (remove es at)
  rising_without rising i j d lt within =
      let less = length-remove es at place.within in
      let below : (k : ℕ) → k < at → get_or (remove es at) k d ≡ get_or es k d = λ k lt. get_or-remove_below es at d k lt place.within in
      let above : (k : ℕ) → at ≤ k → get_or (remove es at) k d ≡ get_or es (k + 1) d = λ k le. get_or-remove_above es at d k le place.within in
      grind (arith, below i, above i, below j, above j, rising i j d, rising i (j + 1) d, rising (i + 1) (j + 1) d)

module _ {V : Type 0} (es : List (ℕ × V)) (key at : ℕ) (gap : IsGapFor es key at) where
  pub value_in_gap : value_at es key ≡ None
  value_in_gap = value-absent es key (λ j d lt same. grind (arith, gap.before j d, gap.after j d))

  -- a number that has no value is taken away by doing nothing
  pub drops_in_gap : Drops es es key
  drops_in_gap q = elim (key == q) as (λ b. (key == q) ≡ b → value_at es q ≡ (if b then None else value_at es q)) [
    | true ↦ λ t. ap (value_at es) (sym (eqb-true key q t)) ∙ value_in_gap
    | false ↦ λ t. refl
  ] refl

  pub sets_in_gap : (v : V) → Sets es (insert es at (key, v)) key v
  sets_in_gap v = sets-insert es key at v (λ j d lt within same. omega (arith, gap.before j d lt))

  pub rising_with : IsRising es → (v : V) → IsRising (insert es at (key, v))
  rising_with rising v i j d lt within =
      let new = insert es at (key, v) in
      let number = λ (x : ℕ × V). x.0 in
      let longer = length-insert es at (key, v) gap.within in
      let below : (k : ℕ) → k < at → (get_or new k d).0 ≡ (get_or es k d).0 = λ k lt. ap number (get_or-insert_below es at (key, v) d k lt gap.within) in
      let here : (k : ℕ) → k ≡ at → (get_or new k d).0 ≡ key = λ k is. rw is (ap number (get_or-insert_at es at (key, v) d gap.within)) in
      let above : (k : ℕ) → at < k → (get_or new k d).0 ≡ (get_or es (k - 1) d).0 = λ k past. subst (λ n. (get_or new n d).0 ≡ (get_or es (k - 1) d).0) {x = k - 1 + 1} (omega arith) (ap number (get_or-insert_above es at (key, v) d (k - 1) (omega arith) gap.within)) in
      grind (arith, below i, here i, above i, below j, here j, above j, rising i j d, rising i (j - 1) d, rising (i - 1) (j - 1) d, gap.before i d, gap.after (j - 1) d)
