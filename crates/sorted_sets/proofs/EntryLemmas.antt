-- What holds of lists of entries in the order of their keys, and of the maps that they make.
use Rattle.std.proofs.lemmas.Bool.Decides.{nat_tests}
use Rattle.std.proofs.Common.{◌≡◌, ℕ, zero, suc, ◌+◌, ◌<◌, ◌==◌, nat_lt, Bool, true, false, cond, ◌&&◌, List, [], ◌∷◌, ◌++◌, length, take, drop, get_or, set, refl, sym, ap, subst, ◌∙◌, T, IsTrue, Some, None, arith}
use Rattle.std.proofs.lemmas.List.{take-append-drop, take-set, drop-set, drop_more, get_or_read}
use Rattle.std.specs.declared.cmp.Ordering.{Ordering}
use Rattle.std.specs.declared.cmp.Ordering.TheVariants.{Less, Equal, Greater}
use Rattle.std.specs.Ordering.{eq_by_cmp, is_eq, is_lt, nat_cmp}
use Rattle.std.specs.Cmp.{IsTotalOrder}
use Rattle.std.specs.FinMap as map
use Rattle.std.specs.FinMap.Entries.{below_all, by_order, find, put, is_sorted, is_sorted-put, is_sorted-where_key, where_key}
use Rattle.sorted_sets.specs.Entries.{IsGapOf, IsPlaceOf, put_each}

pub from_sorted-empty : {K X : Type 0} (R : K → K → Ordering) → map.from_sorted {K = K} {X = X} {R = R} [] ≡ map.empty
from_sorted-empty R = map.empty_of_len _ (map.len-entries _ ∙ ap length (map.entries-from_sorted R [] tt))

pub to_T : (b : Bool) → IsTrue b → T b
to_T b h = subst T (sym h) tt

pub from_T : (b : Bool) → T b → IsTrue b
from_T true h = refl
from_T false h = absurd h

pub is_sorted_where : {K X : Type 0} (R : K → K → Ordering) (p : K → Bool) (es : List (K × X)) → IsTrue (is_sorted R es) → IsTrue (is_sorted R (where_key R p es))
is_sorted_where R p es h = from_T _ (is_sorted-where_key R p es (to_T _ h))

pub first : (a b : Bool) → T (a && b) → T a
first true b p = tt
first false b p = p

pub second : (a b : Bool) → T (a && b) → T b
second true b p = p
second false b p = absurd p

pub less : (o : Ordering) → T (is_lt o) → o ≡ Less
less Less p = refl
less Equal p = absurd p
less Greater p = absurd p

-- each key is greater than one that is below all of them
pub below_each : {K X : Type 0} (R : K → K → Ordering) (x : K) (es : List (K × X)) → T (below_all R x es) → (k : ℕ) (d : K × X) → k < length es → R x (get_or es k d).0 ≡ Less
below_each R x [] h k d within = absurd (omega (arith, within))
below_each R x (e ∷ es) h zero d within = less _ (first _ _ h)
below_each R x (e ∷ es) h (suc k) d within = below_each R x es (second _ _ h) k d (omega (arith, within))

-- a write of one element, as what stands before it, the element and what stands after it
pub set-take-drop : {A : Type 0} (l : List A) (i : ℕ) (x : A) → i < length l → set l i x ≡ take i l ++ x ∷ drop (i + 1) l
set-take-drop l i x h =
    sym (take-append-drop i (set l i x)) ∙ ap (λ front. front ++ drop i (set l i x)) (take-set l i x) ∙ ap (λ back. take i l ++ back) (drop-set l i x h)

-- every entry before this place has a smaller key
pub record Passed {K X : Type 0} (R : K → K → Ordering) (es : List (K × X)) (key : K) (place : ℕ) : Type 0 where
  pub found : find R key (drop place es) ≡ find R key es
  pub placed : (v : X) → take place es ++ put R key v (drop place es) ≡ put R key v es
  pub sorted : T (is_sorted R (drop place es))

module _ {K X : Type 0} {R : K → K → Ordering} (o : IsTotalOrder R) where
  -- no key that stands above x is the key, if the key is below x
  find-below : (key x : K) (es : List (K × X)) → R key x ≡ Less → T (below_all R x es) → find R key es ≡ None
  find-below key x [] h b = refl
  find-below key x (e ∷ es) h b =
      ap (λ r. cond (is_eq r) (Some e.1) (find R key es)) (o.trans key x e.0 h (less _ (first _ _ b)))
      ∙ find-below key x es h (second _ _ b)

  pub gap_here : (es : List (K × X)) (key : K) (i : ℕ) (e : K × X) → Passed R es key i → i < length es → e ≡ get_or es i e → R key e.0 ≡ Less → IsGapOf R es key i
  gap_here es key i e passed within is h =
      let here : drop i es ≡ e ∷ drop (i + 1) es = drop_more es i e within ∙ ap (λ x. x ∷ drop (i + 1) es) (sym is) in
      let sorted : T (is_sorted R (e ∷ drop (i + 1) es)) = subst (λ l. T (is_sorted R l)) here passed.sorted in
      record {
        within = omega arith;
        absent = sym passed.found ∙ ap (find R key) here
            ∙ ap (λ r. cond (is_eq r) (Some e.1) (find R key (drop (i + 1) es))) h
            ∙ find-below key e.0 (drop (i + 1) es) h (first _ _ sorted);
        placed = λ v. sym (passed.placed v)
            ∙ ap (λ l. take i es ++ put R key v l) here
            ∙ ap (λ r. take i es ++ by_order r ((key, v) ∷ e ∷ drop (i + 1) es) ((e.0, v) ∷ drop (i + 1) es) (e ∷ put R key v (drop (i + 1) es))) h
            ∙ ap (λ l. take i es ++ (key, v) ∷ l) (sym here);
      }

  pub place_here : (es : List (K × X)) (key : K) (i : ℕ) (e : K × X) → Passed R es key i → i < length es → e ≡ get_or es i e → R key e.0 ≡ Equal → IsPlaceOf R es key i
  place_here es key i e passed within is h =
      let here : drop i es ≡ e ∷ drop (i + 1) es = drop_more es i e within ∙ ap (λ x. x ∷ drop (i + 1) es) (sym is) in
      record {
        within = within;
        found = λ d. sym passed.found ∙ ap (find R key) here
            ∙ ap (λ r. cond (is_eq r) (Some e.1) (find R key (drop (i + 1) es))) h
            ∙ ap (λ (x : K × X). Some x.1) (get_or_read es i e within is d);
        replaced = λ d v. sym (passed.placed v)
            ∙ ap (λ l. take i es ++ put R key v l) here
            ∙ ap (λ r. take i es ++ by_order r ((key, v) ∷ e ∷ drop (i + 1) es) ((e.0, v) ∷ drop (i + 1) es) (e ∷ put R key v (drop (i + 1) es))) h
            ∙ sym (set-take-drop es i (e.0, v) within)
            ∙ ap (λ (x : K × X). set es i (x.0, v)) (get_or_read es i e within is d);
      }

  pub is_sorted_put : (es : List (K × X)) (k : K) (v : X) → IsTrue (is_sorted R es) → IsTrue (is_sorted R (put R k v es))
  is_sorted_put es k v h = from_T _ (is_sorted-put R o k v es (to_T _ h))

  pub insert-from_sorted : (es : List (K × X)) (k : K) (v : X) → IsTrue (is_sorted R es) → map.from_sorted (put R k v es) ≡ map.insert (map.from_sorted {R = R} es) k v
  insert-from_sorted es k v h =
      map.same_entries_map _ _ (map.entries-from_sorted R _ (is_sorted-put R o k v es (to_T _ h))
      ∙ sym (map.entries-insert o _ k v ∙ ap (put R k v) (map.entries-from_sorted R es (to_T _ h))))

module _ {K X : Type 0} (R : K → K → Ordering) where
  pub len-from_sorted : (es : List (K × X)) → IsTrue (is_sorted R es) → map.len (map.from_sorted {R = R} es) ≡ length es
  len-from_sorted es h = map.len-entries _ ∙ ap length (map.entries-from_sorted R es (to_T _ h))

  pub entries-from_sorted : (es : List (K × X)) → IsTrue (is_sorted R es) → map.entries (map.from_sorted {R = R} es) ≡ es
  entries-from_sorted es h = map.entries-from_sorted R es (to_T _ h)

  pub get-from_sorted : (es : List (K × X)) (q : K) → IsTrue (is_sorted R es) → map.get (map.from_sorted {R = R} es) q ≡ find R q es
  get-from_sorted es q h = map.get-from_sorted R es q (to_T _ h)

  pub put_each-append : (xs : List (K × X)) (e : K × X) (es : List (K × X)) → put_each R (xs ++ e ∷ []) es ≡ put R e.0 e.1 (put_each R xs es)
  put_each-append [] e es = refl
  put_each-append (x ∷ xs) e es = put_each-append xs e (put R x.0 x.1 es)

pub from_sorted-one : {K X : Type 0} {R : K → K → Ordering} → IsTotalOrder R → (k : K) (v : X) → map.from_sorted {R = R} ((k, v) ∷ []) ≡ map.insert map.empty k v
from_sorted-one {R = R} o k v = insert-from_sorted o [] k v refl ∙ ap (λ m. map.insert m k v) (from_sorted-empty R)

-- what stands at the place of a key
module _ {K X : Type 0} {R : K → K → Ordering} (es : List (K × X)) (key : K) (place : ℕ) (item : K × X) (at : IsPlaceOf R es key place) (is : item ≡ get_or es place item) where
  pub find_at_place : find R key es ≡ Some item.1
  find_at_place = at.found item ∙ ap (λ (x : K × X). Some x.1) (sym is)

  pub put_at_place : (v : X) → put R key v es ≡ set es place (item.0, v)
  put_at_place v = at.replaced item v ∙ ap (λ (x : K × X). set es place (x.0, v)) (sym is)

  pub sorted_at_place : IsTotalOrder R → IsTrue (is_sorted R es) → (v : X) → IsTrue (is_sorted R (set es place (item.0, v)))
  sorted_at_place o h v = subst (λ l. IsTrue (is_sorted R l)) (put_at_place v) (is_sorted_put o es key v h)

  pub insert_at_place : IsTotalOrder R → IsTrue (is_sorted R es) → (v : X) → map.from_sorted {R = R} (set es place (item.0, v)) ≡ map.insert (map.from_sorted es) key v
  insert_at_place o h v = ap map.from_sorted (sym (put_at_place v)) ∙ insert-from_sorted o es key v h

-- no entry has a key that is above all of theirs
greater : (m n : ℕ) → n < m → nat_cmp m n ≡ Greater
greater m n h =
    let not_less : nat_lt m n ≡ false = grind (arith, nat_tests) in
    let not_same : (m == n) ≡ false = grind (arith, nat_tests) in
    rw (not_less, not_same)

pub find-above : {X : Type 0} (k : ℕ) (es : List (ℕ × X)) (e : ℕ × X) → find nat_cmp k es ≡ None → e.0 < k → find nat_cmp k (es ++ e ∷ []) ≡ None
find-above k [] e none h = ap (λ r. cond (is_eq r) (Some e.1) None) (greater k e.0 h)
find-above k (x ∷ es) e none h =
    let later = λ (found : find nat_cmp k es ≡ None). find-above k es e found h in
    elim (eq_by_cmp nat_cmp k x.0) as (λ b. cond b (Some x.1) (find nat_cmp k es) ≡ None → cond b (Some x.1) (find nat_cmp k (es ++ e ∷ [])) ≡ None) [
      | true ↦ λ found. found
      | false ↦ later
    ] none

-- a value that is found stands somewhere
pub find-stands : {K X : Type 0} (R : K → K → Ordering) (q : K) (es : List (K × X)) (v : X) → find R q es ≡ Some v → (i : ℕ) × (i < length es) × ((d : K × X) → (get_or es i d).1 ≡ v)
find-stands R q [] v h = absurd (cc)
find-stands {K} {X} R q (e ∷ es) v h =
    let there = λ (found : find R q es ≡ Some v). find-stands R q es v found in
    elim (eq_by_cmp R q e.0) as (λ b. cond b (Some e.1) (find R q es) ≡ Some v → (i : ℕ) × (i < length (e ∷ es)) × ((d : K × X) → (get_or (e ∷ es) i d).1 ≡ v)) [
      | true ↦ λ found. (0, omega arith, λ d. cc)
      | false ↦ λ found. let rest = there found in (suc rest.0, omega (arith, rest.1), rest.2)
    ] h
