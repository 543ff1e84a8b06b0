-- Rows that are put one behind the other, in order.
use Rattle.std.proofs.Common.{◌≡◌, ◌∙◌, ◌⊎◌, ◌↔◌, inl, inr, ℕ, zero, suc, ◌+◌, ◌<◌, List, [], ◌∷◌, ◌++◌, length, Some, None, Contains, slice_get, sym, ap, arith, ⊎_elim}
use Rattle.std.proofs.lemmas.List.{append-nil, append_assoc}
use Rattle.std.proofs.lemmas.List.Elements.{Contains-append_cases, Contains-append_left, Contains-append_right}
use Rattle.fileset_shapes.specs.directory_pages.declared.row.Row.{Row}
use Rattle.fileset_shapes.specs.domain_layout.DirectoryRules.{IsEarlier}
use Rattle.directory_faults.specs.Rows.{Adds, AreInOrder, place_of, rows_placed}
use Rattle.directory_faults.specs.declared.rows.PageAt.{PageAt}
use Rattle.directory_faults.specs.declared.rows.RowThere.{RowThere}
use Rattle.directory_faults.proofs.Inserted.{at_among}

none_some : {X : Type 0} (x : X) → None ≡ Some x → ⊥
none_some x e = cc

some_same : {X : Type 0} (a b : X) → Some a ≡ Some b → a ≡ b
some_same a b e = cc

-- ---- rows of a page

pub placed_at : (at : PageAt) (place : ℕ) (rows : List Row) (k : ℕ) (row : Row) → slice_get rows k ≡ Some row → slice_get (rows_placed at place rows) k ≡ Some (record { at = at; place = place + k; row = row })
placed_at at place [] k row is = absurd (none_some row is)
placed_at at place (x ∷ xs) zero row is =
    let same : place ≡ place + 0 = omega arith in
    (λ i. Some (record { at = at; place = same i; row = some_same x row is i }))
placed_at at place (x ∷ xs) (suc k) row is =
    let same : (place + 1) + k ≡ place + suc k = omega arith in
    placed_at at (place + 1) xs k row is ∙ (λ i. Some (record { at = at; place = same i; row = row }))

-- a row that stands on a page
pub record Placed (at : PageAt) (place : ℕ) (rows : List Row) (k : ℕ) (r : RowThere) : Type 0 where
  pub at_is : r.at ≡ at
  pub place_is : r.place ≡ place + k
  pub there : slice_get rows k ≡ Some r.row

pub placed_back : (at : PageAt) (place : ℕ) (rows : List Row) (k : ℕ) (r : RowThere) → slice_get (rows_placed at place rows) k ≡ Some r → Placed at place rows k r
placed_back at place [] k r is = absurd (none_some r is)
placed_back at place (x ∷ xs) zero r is =
    let same = some_same (record { at = at; place = place; row = x }) r is in
    let number : r.place ≡ place = sym (ap (λ (t : RowThere). t.place) same) in
    record { at_is = sym (ap (λ (t : RowThere). t.at) same); place_is = omega (arith, number); there = ap (λ (t : RowThere). Some t.row) same }
placed_back at place (x ∷ xs) (suc k) r is =
    let more = placed_back at (place + 1) xs k r is in
    let number = more.place_is in
    record { at_is = more.at_is; place_is = omega (arith, number); there = more.there }

-- ---- lists in parts

get_parts : {X : Type 0} (xs ys : List X) (k : ℕ) (x : X) → slice_get (xs ++ ys) k ≡ Some x → ((k < length xs) × (slice_get xs k ≡ Some x)) ⊎ ((j : ℕ) × (k ≡ length xs + j) × (slice_get ys j ≡ Some x))
get_parts [] ys k x is = inr (k, omega arith, is)
get_parts (y ∷ xs) ys zero x is = inl (omega arith, is)
get_parts (y ∷ xs) ys (suc k) x is =
    ⊎_elim (λ (low, at). inl (omega (arith, low), at)) (λ (j, same, at). inr (j, omega (arith, same), at)) (get_parts xs ys k x is)

-- rows of the second list come behind those of the first
abbrev pub ComeBehind : List RowThere → List RowThere → Type 0
ComeBehind xs ys = (a b : RowThere) → Contains xs a → Contains ys b → a.at.dir ≡ b.at.dir → IsEarlier (place_of a) (place_of b)

pub order_append : (xs ys : List RowThere) → AreInOrder xs → AreInOrder ys → ComeBehind xs ys → AreInOrder (xs ++ ys)
order_append xs ys first second across i j one other at_i at_j less dir = by_first (get_parts xs ys i one at_i) (get_parts xs ys j other at_j)
  where
    by_first : ((i < length xs) × (slice_get xs i ≡ Some one)) ⊎ ((k : ℕ) × (i ≡ length xs + k) × (slice_get ys k ≡ Some one))
        → ((j < length xs) × (slice_get xs j ≡ Some other)) ⊎ ((k : ℕ) × (j ≡ length xs + k) × (slice_get ys k ≡ Some other)) → IsEarlier (place_of one) (place_of other)
    by_first (inl (low, at)) (inl (low', at')) = first i j one other at at' less dir
    by_first (inl (low, at)) (inr (k, same, at')) = across one other (at_among xs i one at) (at_among ys k other at') dir
    by_first (inr (k, same, at)) (inl (low', at')) = absurd (omega (arith, same, low', less))
    by_first (inr (k, same, at)) (inr (k', same', at')) = second k k' one other at at' (omega (arith, same, same', less)) dir

no_order : AreInOrder []
no_order i j one other at_i at_j less dir = absurd (none_some one at_i)

-- ---- rows that were added

pub add_none : (is : RowThere → Type 0) (old : List RowThere) → ((r : RowThere) → ¬ is r) → Adds is old old
add_none is old never = record {
  more = [];
  behind = sym (append-nil old);
  are = record { each = λ r. ((λ (k, within, same). absurd (omega (arith, within))), (λ so. absurd (never r so))); order = no_order };
}

pub add_as : (is also : RowThere → Type 0) (old new : List RowThere) → ((r : RowThere) → is r ↔ also r) → Adds is old new → Adds also old new
add_as is also old new same adds = record {
  more = adds.more;
  behind = adds.behind;
  are = record { each = λ r. ((λ among. (same r).0 ((adds.are.each r).0 among)), (λ so. (adds.are.each r).1 ((same r).1 so))); order = adds.are.order };
}

-- first some rows, and then others behind them
pub add_both : (is also both : RowThere → Type 0) (old mid new : List RowThere) → Adds is old mid → Adds also mid new → ((r : RowThere) → both r ↔ (is r ⊎ also r))
    → ((a b : RowThere) → is a → also b → a.at.dir ≡ b.at.dir → IsEarlier (place_of a) (place_of b)) → Adds both old new
add_both is also both old mid new one two each across = record {
  more = one.more ++ two.more;
  behind = two.behind ∙ ap (λ l. l ++ two.more) one.behind ∙ append_assoc old one.more two.more;
  are = record {
    each = λ r. (
      λ among. (each r).1 (⊎_elim (λ front. inl ((one.are.each r).0 front)) (λ back. inr ((two.are.each r).0 back)) (Contains-append_cases one.more two.more r among)),
      λ so. ⊎_elim (λ front. Contains-append_left one.more two.more r ((one.are.each r).1 front)) (λ back. Contains-append_right one.more two.more r ((two.are.each r).1 back)) ((each r).0 so),
    );
    order = order_append one.more two.more one.are.order two.are.order (λ a b in_a in_b dir. across a b ((one.are.each a).0 in_a) ((two.are.each b).0 in_b) dir);
  };
}
