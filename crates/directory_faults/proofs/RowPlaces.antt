-- The places of rows that pass a test.
use Rattle.std.proofs.Common.{◌≡◌, ◌∙◌, ◌⊎◌, inl, inr, zero, suc, ℕ, ◌<◌, Bool, true, false, cond, List, [], ◌∷◌, length, Some, None, slice_get, refl, sym, ap, subst, arith}
use Rattle.std.specs.List.{count_by, filter}
use Rattle.std.proofs.lemmas.Bool.{cases_order}
use Rattle.std.proofs.lemmas.List.Sums.{length-filter}
use mathlib.Core.Bool.{false≢true}
use Rattle.fileset_shapes.specs.page_store.Pages.{Pages}
use Rattle.fileset_shapes.specs.domain_base.declared.place.Home.{Home}
use Rattle.fileset_shapes.specs.domain_base.declared.place.Kind.{Kind}
use Rattle.fileset_shapes.specs.domain_base.declared.place.Tag.{Tag}
use Rattle.fileset_shapes.specs.directory_pages.declared.row.Row.{Row}
use Rattle.fileset_shapes.specs.fileset_table.Table.{Table}
use Rattle.fileset_shapes.specs.domain_layout.DirectoryRules.{AreRowsTo, IsEarlier, IsRow, RowPlace}
use Rattle.fileset_shapes.specs.domain_layout.Reached.{Frame}
use Rattle.directory_faults.specs.Counts.{count_to, leads_so}
use Rattle.directory_faults.specs.Rows.{AreInOrder, AreRowsIn, place_of}
use Rattle.directory_faults.specs.declared.rows.RowThere.{RowThere}
use Rattle.directory_faults.proofs.Counted.{AreOnce, as_long}
use Rattle.directory_faults.proofs.Inserted.{among_at, at_among}
use Rattle.directory_faults.proofs.LedWrong.{same_at}

none_some : {X : Type 0} (x : X) → None ≡ Some x → ⊥
none_some x e = cc

some_same : {X : Type 0} (a b : X) → Some a ≡ Some b → a ≡ b
some_same a b e = cc

-- no two rows stand at one place
abbrev pub AreApart : List RowThere → Type 0
AreApart rows = (i j : ℕ) (one other : RowThere) → slice_get rows i ≡ Some one → slice_get rows j ≡ Some other → ¬ i ≡ j → ¬ place_of one ≡ place_of other

not_earlier : (a b : RowPlace) → a ≡ b → ¬ IsEarlier a b
not_earlier a b same (inl less) = omega (arith, less, ap (λ (p : RowPlace). p.page) same)
not_earlier a b same (inr (page, less)) = omega (arith, less, ap (λ (p : RowPlace). p.place) same)

pub order_parts : (rows : List RowThere) → AreInOrder rows → AreApart rows
order_parts rows order i j one other at_i at_j apart same = by_order (cases_order i j)
  where
    by_order : (i ≡ j) ⊎ ((i < j) ⊎ (j < i)) → ⊥
    by_order (inl here) = apart here
    by_order (inr (inl less)) = not_earlier (place_of one) (place_of other) same (order i j one other at_i at_j less (ap (λ (p : RowPlace). p.dir) same))
    by_order (inr (inr more)) = not_earlier (place_of other) (place_of one) (sym same) (order j i other one at_j at_i more (ap (λ (p : RowPlace). p.dir) (sym same)))

module _ (p : RowThere → Bool) where
  -- the places of those that pass
  abbrev pub passing : List RowThere → List RowPlace
  passing [] = []
  passing (r ∷ rows) = cond (p r) (place_of r ∷ passing rows) (passing rows)

  as_filtered : (rows : List RowThere) → length (passing rows) ≡ length (filter p rows)
  as_filtered [] = refl
  as_filtered (r ∷ rows) = by_test (p r) (as_filtered rows)
    where
      by_test : (b : Bool) → length (passing rows) ≡ length (filter p rows) → length (cond b (place_of r ∷ passing rows) (passing rows)) ≡ length (cond b (r ∷ filter p rows) (filter p rows))
      by_test true rest = ap suc rest
      by_test false rest = rest

  pub count_passing : (rows : List RowThere) → length (passing rows) ≡ count_by p rows
  count_passing rows = as_filtered rows ∙ length-filter p rows

  abbrev pub IsPassing : List RowThere → RowPlace → Type 0
  IsPassing rows at = (j : ℕ) × (r : RowThere) × (slice_get rows j ≡ Some r) × (p r ≡ true) × (place_of r ≡ at)

  pub passes_there : (rows : List RowThere) (k : ℕ) (at : RowPlace) → slice_get (passing rows) k ≡ Some at → IsPassing rows at
  passes_there [] k at is = absurd (none_some at is)
  passes_there (r ∷ rows) k at is = by_test (p r) refl k is (λ j there. passes_there rows j at there)
    where
      further : IsPassing rows at → IsPassing (r ∷ rows) at
      further (j, one, there, passes, same) = (suc j, one, there, passes, same)

      by_test : (b : Bool) → p r ≡ b → (k : ℕ) → slice_get (cond b (place_of r ∷ passing rows) (passing rows)) k ≡ Some at → ((j : ℕ) → slice_get (passing rows) j ≡ Some at → IsPassing rows at)
          → IsPassing (r ∷ rows) at
      by_test true right zero is rest = (0, r, refl, right, some_same (place_of r) at is)
      by_test true right (suc k) is rest = further (rest k is)
      by_test false wrong k is rest = further (rest k is)

  pub there_passes : (rows : List RowThere) (j : ℕ) (r : RowThere) → slice_get rows j ≡ Some r → p r ≡ true → (k : ℕ) × (slice_get (passing rows) k ≡ Some (place_of r))
  there_passes [] j r is passes = absurd (none_some r is)
  there_passes (one ∷ rows) zero r is passes = by_test (p one) (ap p (some_same one r is) ∙ passes)
    where
      by_test : (b : Bool) → b ≡ true → (k : ℕ) × (slice_get (cond b (place_of one ∷ passing rows) (passing rows)) k ≡ Some (place_of r))
      by_test true right = (0, ap (λ (t : RowThere). Some (place_of t)) (some_same one r is))
      by_test false wrong = absurd (false≢true wrong)
  there_passes (one ∷ rows) (suc j) r is passes = by_test (p one) (there_passes rows j r is passes)
    where
      by_test : (b : Bool) → ((k : ℕ) × (slice_get (passing rows) k ≡ Some (place_of r))) → (k : ℕ) × (slice_get (cond b (place_of one ∷ passing rows) (passing rows)) k ≡ Some (place_of r))
      by_test true (k, at) = (suc k, at)
      by_test false (k, at) = (k, at)

  pub passing_once : (rows : List RowThere) → AreApart rows → AreOnce (passing rows)
  passing_once [] apart = λ j k at at_j at_k. absurd (none_some at at_j)
  passing_once (r ∷ rows) apart = by_test (p r) (passing_once rows (λ i j one other at_i at_j differ. apart (suc i) (suc j) one other at_i at_j (λ same. differ (omega (arith, same)))))
    where
      not_again : (k : ℕ) (at : RowPlace) → place_of r ≡ at → slice_get (passing rows) k ≡ Some at → ⊥
      not_again k at is there =
          let (j, one, is_there, passes, same) = passes_there rows k at there in
          apart 0 (suc j) r one refl is_there (λ e. omega (arith, e)) (is ∙ sym same)

      with_first : AreOnce (passing rows) → AreOnce (place_of r ∷ passing rows)
      with_first rest zero zero at at_j at_k = refl
      with_first rest zero (suc k) at at_j at_k = absurd (not_again k at (some_same (place_of r) at at_j) at_k)
      with_first rest (suc j) zero at at_j at_k = absurd (not_again j at (some_same (place_of r) at at_k) at_j)
      with_first rest (suc j) (suc k) at at_j at_k = ap suc (rest j k at at_j at_k)

      by_test : (b : Bool) → AreOnce (passing rows) → AreOnce (cond b (place_of r ∷ passing rows) (passing rows))
      by_test true rest = with_first rest
      by_test false rest = rest

-- ---- the rows that lead to a tag as to one of a kind

module _ (pages : Pages) (frame : Frame) (table : Table) (number : ℕ) (rows : List RowThere) (are : AreRowsIn pages frame table number rows) where
  -- the row of a fileset at a place, among those that were read
  pub row_read : (at : RowPlace) (row : Row) (home : Home) → IsRow pages frame table number at row home → (j : ℕ) × (slice_get rows j ≡ Some (record { at = record { dir = at.dir; page = at.page; home = home }; place = at.place; row = row }))
  row_read at row home is =
      let r : RowThere = record { at = record { dir = at.dir; page = at.page; home = home }; place = at.place; row = row } in
      among_at rows r ((are.each r).1 is)

  pub row_is : (j : ℕ) (r : RowThere) → slice_get rows j ≡ Some r → IsRow pages frame table number (place_of r) r.row r.at.home
  row_is j r at = (are.each r).0 (at_among rows j r at)

  -- a list has just their places
  pub rows_to : (tag : Tag) (of : Kind) → AreRowsTo pages frame table number tag of (passing (leads_so tag of) rows)
  rows_to tag of = record {
    each = λ at. (
      λ among.
          let found = among_at (passing (leads_so tag of) rows) at among in
          let (j, r, there, passes, same) = passes_there (leads_so tag of) rows found.0 at found.1 in
          let led = (same_at (r.row.tag, r.row.kind) tag of).0 passes in
          (r.row, r.at.home, subst (λ (a : RowPlace). IsRow pages frame table number a r.row r.at.home) same (row_is j r there), led.0, led.1),
      λ (row, home, is, tag_is, kind_is).
          let r : RowThere = record { at = record { dir = at.dir; page = at.page; home = home }; place = at.place; row = row } in
          let read = row_read at row home is in
          let found = there_passes (leads_so tag of) rows read.0 r read.1 ((same_at (row.tag, row.kind) tag of).1 (tag_is, kind_is)) in
          at_among (passing (leads_so tag of) rows) found.0 at found.1,
    );
    once = passing_once (leads_so tag of) rows (order_parts rows are.order);
  }

  -- and as many as each such list
  pub as_counted : (tag : Tag) (of : Kind) (places : List RowPlace) → AreRowsTo pages frame table number tag of places → length places ≡ count_to rows tag of
  as_counted tag of places to =
      let led = rows_to tag of in
      as_long places (passing (leads_so tag of) rows) to.once led.once (λ at. ((λ among. (led.each at).1 ((to.each at).0 among)), (λ among. (to.each at).1 ((led.each at).0 among))))
      ∙ count_passing (leads_so tag of) rows
