-- The pages of rows, as spans.
use Rattle.std.proofs.Common.{◌≡◌, ◌⊎◌, ◌↔◌, inl, inr, zero, suc, ℕ, ◌+◌, ◌-◌, ◌<◌, ◌≤◌, ◌==◌, true, false, List, [], ◌∷◌, ◌++◌, get_or, length, Contains, if◌then◌else◌, refl, sym, subst, arith, ⊎_elim}
use Rattle.std.specs.List.{flat_map}
use Rattle.std.proofs.lemmas.Bool.Decides.{nat_tests}
use Rattle.std.proofs.lemmas.List.Elements.{Contains-append_left, Contains-push, Contains-push_cases}
use Rattle.extent_records.specs.extent_maps.Runs.{behind, covers, end_of, place_of, placed}
use Rattle.extent_records.specs.extent_maps.declared.run.PagePlace.TheVariants.{Absent}
use Rattle.extent_records.specs.extent_maps.declared.run.Run.{Run}
use Rattle.extent_records.specs.extent_maps.declared.run.RunPlace.{RunPlace}
use Rattle.extent_records.specs.extent_maps.declared.run.RunPlace.TheVariants as place
use Rattle.extent_records.specs.Rows.{hole_run, holes_at, run_of, runs_at}
use Rattle.metadata_cells.specs.cell_records.declared.record.ExtentField.{ExtentField}
use Rattle.metadata_cells.specs.cell_records.declared.record.HoleField.{HoleField}
use Rattle.metadata_cells.specs.sorted_sets.SpanMembers.{HasAnyOf, IsOf}
use Rattle.metadata_cells.specs.sorted_sets.declared.span.Span.{Span}
use Rattle.metadata_cells.proofs.OfSortedSets.Below.{IsBelow, below_all, below_more, none_below}

-- ---- spans put behind others

pub push_span : (spans : List Span) (span : Span) (n : ℕ) → HasAnyOf (spans ++ span ∷ []) n ↔ (HasAnyOf spans n ⊎ IsOf span n)
push_span spans span n = (
  λ (one, among, of). ⊎_elim (λ before. inl (one, before, of)) (λ same. inr (subst (λ (s : Span). IsOf s n) (sym same) of)) (Contains-push_cases spans span one among),
  λ which. ⊎_elim (λ (one, among, of). (one, Contains-append_left spans (span ∷ []) one among, of)) (λ of. (span, Contains-push spans span, of)) which,
)

pub none_of : (n : ℕ) → ¬ HasAnyOf [] n
none_of n (span, (k, within, at), of) = omega (arith, within)

-- ---- where rows have a page

abbrev pub HasPage : List Run → ℕ → Type 0
HasPage runs n = ¬ place_of runs n ≡ Absent

there_is : (first : RunPlace) (count : ℕ) → ¬ placed (behind count first) ≡ Absent
there_is (place.At home) count e = cc
there_is place.Holes count e = cc

-- a run has the pages from its first one up to its end
one_run : (run : Run) (n : ℕ) → HasPage (run ∷ []) n ↔ ((run.page ≤ n) × (n < end_of run))
one_run run n = elim (covers run n) as (λ b. covers run n ≡ b → (¬ (if b then placed (behind (n - run.page) run.first) else Absent) ≡ Absent) ↔ ((run.page ≤ n) × (n < end_of run))) [
  | true ↦ λ test. ((λ has. (grind (arith, nat_tests), grind (arith, nat_tests))), (λ of. there_is run.first (n - run.page)))
  | false ↦ λ test. ((λ has. absurd (has refl)), (λ of. absurd (grind (arith, nat_tests))))
] refl

pub row_pages : (row : ExtentField) (n : ℕ) → HasPage (runs_at row) n ↔ ((row.page ≤ n) × (n < row.page + row.count))
row_pages row n = elim (row.count == 0) as (λ b. (row.count == 0) ≡ b → HasPage (if b then [] else run_of row ∷ []) n ↔ ((row.page ≤ n) × (n < row.page + row.count))) [
  | true ↦ λ test. ((λ has. absurd (has refl)), (λ of. absurd (grind (arith, nat_tests))))
  | false ↦ λ test. one_run (run_of row) n
] refl

pub hole_pages : (row : HoleField) (n : ℕ) → HasPage (holes_at row) n ↔ ((row.page ≤ n) × (n < row.page + row.count))
hole_pages row n = elim (row.count == 0) as (λ b. (row.count == 0) ≡ b → HasPage (if b then [] else hole_run row ∷ []) n ↔ ((row.page ≤ n) × (n < row.page + row.count))) [
  | true ↦ λ test. ((λ has. absurd (has refl)), (λ of. absurd (grind (arith, nat_tests))))
  | false ↦ λ test. one_run (hole_run row) n
] refl

-- some of two lists of runs has a page
either_has : (xs ys : List Run) (n : ℕ) → HasPage (xs ++ ys) n ↔ (HasPage xs n ⊎ HasPage ys n)
either_has [] ys n = ((λ has. inr has), (λ which. ⊎_elim (λ none. absurd (none refl)) (λ has. has) which))
either_has (x ∷ xs) ys n = elim (covers x n) as (λ b. (¬ (if b then placed (behind (n - x.page) x.first) else place_of (xs ++ ys) n) ≡ Absent)
    ↔ ((¬ (if b then placed (behind (n - x.page) x.first) else place_of xs n) ≡ Absent) ⊎ HasPage ys n)) [
      | true ↦ ((λ has. inl has), (λ which. there_is x.first (n - x.page)))
      | false ↦ either_has xs ys n
    ]

module _ {X : Type 0} (runs : X → List Run) where
  pub some_row : (rows : List X) (n : ℕ) → HasPage (flat_map runs rows) n ↔ ((row : X) × Contains rows row × HasPage (runs row) n)
  some_row [] n = ((λ has. absurd (has refl)), (λ (row, (k, within, at), has). absurd (omega (arith, within))))
  some_row (x ∷ xs) n =
      let parts = either_has (runs x) (flat_map runs xs) n in
      let more = some_row xs n in (
        λ has. ⊎_elim (λ first. (x, (zero, omega arith, refl), first)) (λ rest. behind_first (more.0 rest)) (parts.0 has),
        λ (row, (k, within, at), has). parts.1 (by_place row k within at has more.1),
      )
    where
      behind_first : (row : X) × Contains xs row × HasPage (runs row) n → (row : X) × Contains (x ∷ xs) row × HasPage (runs row) n
      behind_first (row, (k, within, at), has) = (row, (suc k, omega (arith, within), at), has)

      by_place : (row : X) (k : ℕ) → k < length (x ∷ xs) → get_or (x ∷ xs) k row ≡ row → HasPage (runs row) n → ((row : X) × Contains xs row × HasPage (runs row) n → HasPage (flat_map runs xs) n)
          → HasPage (runs x) n ⊎ HasPage (flat_map runs xs) n
      by_place row zero within at has more = inl (subst (λ r. HasPage (runs r) n) (sym at) has)
      by_place row (suc k) within at has more = inr (more (row, (k, omega (arith, within), at), has))

  -- ---- rows put behind other spans, one by one

  abbrev pub ArePushed : List Span → List X → List Span → ℕ → Type 0
  ArePushed old rows new number = (n : ℕ) → HasAnyOf new n ↔ (HasAnyOf old n ⊎ IsBelow rows (λ row. HasPage (runs row) n) number)

  pub pushed_none : (old : List Span) (rows : List X) → ArePushed old rows old 0
  pushed_none old rows n = ((λ has. inl has), (λ which. ⊎_elim (λ has. has) (λ below. absurd (none_below rows (λ row. HasPage (runs row) n) below)) which))

  pub pushed_more : (old now : List Span) (rows : List X) (number : ℕ) (row : X) (span : Span) → ArePushed old rows now number → ((d : X) → get_or rows number d ≡ row)
      → ((n : ℕ) → HasPage (runs row) n ↔ IsOf span n) → ArePushed old rows (now ++ span ∷ []) (number + 1)
  pushed_more old now rows number row span are item same n =
      let more = below_more rows (λ r. HasPage (runs r) n) number row item in
      let put = push_span now span n in (
        λ has. ⊎_elim (λ was. ⊎_elim (λ first. inl first) (λ below. inr (more.0 (inl below))) ((are n).0 was)) (λ of. inr (more.0 (inr ((same n).1 of)))) (put.0 has),
        λ which. put.1 (⊎_elim (λ first. inl ((are n).1 (inl first))) (λ below. ⊎_elim (λ low. inl ((are n).1 (inr low))) (λ here. inr ((same n).0 here)) (more.1 below)) which),
      )

  pub pushed_all : (old now : List Span) (rows : List X) (number : ℕ) → ArePushed old rows now number → length rows ≤ number → number ≤ length rows
      → (n : ℕ) → HasAnyOf now n ↔ (HasAnyOf old n ⊎ HasPage (flat_map runs rows) n)
  pushed_all old now rows number are whole end n =
      let all = below_all rows (λ r. HasPage (runs r) n) number whole end in
      let some = some_row rows n in (
        λ has. ⊎_elim (λ first. inl first) (λ below. inr (some.1 (all.0 below))) ((are n).0 has),
        λ which. (are n).1 (⊎_elim (λ first. inl first) (λ there. inr (all.1 (some.0 there))) which),
      )
