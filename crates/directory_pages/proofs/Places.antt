-- Where the first row with a name stands.
use Rattle.std.proofs.Common.{◌≡◌, ◌∙◌, ℕ, ◌+◌, ◌≤◌, Bool, true, false, cond, ◌||◌, List, [], ◌∷◌, ◌++◌, length, refl, sym, ap, arith, append_assoc, length-append}
use Rattle.std.proofs.lemmas.Bool.{both_ways, or_left, or_right}
use Rattle.std.proofs.lemmas.List.{append-nil}
use Rattle.std.proofs.lemmas.Slice.Eq.{bytes_eq-Decides}
use Rattle.std.specs.List.{AllByRecursion}
use Rattle.directory_pages.specs.declared.row.Row.{Row}
use Rattle.directory_pages.specs.Rows.{has_name, is_named, spelled_row, spelling, without}
use Rattle.directory_pages.specs.RowPage.{IsPlace}
use Rattle.directory_pages.proofs.Again.{row_long, spelling-append}

-- rows, some of which were looked at, and none of these has the name
pub record Passed (name : List ℕ) (rows : List Row) (start : ℕ) (left : List Row) : Type 0 where
  pub front : List Row
  pub parts : rows ≡ front ++ left
  pub none : AllByRecursion (λ (r : Row). ¬ r.name ≡ name) front
  pub starts : start ≡ 16 + length (spelling front)

pub not_looked : (name : List ℕ) (rows : List Row) → Passed name rows 16 rows
not_looked name rows = record { front = []; parts = refl; none = tt; starts = omega arith }

none_more : (name : List ℕ) (front : List Row) (row : Row) → AllByRecursion (λ (r : Row). ¬ r.name ≡ name) front → (¬ row.name ≡ name) → AllByRecursion (λ (r : Row). ¬ r.name ≡ name) (front ++ row ∷ [])
none_more name [] row none other = (other, tt)
none_more name (r ∷ front) row none other = (none.0, none_more name front row none.1 other)

pub named_is : (name : List ℕ) (row : Row) → has_name name row ≡ true → row.name ≡ name
named_is name row same = (bytes_eq-Decides row.name name).0 same

pub is_named_so : (name : List ℕ) (row : Row) → row.name ≡ name → has_name name row ≡ true
is_named_so name row same = (bytes_eq-Decides row.name name).1 same

pub passed_more : (name : List ℕ) (rows : List Row) (start : ℕ) (row : Row) (before left : List Row) → Passed name rows start before → before ≡ row ∷ left → has_name name row ≡ false → Passed name rows (start + (8 + length row.name)) left
passed_more name rows start row before left was first other = record {
  front = was.front ++ row ∷ [];
  parts = was.parts ∙ ap (λ (rs : List Row). was.front ++ rs) first ∙ sym (append_assoc was.front (row ∷ []) left);
  none = none_more name was.front row was.none (λ same. both_ways (has_name name row) other (is_named_so name row same));
  starts = omega (arith, was.starts, ap length (spelling-append was.front (row ∷ [])), length-append (spelling was.front) (spelled_row row ++ []), ap length (append-nil (spelled_row row)), row_long row);
}

pub place : (name : List ℕ) (rows : List Row) (start : ℕ) (row : Row) (before left : List Row) → Passed name rows start before → before ≡ row ∷ left → has_name name row ≡ true → IsPlace name rows start (8 + length row.name)
place name rows start row before left was first same = record {
  front = was.front;
  row = row;
  back = left;
  parts = was.parts ∙ ap (λ (rs : List Row). was.front ++ rs) first;
  first = was.none;
  named = named_is name row same;
  starts = was.starts;
  sized = sym (row_long row);
}

none_named : (name : List ℕ) (front : List Row) → AllByRecursion (λ (r : Row). ¬ r.name ≡ name) front → is_named name front ≡ false
none_named name [] none = refl
none_named name (r ∷ front) none = by_test (has_name name r) refl (none_named name front none.1)
  where
    by_test : (b : Bool) → has_name name r ≡ b → is_named name front ≡ false → is_named name (r ∷ front) ≡ false
    by_test true same later = absurd (none.0 (named_is name r same))
    by_test false other later = ap (λ b. b || is_named name front) other ∙ later

pub no_place : (name : List ℕ) (rows : List Row) (start : ℕ) (left : List Row) → Passed name rows start left → left ≡ [] → is_named name rows ≡ false
no_place name rows start left was ends = ap (is_named name) (was.parts ∙ ap (λ (rs : List Row). was.front ++ rs) ends ∙ append-nil was.front) ∙ none_named name was.front was.none

-- the rows without the one at the place
pub without_is : (name : List ℕ) (front : List Row) (row : Row) (back : List Row) → AllByRecursion (λ (r : Row). ¬ r.name ≡ name) front → row.name ≡ name → without name (front ++ row ∷ back) ≡ front ++ back
without_is name [] row back none same = ap (λ b. cond b back (row ∷ without name back)) (is_named_so name row same)
without_is name (r ∷ front) row back none same = by_test (has_name name r) refl (without_is name front row back none.1 same)
  where
    by_test : (b : Bool) → has_name name r ≡ b → without name (front ++ row ∷ back) ≡ front ++ back → without name (r ∷ (front ++ row ∷ back)) ≡ r ∷ (front ++ back)
    by_test true is later = absurd (none.0 (named_is name r is))
    by_test false other later = ap (λ b. cond b (front ++ row ∷ back) (r ∷ without name (front ++ row ∷ back))) other ∙ ap (λ (rs : List Row). r ∷ rs) later

pub named_there : (name : List ℕ) (front : List Row) (row : Row) (back : List Row) → row.name ≡ name → is_named name (front ++ row ∷ back) ≡ true
named_there name [] row back same = or_left (has_name name row) (is_named name back) (is_named_so name row same)
named_there name (r ∷ front) row back same = or_right (has_name name r) (is_named name (front ++ row ∷ back)) (named_there name front row back same)

-- the row at the place ends where all rows end, or before
pub ends_within : (name : List ℕ) (rows : List Row) (start : ℕ) (row : Row) (before left : List Row) → Passed name rows start before → before ≡ row ∷ left → start + (8 + length row.name) ≤ 16 + length (spelling rows)
ends_within name rows start row before left was first =
    let all = was.parts ∙ ap (λ (rs : List Row). was.front ++ rs) first in
    omega (arith, was.starts, ap length (ap spelling all ∙ spelling-append was.front (row ∷ left)), length-append (spelling was.front) (spelled_row row ++ spelling left), length-append (spelled_row row) (spelling left), row_long row)

module _ (name : List ℕ) (rows : List Row) (start size : ℕ) (at : IsPlace name rows start size) where
  pub place_within : start + size ≤ 16 + length (spelling rows)
  place_within =
      omega (arith, at.starts, at.sized, ap length (ap spelling at.parts ∙ spelling-append at.front (at.row ∷ at.back)), length-append (spelling at.front) (spelled_row at.row ++ spelling at.back), length-append (spelled_row at.row) (spelling at.back))

  pub some_row : 1 ≤ length rows
  some_row = omega (arith, ap length at.parts, length-append at.front (at.row ∷ at.back))

  pub without_place : without name rows ≡ at.front ++ at.back
  without_place = ap (without name) at.parts ∙ without_is name at.front at.row at.back at.first at.named

  pub place_named : is_named name rows ≡ true
  place_named = ap (is_named name) at.parts ∙ named_there name at.front at.row at.back at.named

  pub place_long : size ≡ 8 + length name
  place_long = at.sized ∙ row_long at.row ∙ ap (λ (bs : List ℕ). 8 + length bs) at.named
