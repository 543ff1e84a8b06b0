-- Pages, one of which was put, and their rows.
use Rattle.std.proofs.Common.{◌≡◌, ◌∙◌, ℕ, zero, suc, ◌+◌, ◌<◌, ◌≤◌, Bool, true, false, cond, ◌||◌, Some, List, [], ◌∷◌, ◌++◌, length, take, drop, slice_get, refl, sym, ap, arith, append_assoc}
use Rattle.std.proofs.lemmas.Bool.{both_ways, or_from, or_parts}
use Rattle.std.proofs.lemmas.List.Concat.{flat_map-append}
use Rattle.std.specs.List.{AllByRecursion}
use Rattle.std.specs.Option.{is_some, option_map_or}
use Rattle.directory_pages.specs.page_store.Bitfiles.{with_entry}
use Rattle.directory_pages.specs.declared.row.Row.{Row}
use Rattle.directory_pages.specs.RowPage.{rows_of}
use Rattle.directory_pages.specs.Rows.{found, has_name, is_named, without}
use Rattle.directory_pages.proofs.Places.{is_named_so, named_is}
use Rattle.directory_pages.proofs.Removed.{all_drop, all_join, all_take}
use Rattle.directory_rows.specs.Directory.{NamesOnce, all_rows, rows_at}
use Rattle.directory_rows.proofs.Parts.{no_pages, rows_past}

-- ---- a page in place of another, or after the last

entry_later : (number : ℕ) (page first : List ℕ) (pages : List (List ℕ)) → with_entry (suc number) page (first ∷ pages) ≡ first ∷ with_entry number page pages
entry_later number page first pages = let e : suc number + 1 ≡ suc (number + 1) = omega arith in ap (λ n. take (suc number) (first ∷ pages) ++ page ∷ drop n (first ∷ pages)) e

pub at_put : (number : ℕ) (page : List ℕ) (pages : List (List ℕ)) → number ≤ length pages → slice_get (with_entry number page pages) number ≡ Some page
at_put zero page pages within = refl
at_put (suc number) page [] within = absurd (omega (arith, within))
at_put (suc number) page (first ∷ pages) within = ap (λ ps. slice_get ps (suc number)) (entry_later number page first pages) ∙ at_put number page pages (omega (arith, within))

pub at_other : (k number : ℕ) (page : List ℕ) (pages : List (List ℕ)) → number ≤ length pages → (¬ k ≡ number) → slice_get (with_entry number page pages) k ≡ slice_get pages k
at_other zero zero page pages within other = absurd (other refl)
at_other (suc zero) zero page [] within other = refl
at_other (suc (suc k)) zero page [] within other = refl
at_other (suc k) zero page (first ∷ pages) within other = refl
at_other k (suc number) page [] within other = absurd (omega (arith, within))
at_other zero (suc number) page (first ∷ pages) within other = refl
at_other (suc k) (suc number) page (first ∷ pages) within other =
    ap (λ ps. slice_get ps (suc k)) (entry_later number page first pages) ∙ at_other k number page pages (omega (arith, within)) (λ same. other (ap suc same))

pub rows_at_put : (number : ℕ) (page : List ℕ) (pages : List (List ℕ)) → number ≤ length pages → rows_at number (with_entry number page pages) ≡ rows_of page
rows_at_put number page pages within = ap (λ o. option_map_or rows_of o []) (at_put number page pages within)

pub rows_at_other : (k number : ℕ) (page : List ℕ) (pages : List (List ℕ)) → number ≤ length pages → (¬ k ≡ number) → rows_at k (with_entry number page pages) ≡ rows_at k pages
rows_at_other k number page pages within other = ap (λ o. option_map_or rows_of o []) (at_other k number page pages within other)

pub all_put : (P : List ℕ → Type 0) (number : ℕ) (page : List ℕ) (pages : List (List ℕ)) → AllByRecursion P pages → P page → AllByRecursion P (with_entry number page pages)
all_put P number page pages all one = all_join P (take number pages) (page ∷ drop (number + 1) pages) (all_take P pages number all) (one, all_drop P pages (number + 1) all)

pub long_put : (number : ℕ) (page : List ℕ) (pages : List (List ℕ)) → number ≤ length pages → length pages ≤ length (with_entry number page pages)
long_put zero page [] within = omega arith
long_put zero page (first ∷ pages) within = omega arith
long_put (suc number) page [] within = absurd (omega (arith, within))
long_put (suc number) page (first ∷ pages) within = omega (arith, ap length (entry_later number page first pages), long_put number page pages (omega (arith, within)))

pub long_most : (number : ℕ) (page : List ℕ) (pages : List (List ℕ)) → number ≤ length pages → length (with_entry number page pages) ≤ length pages + 1
long_most zero page [] within = omega arith
long_most zero page (first ∷ pages) within = omega arith
long_most (suc number) page [] within = absurd (omega (arith, within))
long_most (suc number) page (first ∷ pages) within = omega (arith, ap length (entry_later number page first pages), long_most number page pages (omega (arith, within)))

pub long_replaced : (number : ℕ) (page : List ℕ) (pages : List (List ℕ)) → number < length pages → length (with_entry number page pages) ≡ length pages
long_replaced number page [] below = absurd (omega (arith, below))
long_replaced zero page (first ∷ pages) below = refl
long_replaced (suc number) page (first ∷ pages) below = ap length (entry_later number page first pages) ∙ ap suc (long_replaced number page pages (omega (arith, below)))

-- ---- all rows, in three parts

pub three_parts : (number : ℕ) (pages : List (List ℕ)) → all_rows pages ≡ all_rows (take number pages) ++ (rows_at number pages ++ all_rows (drop (number + 1) pages))
three_parts zero [] = refl
three_parts (suc number) [] = let e : suc number + 1 ≡ suc (number + 1) = omega arith in ap (λ n. all_rows (drop n no_pages)) (sym e)
three_parts zero (page ∷ pages) = refl
three_parts (suc number) (page ∷ pages) =
    let e : suc number + 1 ≡ suc (number + 1) = omega arith in
    ap (λ (rs : List Row). rows_of page ++ rs) (three_parts number pages)
    ∙ sym (append_assoc (rows_of page) (all_rows (take number pages)) (rows_at number pages ++ all_rows (drop (number + 1) pages)))
    ∙ ap (λ n. all_rows (take (suc number) (page ∷ pages)) ++ (rows_at (suc number) (page ∷ pages) ++ all_rows (drop n (page ∷ pages)))) (sym e)

pub parts_put : (number : ℕ) (page : List ℕ) (pages : List (List ℕ)) → all_rows (with_entry number page pages) ≡ all_rows (take number pages) ++ (rows_of page ++ all_rows (drop (number + 1) pages))
parts_put number page pages = flat_map-append rows_of (take number pages) (page ∷ drop (number + 1) pages)

-- ---- names

pub no_name : (name : List ℕ) (front : List Row) (row : Row) (back : List Row) → is_named name (front ++ back) ≡ false → has_name name row ≡ false → is_named name (front ++ row ∷ back) ≡ false
no_name name [] row back none other = or_from (has_name name row) (is_named name back) other none
no_name name (r ∷ front) row back none other =
    let parts = or_parts (has_name name r) (is_named name (front ++ back)) none in
    or_from (has_name name r) (is_named name (front ++ row ∷ back)) parts.0 (no_name name front row back parts.1 other)

pub no_name_without : (name : List ℕ) (front : List Row) (row : Row) (back : List Row) → is_named name (front ++ row ∷ back) ≡ false → is_named name (front ++ back) ≡ false
no_name_without name [] row back none = (or_parts (has_name name row) (is_named name back) none).1
no_name_without name (r ∷ front) row back none =
    let parts = or_parts (has_name name r) (is_named name (front ++ row ∷ back)) none in
    or_from (has_name name r) (is_named name (front ++ back)) parts.0 (no_name_without name front row back parts.1)

other_way : (a b : Row) → has_name a.name b ≡ false → has_name b.name a ≡ false
other_way a b other = by_test (has_name b.name a) refl
  where
    by_test : (t : Bool) → has_name b.name a ≡ t → t ≡ false
    by_test true same = absurd (both_ways (has_name a.name b) other (is_named_so a.name b (sym (named_is b.name a same))))
    by_test false not_same = refl

pub once_with : (front : List Row) (row : Row) (back : List Row) → NamesOnce (front ++ back) → is_named row.name (front ++ back) ≡ false → NamesOnce (front ++ row ∷ back)
once_with [] row back once fresh = (fresh, once)
once_with (r ∷ front) row back once fresh =
    let parts = or_parts (has_name row.name r) (is_named row.name (front ++ back)) fresh in
    (no_name r.name front row back once.0 (other_way row r parts.0), once_with front row back once.1 parts.1)

pub once_without : (front : List Row) (row : Row) (back : List Row) → NamesOnce (front ++ row ∷ back) → NamesOnce (front ++ back)
once_without [] row back once = once.1
once_without (r ∷ front) row back once = (no_name_without r.name front row back once.0, once_without front row back once.1)

-- ---- the row of a name

pub record Named (name : List ℕ) (rows : List Row) : Type 0 where
  pub front : List Row
  pub row : Row
  pub back : List Row
  pub named : row.name ≡ name
  pub parts : rows ≡ front ++ row ∷ back
  pub left : without name rows ≡ front ++ back

pub the_named : (name : List ℕ) (rows : List Row) → is_named name rows ≡ true → Named name rows
the_named name [] there = absurd cc
the_named name (row ∷ rows) there = by_test (has_name name row) refl (the_named name rows)
  where
    by_test : (b : Bool) → has_name name row ≡ b → (is_named name rows ≡ true → Named name rows) → Named name (row ∷ rows)
    by_test true same later = record {
      front = [];
      row = row;
      back = rows;
      named = named_is name row same;
      parts = refl;
      left = ap (λ b. cond b rows (row ∷ without name rows)) same;
    }
    by_test false other later =
        let at = later (sym (ap (λ b. b || is_named name rows) other) ∙ there) in
        record {
          front = row ∷ at.front;
          row = at.row;
          back = at.back;
          named = at.named;
          parts = ap (λ (rs : List Row). row ∷ rs) at.parts;
          left = ap (λ b. cond b rows (row ∷ without name rows)) other ∙ ap (λ (rs : List Row). row ∷ rs) at.left;
        }

-- a name has a row if and only if one is found
pub named_found : (name : List ℕ) (rows : List Row) → is_named name rows ≡ is_some (found name rows)
named_found name [] = refl
named_found name (row ∷ rows) = by_test (has_name name row) (named_found name rows)
  where
    by_test : (b : Bool) → is_named name rows ≡ is_some (found name rows) → (b || is_named name rows) ≡ is_some (cond b (Some (row.tag, row.kind)) (found name rows))
    by_test true later = refl
    by_test false later = later

-- a row of a name is on a page
pub named_within : (name : List ℕ) (pages : List (List ℕ)) (number : ℕ) → is_named name (rows_at number pages) ≡ true → number < length pages
named_within name [] number there = absurd (both_ways (is_named name (rows_at number [])) (ap (is_named name) (rows_past no_pages number (omega arith))) there)
named_within name (page ∷ pages) zero there = omega arith
named_within name (page ∷ pages) (suc number) there = omega (arith, named_within name pages number there)
