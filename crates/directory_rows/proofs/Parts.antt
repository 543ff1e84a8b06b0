-- The pages of a directory and their rows.
use Rattle.std.proofs.Common.{Result, Ok, Err, IfOk, ◌≡◌, ◌∙◌, ℕ, zero, suc, ◌+◌, ◌*◌, ◌≤◌, Option, Some, None, List, [], ◌∷◌, ◌++◌, length, take, slice_get, refl, sym, ap, arith, append_assoc, length-append}
use Rattle.std.proofs.lemmas.List.{append-nil, nil_from_length}
use Rattle.std.specs.List.{AllByRecursion}
use Rattle.std.specs.Option.{IfSome, option_and_then, option_map_or}
use Rattle.directory_pages.specs.domain_base.declared.place.Tag.{Tag}
use Rattle.directory_pages.specs.page_store.Bitfiles.{Bitfile, Bitfiles, IsBitfile, count_pages, page_at}
use Rattle.directory_pages.specs.declared.row.Row.{Row}
use Rattle.directory_pages.specs.RowPage.{IsDirPage, rows_of}
use Rattle.directory_pages.specs.Rows.{spelled_row, spelling}
use Rattle.directory_pages.proofs.Again.{row_long}
use Rattle.directory_pages.proofs.PageParts.{small}
use Rattle.directory_rows.specs.Directory.{all_rows, row_pages, rows_at}

pub at_past : {X : Type 0} (xs : List X) (k : ℕ) → length xs ≤ k → slice_get xs k ≡ None
at_past [] zero past = refl
at_past [] (suc k) past = refl
at_past (x ∷ xs) zero past = absurd (omega (arith, past))
at_past (x ∷ xs) (suc k) past = at_past xs k (omega (arith, past))

abbrev pub no_pages : List (List ℕ)
no_pages = []

pub page_is : (files : Bitfiles) (tag : Tag) (k : ℕ) → page_at files tag k ≡ slice_get (row_pages files tag) k
page_is files tag k = by_file (files tag)
  where
    by_file : (o : Option Bitfile) → option_and_then (λ (file : Bitfile). slice_get file.pages k) o ≡ slice_get (option_map_or (λ (file : Bitfile). file.pages) o []) k
    by_file None = sym (at_past no_pages k (omega arith))
    by_file (Some file) = refl

pub count_is : (files : Bitfiles) (tag : Tag) → count_pages files tag ≡ length (row_pages files tag)
count_is files tag = by_file (files tag)
  where
    by_file : (o : Option Bitfile) → option_map_or (λ (file : Bitfile). length file.pages) o 0 ≡ length (option_map_or (λ (file : Bitfile). file.pages) o [])
    by_file None = refl
    by_file (Some file) = refl

pub pages_fit : (files : Bitfiles) (tag : Tag) → IfSome (files tag) IsBitfile → length (row_pages files tag) ≤ 65536
pages_fit files tag = by_file (files tag)
  where
    by_file : (o : Option Bitfile) → IfSome o IsBitfile → length (option_map_or (λ (file : Bitfile). file.pages) o []) ≤ 65536
    by_file None good = omega arith
    by_file (Some file) good = good.fits

pub rows_at_page : (pages : List (List ℕ)) (k : ℕ) (page : List ℕ) → slice_get pages k ≡ Some page → rows_at k pages ≡ rows_of page
rows_at_page pages k page there = ap (λ o. option_map_or rows_of o []) there

pub rows_at_none : (pages : List (List ℕ)) (k : ℕ) → slice_get pages k ≡ None → rows_at k pages ≡ []
rows_at_none pages k there = ap (λ o. option_map_or rows_of o []) there

pub rows_past : (pages : List (List ℕ)) (k : ℕ) → length pages ≤ k → rows_at k pages ≡ []
rows_past pages k past = rows_at_none pages k (at_past pages k past)

-- the rows of one page more
pub rows_more : (pages : List (List ℕ)) (k : ℕ) → all_rows (take (k + 1) pages) ≡ all_rows (take k pages) ++ rows_at k pages
rows_more [] zero = refl
rows_more [] (suc k) = let e : suc k + 1 ≡ suc (k + 1) = omega arith in ap (λ n. all_rows (take n no_pages)) e
rows_more (page ∷ pages) zero = append-nil (rows_of page)
rows_more (page ∷ pages) (suc k) =
    let e : suc k + 1 ≡ suc (k + 1) = omega arith in
    ap (λ n. all_rows (take n (page ∷ pages))) e ∙ ap (λ (rs : List Row). rows_of page ++ rs) (rows_more pages k) ∙ sym (append_assoc (rows_of page) (all_rows (take k pages)) (rows_at k pages))

-- rows that were copied, and those of one page more
pub copied_more : (pages : List (List ℕ)) (k : ℕ) (old new : List Row) → old ≡ all_rows (take k pages) → new ≡ old ++ rows_at k pages → new ≡ all_rows (take (k + 1) pages)
copied_more pages k old new were are = are ∙ ap (λ (rs : List Row). rs ++ rows_at k pages) were ∙ sym (rows_more pages k)

-- no rows so far, and none on one page more
pub none_more : (pages : List (List ℕ)) (k : ℕ) → all_rows (take k pages) ≡ [] → length (rows_at k pages) ≡ 0 → all_rows (take (k + 1) pages) ≡ []
none_more pages k none here = rows_more pages k ∙ ap (λ (rs : List Row). rs ++ rows_at k pages) none ∙ nil_from_length (rows_at k pages) here

-- each row takes eight bytes and its name
rows_long : (rows : List Row) → 8 * length rows ≤ length (spelling rows)
rows_long [] = omega arith
rows_long (row ∷ rows) = omega (arith, length-append (spelled_row row) (spelling rows), row_long row, rows_long rows)

-- a page has at most 1,022 rows
few : (page : List ℕ) → IsDirPage page → length (rows_of page) ≤ 1022
few page is = omega (arith, rows_long (rows_of page), small page (rows_of page) is)

pub rows_at_few : (pages : List (List ℕ)) (k : ℕ) → AllByRecursion IsDirPage pages → length (rows_at k pages) ≤ 1022
rows_at_few [] k all = omega (arith, ap length (rows_past no_pages k (omega arith)))
rows_at_few (page ∷ pages) zero all = few page all.0
rows_at_few (page ∷ pages) (suc k) all = rows_at_few pages k all.1

-- the rows of one page are among all
pub rows_at_within : (pages : List (List ℕ)) (k : ℕ) → length (rows_at k pages) ≤ length (all_rows pages)
rows_at_within [] k = omega (arith, ap length (rows_past no_pages k (omega arith)))
rows_at_within (page ∷ pages) zero = omega (arith, length-append (rows_of page) (all_rows pages))
rows_at_within (page ∷ pages) (suc k) = omega (arith, length-append (rows_of page) (all_rows pages), rows_at_within pages k)

pub if_ok_weaker : {T E : Type 0} {P Q : T → Type 0} (r : Result T E) → ((x : T) → P x → Q x) → IfOk r P → IfOk r Q
if_ok_weaker (Ok x) weaker holds = weaker x holds
if_ok_weaker (Err e) weaker holds = tt
