-- The parts of a directory page.
use Rattle.std.proofs.Common.{◌≡◌, ◌∙◌, ℕ, ◌+◌, ◌<◌, ◌≤◌, ◌&&◌, true, nat_eq, nat_le, List, ◌++◌, length, take, drop, get_or, refl, sym, ap, subst, arith, append_assoc, length-append}
use Rattle.std.proofs.lemmas.Bool.{and_from, eq-eqb, le-leb}
use Rattle.std.proofs.lemmas.List.{take_at, drop_at, drop-drop}
use Rattle.cell_records.specs.Fields.{Fit, number_at}
use Rattle.cell_records.specs.Records.{spelled}
use Rattle.cell_records.proofs.Scan.{decoded}
use Rattle.cell_records.proofs.Spelling.{length-spelled}
use Rattle.directory_pages.specs.declared.row.Row.{Row}
use Rattle.directory_pages.specs.Rows.{are_rows, first_rows, fit_rows, spelling}
use Rattle.directory_pages.specs.RowPage.{IsDirPage, IsRowPage, behind, has_header, header, header_numbers, header_widths, rows_of, size_of}
use Rattle.directory_pages.proofs.Again.{read_again, rows_again, rows_are, rows_fit, rows_long}

abbrev pub spelled_header : ℕ → ℕ → List ℕ
spelled_header size count = spelled header_widths (header_numbers size count)

pub header_long : (size count : ℕ) → length (spelled_header size count) ≡ 16
header_long size count = length-spelled header_widths (header_numbers size count) refl

pub fit_header : (size count : ℕ) → size < 65536 → count < 65536 → Fit header_widths (header_numbers size count)
fit_header size count small few =
    ((omega arith, omega arith), omega arith, ((omega arith, omega arith), small, ((omega arith, omega arith), few, ((omega arith, omega arith), omega arith, tt))))

module _ (page : List ℕ) (rows : List Row) (is : IsRowPage page rows) where
  abbrev body : List ℕ
  body = spelling rows ++ is.rest

  pub grouped : page ≡ header rows ++ body
  grouped = is.parts ∙ append_assoc (header rows) (spelling rows) is.rest

  head_long : length (header rows) ≡ 16
  head_long = header_long (length (spelling rows)) (length rows)

  pub all_bytes : 16 + length (spelling rows) + length is.rest ≡ 8192
  all_bytes = omega (arith, is.whole, ap length grouped, length-append (header rows) body, length-append (spelling rows) is.rest, head_long)

  pub small : length (spelling rows) ≤ 8176
  small = omega (arith, all_bytes)

  pub few : length rows ≤ 8176
  few = omega (arith, small, rows_long rows)

  fit : Fit header_widths (header_numbers (length (spelling rows)) (length rows))
  fit = fit_header (length (spelling rows)) (length rows) (omega (arith, small)) (omega (arith, few))

  back : decoded header_widths 0 page ≡ header_numbers (length (spelling rows)) (length rows)
  back = ap (decoded header_widths 0) grouped ∙ read_again header_widths (header_numbers (length (spelling rows)) (length rows)) body fit

  at : (k : ℕ) → get_or (decoded header_widths 0 page) k 0 ≡ get_or (header_numbers (length (spelling rows)) (length rows)) k 0
  at k = ap (λ ns. get_or ns k 0) back

  pub size_is : size_of page ≡ length (spelling rows)
  size_is = at 1

  pub count_is : number_at 2 6 page ≡ length rows
  count_is = at 2

  pub from_rows_on : drop 16 page ≡ body
  from_rows_on = ap (drop 16) grouped ∙ drop_at (header rows) body 16 head_long

  pub rows_are_once : rows_of page ≡ rows
  rows_are_once = (λ i. first_rows (count_is i) (from_rows_on i)) ∙ rows_again rows is.rest is.good

  pub fits : fit_rows (number_at 2 6 page) (drop 16 page) ≡ true
  fits = (λ i. fit_rows (count_is i) (from_rows_on i)) ∙ rows_fit rows is.rest is.good

  pub behind_is : behind page ≡ is.rest
  behind_is =
      ap (λ n. drop (16 + n) page) size_is ∙ sym (drop-drop (length (spelling rows)) 16 page) ∙ ap (drop (length (spelling rows))) from_rows_on
      ∙ drop_at (spelling rows) is.rest (length (spelling rows)) refl

  -- what the tests of a page answer
  pub header_is : has_header page ≡ true
  header_is =
      let magic = nat_eq (number_at 4 0 page) 0x50524944 in
      let zero = nat_eq (number_at 8 8 page) 0 in
      and_from (magic && zero) (nat_le (16 + size_of page) 8192)
      (and_from magic zero (eq-eqb (number_at 4 0 page) 0x50524944 (at 0)) (eq-eqb (number_at 8 8 page) 0 (at 3)))
      (le-leb (16 + size_of page) 8192 (omega (arith, size_is, small)))

  pub tested : are_rows (number_at 2 6 page) (take (size_of page) (drop 16 page)) ≡ true
  tested =
      ap (λ n. are_rows n (take (size_of page) (drop 16 page))) count_is
      ∙ ap (are_rows (length rows)) (ap (λ n. take n (drop 16 page)) size_is ∙ ap (take (length (spelling rows))) from_rows_on ∙ take_at (spelling rows) is.rest (length (spelling rows)) refl)
      ∙ rows_are rows is.good

-- a page with rows is one with the rows that are read
pub read_alike : (page : List ℕ) (rows : List Row) → IsRowPage page rows → IsDirPage page
read_alike page rows is = subst (IsRowPage page) (sym (rows_are_once page rows is)) is
