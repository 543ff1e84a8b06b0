-- Bytes that pass the tests are rows.
use Rattle.std.proofs.Common.{◌≡◌, ◌∙◌, ℕ, zero, suc, ◌+◌, ◌^◌, ◌<◌, ◌≤◌, ◌&&◌, Bool, true, false, nat_eq, nat_le, List, [], ◌∷◌, ◌++◌, length, take, drop, sum, refl, sym, ap, arith, append_assoc, length-drop, length-take}
use Rattle.std.proofs.lemmas.Bool.{and_parts, eqb-true, leb-true}
use Rattle.std.proofs.lemmas.List.{drop-drop, take-append-drop}
use Rattle.std.proofs.Math.Seq.{take-add}
use Rattle.std.specs.List.{AllByRecursion}
use Rattle.byteorder.specs.Endian.{little_bytes, little_number}
use Rattle.cell_records.specs.Fields.{number_at}
use Rattle.cell_records.specs.Records.{spelled}
use Rattle.cell_records.proofs.Bytes.{IsBytes, IsBytes-drop, IsBytes-take, little_bytes-little_number, little_number-lt}
use Rattle.cell_records.proofs.Scan.{decoded}
use Rattle.cell_records.proofs.Spelling.{sum-cons}
use Rattle.directory_pages.specs.declared.row.Row.{Row}
use Rattle.directory_pages.specs.Rows.{IsRow, are_rows, first_row, first_rows, is_row, is_row_name, kind_number, kind_of, name_len, other_rows, row_numbers, row_widths, spelled_row, spelling}
use Rattle.directory_pages.specs.RowPage.{IsDirPage, IsRowPage, has_header, header, header_numbers, header_widths, size_of}
use Rattle.directory_pages.proofs.Again.{count_is, head}
use Rattle.directory_pages.proofs.PageParts.{read_alike}

-- numbers that were read spell the bytes in which they stood
pub spelled_back : (ws : List ℕ) (at : ℕ) (bytes : List ℕ) → IsBytes bytes → at + sum ws ≤ length bytes → spelled ws (decoded ws at bytes) ≡ take (sum ws) (drop at bytes)
unfolding number_at spelled
spelled_back [] at bytes fits long = refl
spelled_back (w ∷ ws) at bytes fits long =
    let rest = drop at bytes in
    let within : at + w + sum ws ≤ length bytes = omega (arith, long, sum-cons w ws) in
    let front : little_bytes w (little_number w rest) ≡ take w rest = little_bytes-little_number w rest (IsBytes-drop at bytes fits) (omega (arith, within, length-drop at bytes)) in
    let tail : spelled ws (decoded ws (at + w) bytes) ≡ take (sum ws) (drop w rest) = spelled_back ws (at + w) bytes fits within ∙ ap (take (sum ws)) (sym (drop-drop w at bytes)) in
    (λ i. front i ++ tail i) ∙ sym (take-add w (sum ws) rest) ∙ ap (λ n. take n rest) (sym (sum-cons w ws))

number-lt : (w at : ℕ) (bytes : List ℕ) → IsBytes bytes → number_at w at bytes < 256 ^ w
unfolding number_at
number-lt w at bytes fits = little_number-lt w (drop at bytes) (IsBytes-drop at bytes fits)

kind_back : (n : ℕ) → 1 ≤ n → n ≤ 2 → kind_number (kind_of n) ≡ n
kind_back n low high = by_test (nat_eq n 2) refl
  where
    by_test : (b : Bool) → nat_eq n 2 ≡ b → kind_number (kind_of n) ≡ n
    by_test true is = let e = eqb-true n 2 is in ap (λ m. kind_number (kind_of m)) e ∙ sym e
    by_test false other = let e : n ≡ 1 = one n low high other in ap (λ m. kind_number (kind_of m)) e ∙ sym e
      where
        one : (n : ℕ) → 1 ≤ n → n ≤ 2 → nat_eq n 2 ≡ false → n ≡ 1
        one zero low high other = absurd (omega (arith, low))
        one (suc zero) low high other = refl
        one (suc (suc zero)) low high other = absurd (true_false other)
          where
            true_false : true ≡ false → ⊥
            true_false e = cc
        one (suc (suc (suc n))) low high other = absurd (omega (arith, high))

-- ---- one row

module _ (bytes : List ℕ) (fits : IsBytes bytes) (is : is_row bytes ≡ true) where
  abbrev long : Bool
  long = nat_le (8 + name_len bytes) (length bytes)

  abbrev known : Bool
  known = nat_le 1 (number_at 1 6 bytes) && nat_le (number_at 1 6 bytes) 2

  abbrev named : Bool
  named = is_row_name (take (name_len bytes) (drop 8 bytes))

  parts : (long && known ≡ true) × (named ≡ true)
  parts = and_parts (long && known) named is

  whole : 8 + name_len bytes ≤ length bytes
  whole = leb-true (8 + name_len bytes) (length bytes) (and_parts long known parts.0).0

  range : (nat_le 1 (number_at 1 6 bytes) ≡ true) × (nat_le (number_at 1 6 bytes) 2 ≡ true)
  range = and_parts (nat_le 1 (number_at 1 6 bytes)) (nat_le (number_at 1 6 bytes) 2) (and_parts long known parts.0).1

  pub row_good : IsRow (first_row bytes)
  row_good = record { slot = number-lt 4 0 bytes fits; seq = number-lt 2 4 bytes fits; named = parts.1 }

  kind_same : kind_number (kind_of (number_at 1 6 bytes)) ≡ number_at 1 6 bytes
  kind_same = kind_back (number_at 1 6 bytes) (leb-true 1 (number_at 1 6 bytes) range.0) (leb-true (number_at 1 6 bytes) 2 range.1)

  len_same : length (take (name_len bytes) (drop 8 bytes)) ≡ name_len bytes
  len_same = omega (arith, length-take (name_len bytes) (drop 8 bytes), length-drop 8 bytes, whole)

  numbers_same : row_numbers (first_row bytes) ≡ decoded row_widths 0 bytes
  numbers_same = λ i. number_at 4 0 bytes ∷ number_at 2 4 bytes ∷ kind_same i ∷ len_same i ∷ []

  head_same : head (first_row bytes) ≡ take 8 (drop 0 bytes)
  head_same = ap (spelled row_widths) numbers_same ∙ spelled_back row_widths 0 bytes fits (omega (arith, whole))

  pub row_same : spelled_row (first_row bytes) ≡ take (8 + name_len bytes) bytes
  row_same = ap (λ (bs : List ℕ). bs ++ take (name_len bytes) (drop 8 bytes)) head_same ∙ sym (take-add 8 (name_len bytes) bytes)

-- ---- rows

pub record Tested (n : ℕ) (bytes : List ℕ) : Type 0 where
  pub good : AllByRecursion IsRow (first_rows n bytes)
  pub same : spelling (first_rows n bytes) ≡ bytes

no_bytes : (bytes : List ℕ) → length bytes ≡ 0 → [] ≡ bytes
no_bytes [] e = refl
no_bytes (b ∷ bytes) e = absurd (omega (arith, e))

pub tested : (n : ℕ) (bytes : List ℕ) → IsBytes bytes → are_rows n bytes ≡ true → Tested n bytes
tested zero bytes fits is = record { good = tt; same = no_bytes bytes (eqb-true (length bytes) 0 is) }
tested (suc n) bytes fits is =
    let parts = and_parts (is_row bytes) (are_rows n (other_rows bytes)) is in
    let others = tested n (other_rows bytes) (IsBytes-drop (8 + name_len bytes) bytes fits) parts.1 in
    record {
      good = (row_good bytes fits parts.0, others.good);
      same = (λ i. row_same bytes fits parts.0 i ++ others.same i) ∙ take-append-drop (8 + name_len bytes) bytes;
    }

-- ---- a page

module _ (page : List ℕ) (bytes : IsBytes page) (whole : length page ≡ 8192) (starts : has_header page ≡ true) where
  abbrev magic : Bool
  magic = nat_eq (number_at 4 0 page) 0x50524944

  abbrev zero_there : Bool
  zero_there = nat_eq (number_at 8 8 page) 0

  both : (magic && zero_there ≡ true) × (nat_le (16 + size_of page) 8192 ≡ true)
  both = and_parts (magic && zero_there) (nat_le (16 + size_of page) 8192) starts

  pub ends : 16 + size_of page ≤ 8192
  ends = leb-true (16 + size_of page) 8192 both.1

  module _ (are : are_rows (number_at 2 6 page) (take (size_of page) (drop 16 page)) ≡ true) where
    abbrev count : ℕ
    count = number_at 2 6 page

    abbrev part : List ℕ
    part = take (size_of page) (drop 16 page)

    abbrev rows : List Row
    rows = first_rows count part

    all : Tested count part
    all = tested count part (IsBytes-take (size_of page) (drop 16 page) (IsBytes-drop 16 page bytes)) are

    size_same : length (spelling rows) ≡ size_of page
    size_same = ap length all.same ∙ omega (arith, length-take (size_of page) (drop 16 page), length-drop 16 page, ends, whole)

    numbers_there : header_numbers (length (spelling rows)) (length rows) ≡ decoded header_widths 0 page
    numbers_there = λ i. sym (eqb-true (number_at 4 0 page) 0x50524944 (and_parts magic zero_there both.0).0) i ∷ size_same i ∷ count_is count part i ∷ sym (eqb-true (number_at 8 8 page) 0 (and_parts magic zero_there both.0).1) i ∷ []

    header_same : header rows ≡ take 16 page
    header_same = ap (spelled header_widths) numbers_there ∙ spelled_back header_widths 0 page bytes (omega (arith, whole))

    page_is : page ≡ header rows ++ spelling rows ++ drop (size_of page) (drop 16 page)
    page_is =
        let rest = drop (size_of page) (drop 16 page) in
        sym (take-append-drop 16 page) ∙ ap (λ (bs : List ℕ). take 16 page ++ bs) (sym (take-append-drop (size_of page) (drop 16 page)))
        ∙ sym (append_assoc (take 16 page) part rest) ∙ (λ i. sym header_same i ++ sym all.same i ++ rest)

    row_page : IsRowPage page rows
    row_page = record { whole = whole; rest = drop (size_of page) (drop 16 page); parts = page_is; good = all.good }

    pub good_page : IsDirPage page
    good_page = read_alike page rows row_page
