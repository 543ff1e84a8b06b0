-- Directory pages: 16 bytes, and rows without gaps.
use Rattle.std.specs.Prelude.{◌≡◌, ◌==◌, ◌&&◌, ◌+◌, ◌-◌, ℕ, Bool, nat_le, List, [], ◌∷◌, ◌++◌, length, take, drop}
use Rattle.std.specs.List.{AllByRecursion}
use Rattle.cell_records.specs.domain_base.Page.{zero_bytes}
use Rattle.cell_records.specs.Fields.{number_at}
use Rattle.cell_records.specs.Records.{spelled}
use Rattle.directory_pages.specs.declared.row.Row.{Row}
use Rattle.directory_pages.specs.Rows.{IsRow, first_rows, spelled_row, spelling}

-- what a page begins with: `DIRP`, the bytes of its rows, how many rows it has, and a zero
abbrev pub header_widths : List ℕ
header_widths = 4 ∷ 2 ∷ 2 ∷ 8 ∷ []

abbrev pub header_numbers : ℕ → ℕ → List ℕ
header_numbers size count = 0x50524944 ∷ size ∷ count ∷ 0 ∷ []

-- the first bytes of a page of rows
abbrev pub header : List Row → List ℕ
header rows = spelled header_widths (header_numbers (length (spelling rows)) (length rows))

-- these rows, and what stands after them
abbrev pub page_of : List Row → List ℕ → List ℕ
page_of rows rest = header rows ++ spelling rows ++ rest

-- a page is these rows, each of them well formed; what stands after them is not read
pub record IsRowPage (page : List ℕ) (rows : List Row) : Type 0 where
  pub whole : length page ≡ 8192
  pub rest : List ℕ
  pub parts : page ≡ page_of rows rest
  pub good : AllByRecursion IsRow rows

-- how many bytes the rows of a page take
abbrev pub size_of : List ℕ → ℕ
size_of page = number_at 2 4 page

-- the rows of a page, and what stands after them
abbrev pub rows_of : List ℕ → List Row
rows_of page = first_rows (number_at 2 6 page) (drop 16 page)

-- the bytes after the rows, which are not read
abbrev pub behind : List ℕ → List ℕ
behind page = drop (16 + size_of page) page

-- a page begins as a directory page does, and its rows end on it
abbrev pub has_header : List ℕ → Bool
has_header page =
    (number_at 4 0 page == 0x50524944) && (number_at 8 8 page == 0)
    && nat_le (16 + size_of page) 8192

-- a well-formed page
abbrev pub IsDirPage : List ℕ → Type 0
IsDirPage page = IsRowPage page (rows_of page)

-- a row of this name fits after the rows of a page
abbrev pub fits : List ℕ → List ℕ → Bool
fits name page = nat_le (16 + size_of page + 8 + length name) 8192

-- a page is rows in one way at most
abbrev pub RowsOnce : Type 0
RowsOnce = (page : List ℕ) (rows : List Row) → IsRowPage page rows → rows_of page ≡ rows

-- a page that has these rows now, and after them these bytes
pub record HasRows (rows : List Row) (rest page : List ℕ) : Type 0 where
  pub value : page ≡ page_of rows rest
  pub good : IsDirPage page
  pub read : rows_of page ≡ rows

-- the list in which the bytes from a gap's end up to another end stand where the gap was, and after
-- them as many zeros as the gap had bytes
abbrev pub closed : ℕ → ℕ → ℕ → List ℕ → List ℕ
closed gap len end page =
    take gap page ++ take (end - (gap + len)) (drop (gap + len) page) ++ zero_bytes len
    ++ drop end page

-- where the first row with a name stands: the byte at which it begins, and how many it has
pub record IsPlace (name : List ℕ) (rows : List Row) (start size : ℕ) : Type 0 where
  pub front : List Row
  pub row : Row
  pub back : List Row
  pub parts : rows ≡ front ++ row ∷ back
  pub first : AllByRecursion (λ (r : Row). ¬ r.name ≡ name) front
  pub named : row.name ≡ name
  pub starts : start ≡ 16 + length (spelling front)
  pub sized : size ≡ length (spelled_row row)
