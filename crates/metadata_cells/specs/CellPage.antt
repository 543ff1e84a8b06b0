-- Pages of the bitfile metadata table: 16 bytes, and 28 cells of 292 bytes.
use Rattle.std.specs.Prelude.{◌≡◌, ◌==◌, ◌&&◌, ◌+◌, ◌*◌, ◌<◌, ℕ, Bool, true, List, take, drop, slice_index, count_by, Option, Some, None, IfSome, IsSomeAnd, nat_lt, if◌then◌else◌}
use Rattle.std.specs.List.{range_with_len}
use Rattle.std.specs.Option.{option_and_then, option_map}
use Rattle.page_store.specs.domain_base.declared.place.CellAt.{CellAt}
use Rattle.page_store.specs.domain_base.declared.place.Home.{Home}
use Rattle.byteorder.specs.Endian.{little_bytes}
use Rattle.page_store.specs.domain_base.Page.{overwritten}
use Rattle.page_store.specs.Pages.{Pages, same_home}
use Rattle.cell_records.specs.Fields.{number_at}
use Rattle.metadata_cells.specs.Cell.{IsFreeCell, IsFreeOrUsed}

-- the page begins as one of the table
abbrev pub is_cell_page : List ℕ → Bool
is_cell_page page = number_at 4 0 page == 0x50544d42

-- the bytes of a cell
abbrev pub cell_of : List ℕ → ℕ → List ℕ
cell_of page cell = take 292 (drop (16 + 292 * cell) page)

-- a cell of the page has the kind of a free one
abbrev pub is_free_in : List ℕ → ℕ → Bool
is_free_in page cell = slice_index page (31 + 292 * cell) == 0

-- how many cells have the kind of a free one
abbrev pub free_cells : List ℕ → ℕ
free_cells page = count_by (is_free_in page) (range_with_len 0 28)

-- the page's index in its volume's table, and the page that is next there, or 0
abbrev pub index_of : List ℕ → ℕ
index_of page = number_at 4 4 page

-- the next page of the table on the same volume, or 0
abbrev pub next_of : List ℕ → ℕ
next_of page = number_at 4 8 page

-- the page with the count of its free cells as they are
abbrev pub recounted : List ℕ → List ℕ
recounted page = overwritten page 12 (little_bytes 2 (free_cells page))

-- the page with these bytes for a cell, and the count of free cells as they then are
abbrev pub with_cell : ℕ → List ℕ → List ℕ → List ℕ
with_cell cell bytes page = recounted (overwritten page (16 + 292 * cell) bytes)

-- a well-formed page: `BMTP`, each cell free or in use, and the number of free ones
pub record IsCellPage (page : List ℕ) : Type 0 where
  pub magic : is_cell_page page ≡ true
  pub free : number_at 2 12 page ≡ free_cells page
  pub end : number_at 2 14 page ≡ 0
  pub cells : (cell : ℕ) → cell < 28 → IsFreeOrUsed (cell_of page cell)

-- a well-formed page with this index, no next page, and no cell in use
pub record IsEmptyPage (index : ℕ) (page : List ℕ) : Type 0 where
  pub good : IsCellPage page
  pub indexed : index_of page ≡ index
  pub last : next_of page ≡ 0
  pub free : (cell : ℕ) → cell < 28 → IsFreeCell (cell_of page cell)

abbrev pub home_of : CellAt → Home
home_of at = record { vol = at.vol; page = at.page }

-- the bytes of a cell, if its page is there, is one of the table, and has such a cell
abbrev pub cell_at : Pages → CellAt → Option (List ℕ)
cell_at pages at =
    option_and_then (λ page. if is_cell_page page && nat_lt at.cell 28
    then Some (cell_of page at.cell) else None) (pages (home_of at))

-- a cell is there, and its kind is not that of a free one
abbrev pub IsUsedAt : Pages → CellAt → Type 0
IsUsedAt pages at = IsSomeAnd (cell_at pages at) (λ bytes. ¬ number_at 1 15 bytes ≡ 0)

-- a page of the table is there, and has such a cell
abbrev pub HasPlace : Pages → CellAt → Type 0
HasPlace pages at = IsSomeAnd (pages (home_of at)) (λ page. is_cell_page page ≡ true)
    × (at.cell < 28)

-- pages in which the bytes of a cell were changed, and the count of free cells that stands on its
-- page
pub record ChangesCell (at : CellAt) (bytes : List ℕ) (old new : Pages) : Type 0 where
  pub page : List ℕ
  pub was : old (home_of at) ≡ Some page
  pub is : (home : Home) → new home ≡
      (if same_home home (home_of at) then Some (with_cell at.cell bytes page) else old home)

-- another page, made from the one at the home, stands in its place
pub record ChangesPage (home : Home) (change : List ℕ → List ℕ) (old new : Pages) : Type 0 where
  pub page : List ℕ
  pub was : old home ≡ Some page
  pub is : (h : Home) → new h ≡ (if same_home h home then Some (change page) else old h)

-- the page with another next page
abbrev pub with_next : ℕ → List ℕ → List ℕ
with_next next page = overwritten page 8 (little_bytes 4 next)

-- a change after which each page that was well formed is so still
abbrev pub KeepsWellFormed : Pages → Pages → Type 0
KeepsWellFormed old new = (home : Home) → IfSome (old home) IsCellPage
    → IfSome (new home) IsCellPage

-- a change that leaves each page's index and next page
abbrev pub header : List ℕ → ℕ × ℕ
header page = (index_of page, next_of page)

-- a change leaves the index and the next page of each page of cells
abbrev pub KeepsHeaders : Pages → Pages → Type 0
KeepsHeaders old new = (home : Home) → option_map header (new home) ≡ option_map header (old home)
