-- Changes of a directory's rows.
use Rattle.std.specs.Prelude.{◌≡◌, ◌+◌, ◌<◌, ◌≤◌, ◌⊎◌, ℕ, Bool, true, false, List, [], ◌∷◌, ◌++◌, length, slice_get}
use Rattle.std.specs.Option.{option_map_or}
use Rattle.directory_pages.specs.domain_base.declared.place.Tag.{Tag}
use Rattle.directory_pages.specs.page_store.Bitfiles.{Bitfile, Bitfiles, count_index, count_pages, with_change, with_entry}
use Rattle.directory_pages.specs.declared.row.Row.{Row}
use Rattle.directory_pages.specs.RowPage.{IsDirPage, fits, rows_of}
use Rattle.directory_pages.specs.Rows.{without}
use Rattle.directory_pages.specs.Index.{index_pages}
use Rattle.directory_rows.specs.Directory.{IsWellFormed, row_pages, rows_at, rows_in}

-- a file with other pages and other index pages
abbrev pub with_contents : List (List ℕ) → List (List ℕ) → Bitfile → Bitfile
with_contents pages index file = record file { pages = pages; index = index }

-- all files are as they were, but for the pages and the index pages of a directory
abbrev pub OnlyDirectory : Tag → Bitfiles → Bitfiles → Type 0
OnlyDirectory dir old new =
    new ≡ with_change dir (with_contents (row_pages new dir) (index_pages new dir)) old

-- a row of this name fits on the page of that number; on a page that is not there it does
abbrev pub fits_at : List ℕ → ℕ → List (List ℕ) → Bool
fits_at name number pages = option_map_or (fits name) (slice_get pages number) true

-- the number of the first page with room for a row of this name, or of the pages if none has
pub record IsFirstWithRoom (name : List ℕ) (pages : List (List ℕ)) (number : ℕ) : Type 0 where
  pub within : number ≤ length pages
  pub full : (before : ℕ) → before < number → fits_at name before pages ≡ false
  pub room : fits_at name number pages ≡ true

-- a row went after those of the first page with room for it, or to a new page after the last
pub record PutsRow (row : Row) (number : ℕ) (old new : List (List ℕ)) : Type 0 where
  pub page : List ℕ
  pub first : IsFirstWithRoom row.name old number
  pub good : IsDirPage page
  pub rows : rows_of page ≡ rows_at number old ++ row ∷ []
  pub put : new ≡ with_entry number page old

-- the row of a name left the page of a number, and every other page is as it was
pub record CutsRow (name : List ℕ) (number : ℕ) (old new : List (List ℕ)) : Type 0 where
  pub page : List ℕ
  pub within : number < length old
  pub good : IsDirPage page
  pub rows : rows_of page ≡ without name (rows_at number old)
  pub put : new ≡ with_entry number page old

-- a directory that has an index keeps it
abbrev pub KeepsIndex : Tag → Bitfiles → Bitfiles → Type 0
KeepsIndex dir old new = 1 ≤ count_index old dir → 1 ≤ count_index new dir

-- a directory of two to four pages has an index
abbrev pub IsIndexedWhereSmall : Tag → Bitfiles → Type 0
IsIndexedWhereSmall dir files =
    2 ≤ count_pages files dir → count_pages files dir ≤ 4 → 1 ≤ count_index files dir

-- a directory without an index gets none where it then has one page, or more than four
abbrev pub GetsNoIndex : Tag → Bitfiles → Bitfiles → Type 0
GetsNoIndex dir old new =
    count_index old dir ≡ 0 → (count_pages new dir ≤ 1) ⊎ (5 ≤ count_pages new dir)
    → count_index new dir ≡ 0

-- a directory's index gets at most one page more, and if it had none, it has at most four
abbrev pub GrowsIndex : Tag → Bitfiles → Bitfiles → Type 0
GrowsIndex dir old new = (count_index old dir ≡ 0 → count_index new dir ≤ 4)
    × (1 ≤ count_index old dir → count_index new dir ≤ count_index old dir + 1)

-- a directory has one row more, and at most one page more
pub record AddsRow (dir : Tag) (row : Row) (old new : Bitfiles) : Type 0 where
  pub others : OnlyDirectory dir old new
  pub good : IsWellFormed new dir
  pub number : ℕ
  pub placed : PutsRow row number (row_pages old dir) (row_pages new dir)
  pub front : List Row
  pub back : List Row
  pub were : rows_in old dir ≡ front ++ back
  pub are : rows_in new dir ≡ front ++ row ∷ back
  pub kept : KeepsIndex dir old new
  pub indexed : IsIndexedWhereSmall dir new
  pub bare : GetsNoIndex dir old new
  pub pages : count_pages new dir ≤ count_pages old dir + 1
  pub grown : GrowsIndex dir old new

-- the row of a name left one page of a directory, which has as many pages as before, and as many of
-- its index
pub record RemovesRow (dir : Tag) (name : List ℕ) (old new : Bitfiles) : Type 0 where
  pub others : OnlyDirectory dir old new
  pub good : IsWellFormed new dir
  pub number : ℕ
  pub cut : CutsRow name number (row_pages old dir) (row_pages new dir)
  pub front : List Row
  pub row : Row
  pub back : List Row
  pub named : row.name ≡ name
  pub were : rows_in old dir ≡ front ++ row ∷ back
  pub are : rows_in new dir ≡ front ++ back
  pub pages : count_pages new dir ≡ count_pages old dir
  pub index : count_index new dir ≡ count_index old dir

-- how many changes of a set a row takes at most that comes: its page, and up to four pages of the
-- index
abbrev pub adding_changes : ℕ
adding_changes = 5

-- how many a row takes at most that goes: its page, and one page of the index
abbrev pub removing_changes : ℕ
removing_changes = 2
