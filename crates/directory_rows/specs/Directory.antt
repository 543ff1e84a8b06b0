-- Directories as rows: those of all pages of one, page after page.
use Rattle.std.specs.Prelude.{◌≡◌, ◌==◌, ◌&&◌, ◌⊎◌, ◌≤◌, ℕ, false, List, [], ◌∷◌, count_by, length, slice_get}
use Rattle.std.specs.List.{AllByRecursion, flat_map}
use Rattle.std.specs.Option.{option_map_or}
use Rattle.directory_pages.specs.domain_base.declared.place.Tag.{Tag}
use Rattle.directory_pages.specs.page_store.Bitfiles.{Bitfile, Bitfiles, IsDirectory}
use Rattle.directory_pages.specs.declared.row.Row.{Row}
use Rattle.directory_pages.specs.RowPage.{IsDirPage, rows_of}
use Rattle.directory_pages.specs.Rows.{is_named}
use Rattle.directory_pages.specs.declared.entry.IndexEntry.{IndexEntry}
use Rattle.directory_pages.specs.Entries.{hash_of}
use Rattle.directory_pages.specs.Index.{IsIndex, all_entries, index_pages}

-- the pages of a directory, in order
abbrev pub row_pages : Bitfiles → Tag → List (List ℕ)
row_pages files tag = option_map_or (λ (file : Bitfile). file.pages) (files tag) []

-- the rows of pages, page after page
abbrev pub all_rows : List (List ℕ) → List Row
all_rows pages = flat_map rows_of pages

-- the rows of a directory
abbrev pub rows_in : Bitfiles → Tag → List Row
rows_in files tag = all_rows (row_pages files tag)

-- the rows of the page of that number; a page that is not there has none
abbrev pub rows_at : ℕ → List (List ℕ) → List Row
rows_at number pages = option_map_or rows_of (slice_get pages number) []

-- no name stands twice
abbrev pub NamesOnce : List Row → Type 0
NamesOnce [] = Unit {0}
NamesOnce (row ∷ rows) = (is_named row.name rows ≡ false) × NamesOnce rows

-- how many rows have a name of that hash
abbrev pub count_hash : ℕ → List Row → ℕ
count_hash hash rows = count_by (λ row. hash_of row.name == hash) rows

-- how many entries have that hash and name that page
abbrev pub count_entries : ℕ → ℕ → List IndexEntry → ℕ
count_entries hash page entries =
    count_by (λ entry. (entry.hash == hash) && (entry.page == page)) entries

-- the entries are one for each row of the pages: its name's hash, and the number of its page
abbrev pub AreEntriesOf : List (List ℕ) → List IndexEntry → Type 0
AreEntriesOf pages entries = (hash page : ℕ)
    → count_entries hash page entries ≡ count_hash hash (rows_at page pages)

-- the index of a directory of these pages, if it has more than one
pub record IndexesRows (pages index : List (List ℕ)) : Type 0 where
  pub some : 2 ≤ length pages
  pub good : IsIndex index
  pub exact : AreEntriesOf pages (all_entries index)

-- a directory is well formed: rows on each page, no name twice, and no index or the one of its rows
pub record IsWellFormed (files : Bitfiles) (dir : Tag) : Type 0 where
  pub directory : IsDirectory files dir
  pub pages : AllByRecursion IsDirPage (row_pages files dir)
  pub names : NamesOnce (rows_in files dir)
  pub index : (index_pages files dir ≡ [])
      ⊎ IndexesRows (row_pages files dir) (index_pages files dir)
