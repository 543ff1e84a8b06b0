-- Steps of a change of a directory's rows: its pages first, then its index.
use Rattle.std.specs.Prelude.{◌≡◌, ◌+◌, ◌≤◌, ◌⊎◌, ℕ, true, List, [], ◌∷◌, length, map}
use Rattle.directory_pages.specs.domain_base.declared.place.Tag.{Tag}
use Rattle.directory_pages.specs.page_store.Bitfiles.{Bitfile, Bitfiles, count_index, with_change}
use Rattle.directory_pages.specs.declared.row.Row.{Row}
use Rattle.directory_pages.specs.RowPage.{IsDirPage, fits, rows_of}
use Rattle.directory_pages.specs.Rows.{is_row_name}
use Rattle.directory_pages.specs.declared.entry.IndexEntry.{IndexEntry}
use Rattle.directory_pages.specs.Changes.{OnlyIndex}
use Rattle.directory_pages.specs.Entries.{hash_of}
use Rattle.directory_pages.specs.Index.{IsIndex, all_entries, index_pages}
use Rattle.directory_rows.specs.Directory.{AreEntriesOf, IndexesRows, count_entries, count_hash, row_pages, rows_at}
use Rattle.directory_rows.specs.RowChanges.{CutsRow, GetsNoIndex, GrowsIndex, IsIndexedWhereSmall, KeepsIndex, PutsRow, fits_at}

-- a file with other pages
abbrev pub with_pages : List (List ℕ) → Bitfile → Bitfile
with_pages pages file = record file { pages = pages }

-- all files are as they were, but for the pages of a directory
abbrev pub OnlyPages : Tag → Bitfiles → Bitfiles → Type 0
OnlyPages dir old new = new ≡ with_change dir (with_pages (row_pages new dir)) old

-- a page has the rows of the one at a number, or none if that is not there, and as much room
pub record IsCopyOf (number : ℕ) (pages : List (List ℕ)) (page : List ℕ) : Type 0 where
  pub good : IsDirPage page
  pub rows : rows_of page ≡ rows_at number pages
  pub room : (name : List ℕ) → is_row_name name ≡ true → fits_at name number pages ≡ true
      → fits name page ≡ true

-- a directory's pages have one row more, and all else is as it was
pub record PutsRowIn (dir : Tag) (row : Row) (number : ℕ) (old new : Bitfiles) : Type 0 where
  pub others : OnlyPages dir old new
  pub placed : PutsRow row number (row_pages old dir) (row_pages new dir)

-- the row of a name left the page of a number, and all else is as it was
pub record TakesRow (dir : Tag) (name : List ℕ) (number : ℕ) (old new : Bitfiles) : Type 0 where
  pub others : OnlyPages dir old new
  pub cut : CutsRow name number (row_pages old dir) (row_pages new dir)

-- an index that lacks one entry
pub record LacksEntry (entry : IndexEntry) (pages index : List (List ℕ)) : Type 0 where
  pub some : 2 ≤ length pages
  pub good : IsIndex index
  pub exact : AreEntriesOf pages (entry ∷ all_entries index)

-- an index that has one entry too many
pub record SparesEntry (entry : IndexEntry) (pages index : List (List ℕ)) : Type 0 where
  pub some : 2 ≤ length pages
  pub good : IsIndex index
  pub exact : (hash page : ℕ) → count_entries hash page (all_entries index)
      ≡ count_entries hash page (entry ∷ []) + count_hash hash (rows_at page pages)

-- a directory has no index or that of its rows now, and all else is as it was
pub record SetsIndex (dir : Tag) (old new : Bitfiles) : Type 0 where
  pub others : OnlyIndex dir old new
  pub index : (index_pages new dir ≡ []) ⊎ IndexesRows (row_pages old dir) (index_pages new dir)
  pub kept : KeepsIndex dir old new

-- a directory has no index or that of its rows now, on as many pages as before, and all else is as
-- it was
pub record TrimsIndex (dir : Tag) (old new : Bitfiles) : Type 0 where
  pub sets : SetsIndex dir old new
  pub count : count_index new dir ≡ count_index old dir

-- a directory has the index of its rows, if it is small, and none where it had none and has one page
-- or more than four
pub record CompletesIndex (dir : Tag) (old new : Bitfiles) : Type 0 where
  pub sets : SetsIndex dir old new
  pub indexed : IsIndexedWhereSmall dir new
  pub bare : GetsNoIndex dir old new
  pub grown : GrowsIndex dir old new

-- the entries of rows on the page of that number
abbrev pub entries_for : ℕ → List Row → List IndexEntry
entries_for number rows = map (λ row. record { hash = hash_of row.name; page = number }) rows
