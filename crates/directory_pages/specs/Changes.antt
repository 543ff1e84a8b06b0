-- Changes of a directory's index.
use Rattle.std.specs.Prelude.{◌≡◌, ◌+◌, ◌≤◌, ℕ, true, false, Some, None, List, [], ◌∷◌, ◌++◌, length, take, drop, slice_get}
use Rattle.std.specs.List.{AllByRecursion}
use Rattle.cell_records.specs.domain_base.declared.place.Tag.{Tag}
use Rattle.page_store.specs.Bitfiles.{Bitfile, Bitfiles, insert_index, put_index, with_change}
use Rattle.directory_pages.specs.declared.entry.IndexEntry.{IndexEntry}
use Rattle.directory_pages.specs.Entries.{first_from, is_below}
use Rattle.directory_pages.specs.Index.{IsIndex, IsIndexPage, IsPageOf, all_entries, entries_of, index_pages, part_count}

-- a file with other index pages
abbrev pub with_index : List (List ℕ) → Bitfile → Bitfile
with_index index file = record file { index = index }

-- all files are as they were, but for the index pages of a directory
abbrev pub OnlyIndex : Tag → Bitfiles → Bitfiles → Type 0
OnlyIndex dir old new = new ≡ with_change dir (with_index (index_pages new dir)) old

-- a directory has an index of these entries now, on as few pages as have room for them, and all else
-- is as it was
pub record SetsEntries (dir : Tag) (list : List IndexEntry) (old new : Bitfiles) : Type 0 where
  pub others : OnlyIndex dir old new
  pub good : IsIndex (index_pages new dir)
  pub entries : all_entries (index_pages new dir) ≡ list
  pub count : length (index_pages new dir) ≡ part_count (length list)

-- an index page was put at a number that has these entries
pub record PutsPage (dir : Tag) (number : ℕ) (part : List IndexEntry) (old new : Bitfiles)
    : Type 0 where
  pub page : List ℕ
  pub made : IsPageOf part page
  pub changed : new ≡ with_change dir (put_index number page) old

-- one entry less stands in a directory's index, on as many pages, and all else is as it was
pub record RemovesEntry (dir : Tag) (entry : IndexEntry) (old new : Bitfiles) : Type 0 where
  pub others : OnlyIndex dir old new
  pub good : IsIndex (index_pages new dir)
  pub front : List IndexEntry
  pub back : List IndexEntry
  pub were : all_entries (index_pages old dir) ≡ front ++ entry ∷ back
  pub are : all_entries (index_pages new dir) ≡ front ++ back
  pub count : length (index_pages new dir) ≡ length (index_pages old dir)

-- entries without the first one that is not below this one
pub record Cuts (key : IndexEntry) (list left : List IndexEntry) : Type 0 where
  pub front : List IndexEntry
  pub middle : IndexEntry
  pub back : List IndexEntry
  pub were : list ≡ front ++ middle ∷ back
  pub are : left ≡ front ++ back
  pub low : AllByRecursion (λ entry. is_below entry key ≡ true) front
  pub high : is_below middle key ≡ false

-- one entry more stands in a directory's index, on at most one page more, and all else is as it was
pub record AddsEntry (dir : Tag) (entry : IndexEntry) (old new : Bitfiles) : Type 0 where
  pub others : OnlyIndex dir old new
  pub good : IsIndex (index_pages new dir)
  pub front : List IndexEntry
  pub back : List IndexEntry
  pub were : all_entries (index_pages old dir) ≡ front ++ back
  pub are : all_entries (index_pages new dir) ≡ front ++ entry ∷ back
  pub most : length (index_pages new dir) ≤ length (index_pages old dir) + 1

-- the first of some entries, if there is one, is not below this one
abbrev pub StartsHigh : IndexEntry → List IndexEntry → Type 0
StartsHigh key [] = Unit {0}
StartsHigh key (entry ∷ entries) = is_below entry key ≡ false

-- entries with this one put before the first that is not below it
pub record Adds (key : IndexEntry) (list more : List IndexEntry) : Type 0 where
  pub front : List IndexEntry
  pub back : List IndexEntry
  pub were : list ≡ front ++ back
  pub are : more ≡ front ++ key ∷ back
  pub low : AllByRecursion (λ entry. is_below entry key ≡ true) front
  pub high : StartsHigh key back

-- the page of an index to which an entry goes: no entry before it is not below this one, and it has
-- one that is not, or is the last page
pub record IsPageFor (key : IndexEntry) (index : List (List ℕ)) (number : ℕ) : Type 0 where
  pub page : List ℕ
  pub there : slice_get index number ≡ Some page
  pub before : first_from key (all_entries (take number index)) ≡ None
  pub last : first_from key (entries_of page) ≡ None → drop (number + 1) index ≡ []

-- an index page that has these entries was put before those from a number on
pub record InsertsPage (dir : Tag) (number : ℕ) (part : List IndexEntry) (old new : Bitfiles)
    : Type 0 where
  pub page : List ℕ
  pub made : IsPageOf part page
  pub changed : new ≡ with_change dir (insert_index number page) old

-- entries stand on the page of that number now, or on it and a new one after it
pub record Spreads (dir : Tag) (number : ℕ) (list : List IndexEntry) (old new : Bitfiles)
    : Type 0 where
  pub pages : List (List ℕ)
  pub good : AllByRecursion IsIndexPage pages
  pub read : all_entries pages ≡ list
  pub some : 1 ≤ length pages
  pub most : length pages ≤ 2
  pub changed : new ≡ with_change dir (with_index (take number (index_pages old dir) ++ pages
      ++ drop (number + 1) (index_pages old dir))) old
