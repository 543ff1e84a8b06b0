-- Index pages: 16 bytes, and up to 1,022 entries of 8 bytes.
use Rattle.std.specs.Prelude.{◌≡◌, ◌+◌, ◌-◌, ◌*◌, ◌^◌, ◌<◌, ◌≤◌, ℕ, zero, suc, true, max, Option, Some, None, is_some, List, [], ◌∷◌, ◌++◌, length, take, drop, slice_get}
use Rattle.std.specs.Int.{div_ceil}
use Rattle.std.specs.List.{AllByRecursion}
use Rattle.std.specs.Option.{option_map_or}
use Rattle.cell_records.specs.domain_base.declared.place.Tag.{Tag}
use Rattle.page_store.specs.Bitfiles.{Bitfile, Bitfiles}
use Rattle.cell_records.specs.domain_base.Page.{zero_bytes}
use Rattle.cell_records.specs.Fields.{number_at}
use Rattle.cell_records.specs.Records.{spelled}
use Rattle.directory_pages.specs.declared.entry.IndexEntry.{IndexEntry}
use Rattle.directory_pages.specs.Entries.{Rise, first_from}

-- the entry of that number on a page
abbrev pub entry_at : List ℕ → ℕ → IndexEntry
entry_at page k = record {
  hash = number_at 4 (16 + 8 * k) page;
  page = number_at 4 (20 + 8 * k) page;
}

-- this number of entries of a page, from a place on
abbrev pub entries_from : List ℕ → ℕ → ℕ → List IndexEntry
entries_from page k zero = []
entries_from page k (suc n) = entry_at page k ∷ entries_from page (k + 1) n

-- the entries of a page
abbrev pub entries_of : List ℕ → List IndexEntry
entries_of page = entries_from page 0 (number_at 4 4 page)

-- a well-formed page by itself: `DIRX`, and as many entries as it says. Where the next page stands
-- is not looked at
pub record IsIndexPage (page : List ℕ) : Type 0 where
  pub whole : length page ≡ 8192
  pub magic : number_at 4 0 page ≡ 0x58524944
  pub count : number_at 4 4 page ≤ 1022

-- the entries of all pages, one page after the other
abbrev pub all_entries : List (List ℕ) → List IndexEntry
all_entries [] = []
all_entries (page ∷ pages) = entries_of page ++ all_entries pages

-- an index: at least one page, and entries that rise over all its pages
pub record IsIndex (index : List (List ℕ)) : Type 0 where
  pub some : 1 ≤ length index
  pub pages : AllByRecursion IsIndexPage index
  pub rise : Rise (all_entries index)

-- the index pages of a directory
abbrev pub index_pages : Bitfiles → Tag → List (List ℕ)
index_pages files tag = option_map_or (λ (file : Bitfile). file.index) (files tag) []

-- how many pages this number of entries takes: all full but the last; with no entries it is one
-- page too
abbrev pub part_count : ℕ → ℕ
part_count entries = max 1 (div_ceil entries 1022)

-- a page with the entries of the index page of that number
pub record HasPart (index : List (List ℕ)) (number : ℕ) (page : List ℕ) : Type 0 where
  pub part : List ℕ
  pub there : slice_get index number ≡ Some part
  pub good : IsIndexPage page
  pub read : entries_of page ≡ entries_of part

-- a page with the entries of the index page of that number, or none if the index has no such page
abbrev pub IsPart : List (List ℕ) → ℕ → Option (List ℕ) → Type 0
IsPart index number None = slice_get index number ≡ None
IsPart index number (Some page) = HasPart index number page

-- the pages from one number to another
abbrev pub between : ℕ → ℕ → List (List ℕ) → List (List ℕ)
between low high pages = take (high - low) (drop low pages)

-- the first page from a number on that has an entry which is not below the key
pub record FirstPage (key : IndexEntry) (index : List (List ℕ)) (low number : ℕ) : Type 0 where
  pub page : List ℕ
  pub there : slice_get index number ≡ Some page
  pub begins : low ≤ number
  pub before : first_from key (all_entries (between low number index)) ≡ None
  pub here : is_some (first_from key (entries_of page)) ≡ true

-- the first page from one number on and before another that has an entry which is not below the
-- key, or none if there is no such entry
abbrev pub IsFirstPage : IndexEntry → List (List ℕ) → ℕ → ℕ → Option ℕ → Type 0
IsFirstPage key index low high None =
    first_from key (all_entries (between low high index)) ≡ None
IsFirstPage key index low high (Some number) = FirstPage key index low number

-- the bytes of an entry, and of entries one after the other
abbrev pub spelled_entry : IndexEntry → List ℕ
spelled_entry entry = spelled (4 ∷ 4 ∷ []) (entry.hash ∷ entry.page ∷ [])

-- the bytes of entries, one after another
abbrev pub spelling : List IndexEntry → List ℕ
spelling [] = []
spelling (entry ∷ entries) = spelled_entry entry ++ spelling entries

-- what a page with this number of entries begins with: `DIRX`, the number, and zeros for the next
-- page
abbrev pub header : ℕ → List ℕ
header count = spelled (4 ∷ 4 ∷ 8 ∷ []) (0x58524944 ∷ count ∷ 0 ∷ [])

-- a page as it is written: these entries, and zeros after them
abbrev pub index_page_of : List IndexEntry → List ℕ
index_page_of entries =
    header (length entries) ++ spelling entries ++ zero_bytes (8176 - 8 * length entries)

-- a page that was written with these entries
pub record IsPageOf (entries : List IndexEntry) (page : List ℕ) : Type 0 where
  pub value : page ≡ index_page_of entries
  pub good : IsIndexPage page
  pub read : entries_of page ≡ entries

-- an entry whose numbers fit its fields
pub record Fits (entry : IndexEntry) : Type 0 where
  pub hash : entry.hash < 2 ^ 32
  pub page : entry.page < 2 ^ 32
