-- Entries of which there are more than rows, and rows without entries.
use Rattle.std.specs.Prelude.{◌≡◌, ◌⊎◌, ◌<◌, ℕ, List, None, Option, Contains, Some, count_by, length, map}
use Rattle.std.specs.BTreeMap.{BTreeMap}
use Rattle.page_faults.specs.domain_base.declared.place.Home.{Home}
use Rattle.page_faults.specs.page_store.Pages.{Pages}
use Rattle.page_faults.specs.domain_layout.DirectoryRules.{IsGoodIndexPage}
use Rattle.page_faults.specs.domain_layout.Reached.{Frame, index_way}
use Rattle.page_faults.specs.page_ways.Walk.{AreRead}
use Rattle.index_row_faults.specs.Counts.{count_in, is_key}
use Rattle.index_row_faults.specs.Entries.{IsLateBefore, entries_on}
use Rattle.index_row_faults.specs.declared.entries.EntryAt.{EntryAt}
use Rattle.index_row_faults.specs.declared.there.IndexThere.{IndexThere}

-- the hash and the page of an entry
abbrev pub key_of : EntryAt → ℕ × ℕ
key_of at = (at.entry.hash, at.entry.page)

-- by two counts there are more of an entry than rows, and it stands on a page
abbrev pub IsSurplusAt : BTreeMap (ℕ × ℕ) ℕ → BTreeMap (ℕ × ℕ) ℕ → EntryAt → Home → Type 0
IsSurplusAt in_rows in_entries at home =
    (count_in in_rows at.entry.hash at.entry.page < count_in in_entries at.entry.hash at.entry.page)
    × (home ≡ at.home)

-- there are more of a row than entries
abbrev pub IsLacking : BTreeMap (ℕ × ℕ) ℕ → BTreeMap (ℕ × ℕ) ℕ → ℕ × ℕ → Type 0
IsLacking in_rows in_entries key = count_in in_entries key.0 key.1 < count_in in_rows key.0 key.1

-- a page of rows of these hashes and pages has more of an entry than they
abbrev pub HasSurplus : List (ℕ × ℕ) → List EntryAt → Home → Type 0
HasSurplus keys entries home = (at : EntryAt) × Contains entries at
    × (count_by (is_key at.entry.hash at.entry.page) keys
    < count_by (is_key at.entry.hash at.entry.page) (map key_of entries)) × (home ≡ at.home)

-- the total of an index is wrong, or a row has no entry
abbrev pub IsShort : List (ℕ × ℕ) → List EntryAt → ℕ → Type 0
IsShort keys entries total = (¬ total ≡ length entries)
    ⊎ ((hash : ℕ) × (page : ℕ)
    × (count_by (is_key hash page) (map key_of entries) < count_by (is_key hash page) keys))

-- a well-formed page of an index stands at a home, and at each of some
abbrev pub IsGoodAt : Pages → Home → Type 0
IsGoodAt pages home = (page : List ℕ) × (pages home ≡ Some page) × IsGoodIndexPage page

-- a well-formed page of an index stands at each of these homes
abbrev pub AreGoodPages : Pages → List Home → Type 0
AreGoodPages pages homes = (home : Home) → Contains homes home → IsGoodAt pages home

-- the pages of an index are read to their end
pub record IsIndexRead (pages : Pages) (frame : Frame) (first : Home) : Type 0 where
  pub homes : List Home
  pub unread : Option Home
  pub read : AreRead pages frame (index_way first) homes unread

-- what is wrong with an index whose pages were read, against rows of these hashes and pages
pub record IsWrongBy (pages : Pages) (frame : Frame) (keys : List (ℕ × ℕ)) (index : IndexThere)
    (home : Home) : Type 0 where
  pub homes : List Home
  pub unread : Option Home
  pub read : AreRead pages frame (index_way index.first) homes unread
  pub wrong : IsLateBefore (entries_on pages homes) (length (entries_on pages homes)) home
      ⊎ HasSurplus keys (entries_on pages homes) home
      ⊎ ((home ≡ index.first) × (unread ≡ None) × AreGoodPages pages homes
      × IsShort keys (entries_on pages homes) index.total)
