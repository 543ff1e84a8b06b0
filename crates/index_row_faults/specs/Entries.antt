-- The entries of an index, as they stand on its pages.
use Rattle.std.specs.Prelude.{◌≡◌, ◌<◌, ℕ, Bool, true, false, List, [], Option, Some, None, map, slice_get, unwrap_or}
use Rattle.std.specs.List.{flat_map}
use Rattle.page_faults.specs.domain_base.declared.place.Home.{Home}
use Rattle.page_faults.specs.page_store.Pages.{Pages}
use Rattle.page_faults.specs.directory_pages.Entries.{is_below}
use Rattle.page_faults.specs.directory_pages.declared.entry.IndexEntry.{IndexEntry}
use Rattle.page_faults.specs.domain_layout.DirectoryRules.{entries_in}
use Rattle.index_row_faults.specs.declared.entries.EntryAt.{EntryAt}

-- entries that stand on the page at a home
abbrev pub placed : Home → List IndexEntry → List EntryAt
placed home entries = map (λ entry. record { home = home; entry = entry }) entries

-- the bytes there
abbrev pub page_at : Pages → Home → List ℕ
page_at pages home = unwrap_or (pages home) []

-- those of the page there, and of pages, one after the other
abbrev pub entries_at : Pages → Home → List EntryAt
entries_at pages home = placed home (entries_in (page_at pages home))

-- the entries of the pages at these homes, page after page
abbrev pub entries_on : Pages → List Home → List EntryAt
entries_on pages homes = flat_map (entries_at pages) homes

-- it is below the highest one before it, if there is one
abbrev pub is_below_top : Option IndexEntry → IndexEntry → Bool
is_below_top None entry = false
is_below_top (Some top) entry = is_below entry top

-- an entry before a number is below one before it, and stands on a page
abbrev pub IsLateBefore : List EntryAt → ℕ → Home → Type 0
IsLateBefore entries number home = (k : ℕ) × (j : ℕ) × (at : EntryAt) × (before : EntryAt)
    × (k < number) × (j < k) × (slice_get entries k ≡ Some at) × (slice_get entries j ≡ Some before)
    × (is_below at.entry before.entry ≡ true) × (home ≡ at.home)
