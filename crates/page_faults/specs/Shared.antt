-- Pages of indexes that cannot be such, are not well formed, or are another's, too.
use Rattle.std.specs.Prelude.{◌≡◌, ◌⊎◌, ℕ, List, Some}
use Rattle.tag_faults.specs.domain_base.declared.place.Home.{Home}
use Rattle.tag_faults.specs.page_store.Pages.{Pages}
use Rattle.tag_faults.specs.domain_layout.DirectoryRules.{IsGoodIndexPage}
use Rattle.tag_faults.specs.domain_layout.Reached.{Frame, IsRead, IsUnread, index_way}
use Rattle.page_faults.specs.declared.indexes.IndexAt.{IndexAt}

-- a page of an index is read at a home
abbrev pub HasPage : Pages → Frame → Home → IndexAt → Type 0
HasPage pages frame home index =
    (place : ℕ) × (page : List ℕ) × IsRead pages frame (index_way index.first) place home page

-- the page at a home is not well formed, or one of an earlier index
abbrev pub IsWrongAt : Pages → (Home → Type 0) → Home → Type 0
IsWrongAt pages Earlier home =
    Earlier home ⊎ ((page : List ℕ) × (pages home ≡ Some page) × ¬ IsGoodIndexPage page)

-- a page of an index that is come to cannot be one; or one is so, with the pages of earlier indexes
abbrev pub IsFaultBehind : Pages → Frame → (Home → Type 0) → Home → IndexAt → Type 0
IsFaultBehind pages frame Earlier home index = IsUnread pages frame (index_way index.first) home
    ⊎ (HasPage pages frame home index × IsWrongAt pages Earlier home)
