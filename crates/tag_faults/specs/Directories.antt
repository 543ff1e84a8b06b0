-- Pages of the tag directories of slots.
use Rattle.std.specs.Prelude.{◌≡◌, ◌⊎◌, ◌↔◌, ◌<◌, ℕ, List, Option, Some, slice_get}
use Rattle.cell_faults.specs.domain_base.declared.place.Home.{Home}
use Rattle.cell_faults.specs.page_store.Pages.{Pages}
use Rattle.cell_faults.specs.tag_dirs.TagPage.{IsAllowed, IsSpelled, IsTagPage, entry_of, index_of, slot_of}
use Rattle.cell_faults.specs.fileset_table.Table.{Table}
use Rattle.cell_faults.specs.domain_layout.Reached.{Frame, IsUnread, tags_way}
use Rattle.cell_faults.specs.domain_layout.TagRules.{HasTags, IsNoTagPage, IsSharedTagPage, IsTagsPage, IsWrongTagPage}

-- an entry is well formed
abbrev pub IsGoodEntry : List ℕ → ℕ → Type 0
IsGoodEntry page entry =
    IsSpelled page entry × IsAllowed (slot_of page entry) (entry_of page entry)

-- ** The pages of one directory

-- a page is not well formed, is the first one with another index than 0, or has an index that was
-- seen
abbrev pub IsWrongPage : List ℕ → ℕ → (ℕ → Type 0) → Type 0
IsWrongPage page place Seen =
    ¬ IsTagPage page ⊎ ((place ≡ 0) × ¬ index_of page ≡ 0) ⊎ Seen (index_of page)

-- so is the page that stands at a home
abbrev pub IsWrongThere : Pages → ℕ → Home → (ℕ → Type 0) → Type 0
IsWrongThere pages place home Seen =
    (page : List ℕ) × (pages home ≡ Some page) × IsWrongPage page place Seen

-- the page that stands at a home has an index
abbrev pub HasIndexThere : Pages → Home → ℕ → Type 0
HasIndexThere pages home index =
    (page : List ℕ) × (pages home ≡ Some page) × (index_of page ≡ index)

-- so has a page before a place
abbrev pub HasIndexBefore : Pages → List Home → ℕ → ℕ → Type 0
HasIndexBefore pages homes place index = (k : ℕ) × (k < place)
    × ((home : Home) × (slice_get homes k ≡ Some home) × HasIndexThere pages home index)

-- at a home of a directory a page is wrong
abbrev pub IsWrongAmong : Pages → List Home → Home → Type 0
IsWrongAmong pages homes home = (place : ℕ) × (slice_get homes place ≡ Some home)
    × IsWrongThere pages place home (HasIndexBefore pages homes place)

-- ** The directories of slots

-- a page of the directory of a slot
abbrev pub HasPage : Pages → Frame → Table → ℕ → Home → Type 0
HasPage pages frame table number home =
    (place : ℕ) × (page : List ℕ) × IsTagsPage pages frame table number place home page

-- a page is come to from the first one of a slot's directory that cannot be one
abbrev pub HasNoPage : Pages → Frame → Table → ℕ → Home → Type 0
HasNoPage pages frame table number home =
    (first : Home) × HasTags table number first × IsUnread pages frame (tags_way first) home

-- the pages of the directory of a slot, and the one that is come to and cannot be one
pub record IsReadOf (pages : Pages) (frame : Frame) (table : Table) (number : ℕ) (homes : List Home)
    (unread : Option Home) : Type 0 where
  pub each : (place : ℕ) (home : Home) → (slice_get homes place ≡ Some home)
      ↔ ((page : List ℕ) × IsTagsPage pages frame table number place home page)
  pub wrong : (home : Home) → (unread ≡ Some home) ↔ HasNoPage pages frame table number home

-- a page of the directory of a slot is not well formed or has an index that it may not have
pub record HasWrongPage (pages : Pages) (frame : Frame) (table : Table) (number : ℕ) (home : Home)
    : Type 0 where
  pub place : ℕ
  pub page : List ℕ
  pub is : IsTagsPage pages frame table number place home page
  pub wrong : ¬ IsTagPage page ⊎ ((place ≡ 0) × ¬ index_of page ≡ 0)
      ⊎ ((earlier : ℕ) × (other : Home) × (bytes : List ℕ) × (earlier < place)
      × IsTagsPage pages frame table number earlier other bytes
      × (index_of bytes ≡ index_of page))

-- a rule of pages of tag directories is broken in that of a slot, with the pages of earlier ones
abbrev pub IsFaultBehind : Pages → Frame → Table → ℕ → (Home → Type 0) → Home → Type 0
IsFaultBehind pages frame table number Earlier home = HasNoPage pages frame table number home
    ⊎ (HasPage pages frame table number home × Earlier home)
    ⊎ HasWrongPage pages frame table number home

-- a rule of pages of tag directories is broken
abbrev pub IsDirectoryFault : Pages → Frame → Table → Home → Type 0
IsDirectoryFault pages frame table home = IsNoTagPage pages frame table home
    ⊎ IsSharedTagPage pages frame table home ⊎ IsWrongTagPage pages frame table home
