-- Lists of the tags that are used.
use Rattle.std.specs.Prelude.{◌≡◌, ◌⊎◌, ◌↔◌, ◌/◌, ◌%◌, ◌^◌, ◌<◌, ℕ, List, Some, IsSome, Contains, slice_get}
use Rattle.filesets_reading.specs.domain_base.declared.place.Tag.{Tag}
use Rattle.filesets_reading.specs.page_store.Pages.{Pages}
use Rattle.filesets_reading.specs.tag_dirs.Directory.{cell_of}
use Rattle.filesets_reading.specs.tag_dirs.declared.dir.TagPlace.{TagPlace}

-- a list has each tag of a kind once, and no other; their sequences are numbers of two bytes
pub record ListsOnce (is : Tag → Type 0) (tags : List Tag) : Type 0 where
  pub each : (tag : Tag) → Contains tags tag ↔ is tag
  pub once : (i j : ℕ) (tag : Tag) → slice_get tags i ≡ Some tag → slice_get tags j ≡ Some tag
      → i ≡ j
  pub small : (tag : Tag) → Contains tags tag → tag.seq < 2 ^ 16

-- a tag is used
abbrev pub IsUsed : Pages → List TagPlace → Tag → Type 0
IsUsed pages places tag = IsSome (cell_of pages places tag)

-- one of the first pages of a directory has the slot
pub record IsOnFirst (places : List TagPlace) (count slot : ℕ) : Type 0 where
  pub k : ℕ
  pub within : k < count
  pub place : TagPlace
  pub there : slice_get places k ≡ Some place
  pub has : slot / 1022 ≡ place.index

-- or the page after them has it, as one of its first entries
abbrev pub IsOnFirstEntries : List TagPlace → ℕ → TagPlace → ℕ → ℕ → Type 0
IsOnFirstEntries places count place entries slot =
    IsOnFirst places count slot ⊎ ((slot / 1022 ≡ place.index) × (slot % 1022 < entries))

-- the tags in use of such slots
abbrev pub IsUsedOnFirst : Pages → List TagPlace → ℕ → Tag → Type 0
IsUsedOnFirst pages places count tag =
    IsOnFirst places count tag.slot × IsUsed pages places tag

-- a tag in use among the slots of the first pages of a directory and some entries of the next one
abbrev pub IsUsedOnFirstEntries : Pages → List TagPlace → ℕ → TagPlace → ℕ → Tag → Type 0
IsUsedOnFirstEntries pages places count place entries tag =
    IsOnFirstEntries places count place entries tag.slot × IsUsed pages places tag

-- the tag in use of a slot
pub record IsTagOf (pages : Pages) (places : List TagPlace) (slot : ℕ) (tag : Tag) : Type 0 where
  pub slot_is : tag.slot ≡ slot
  pub used : IsUsed pages places tag
  pub small : tag.seq < 2 ^ 16
