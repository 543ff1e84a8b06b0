-- What may be let go of in a domain's memory: things on its list, and what is being removed from
-- its slots.
use Rattle.std.specs.Prelude.{◌≡◌, ◌&&◌, ◌||◌, ◌⊎◌, ℕ, Bool, true, false, not, List, [], None, Contains, IfSome, IsSome, slice_get, sum_by}
use Rattle.std.specs.Option.{option_and_then, option_map_or}
use Rattle.standing_laws.specs.domain_base.declared.place.CellAt.{CellAt}
use Rattle.standing_laws.specs.domain_base.declared.place.Tag.{Tag}
use Rattle.standing_laws.specs.cell_records.declared.record.Record.{Record}
use Rattle.standing_laws.specs.metadata_cells.Cell.{Cell, record_of}
use Rattle.standing_laws.specs.metadata_cells.Chain.{StandsAt}
use Rattle.standing_laws.specs.tag_dirs.Directory.{cell_of}
use Rattle.standing_laws.specs.free_cells.Cells.{is_free}
use Rattle.standing_laws.specs.free_space.Spaces.{Spaces, free_pages, volume_of}
use Rattle.standing_laws.specs.release_list.Listing.{IsEmpty}
use Rattle.standing_laws.specs.release_list.declared.list.Entry.{Entry}
use Rattle.staged_pages.specs.Store.{pages_of}
use Rattle.standing_laws.specs.domain_layout.CellRules.{has_kind, say_removed, says_directory}
use Rattle.standing_laws.specs.domain_layout.TagRules.{quota_of}
use Rattle.standing_laws.specs.domain_standing.Chains.{IsQuotaOf, IsRemoved}
use Rattle.standing_laws.specs.domain_standing.Domain.{item_in}
use Rattle.standing_laws.specs.release_steps.Kept.{HasNoEntry}
use Rattle.domain_memory.specs.Slots.{places_in, slot_in}
use Rattle.domain_memory.specs.Staged.{staged_in}
use Rattle.domain_memory.specs.declared.memory.DomainMemory.{DomainMemory}

-- ** Things on the list

-- records of the first cell of a directory
abbrev pub say_directory : List Record → Bool
say_directory records = option_map_or says_directory (record_of 1 records) false

-- records of the first cell of a file or directory that names no index; and of a directory all goes
abbrev pub are_plain : List Record → Bool
are_plain records = has_kind 1 records
    && (not (has_kind 9 records) && (not (say_directory records) || say_removed records))

-- the first cell of each of these entries has such records
abbrev pub HavePlain : DomainMemory → List Entry → Type 0
HavePlain memory entries = (entry : Entry) → Contains entries entry → (cell : Cell)
    → StandsAt (pages_of memory.pages) entry.at cell → are_plain cell.records ≡ true

-- something is on the list, no page of a tag directory is, and the first cell of each file and
-- directory on it is plain
pub record MayLetGo (memory : DomainMemory) : Type 0 where
  pub some : ¬ IsEmpty memory.list.list
  pub tag_pages : memory.list.list.tag_pages ≡ []
  pub plain : HavePlain memory memory.list.list.entries

-- ** What is being removed

-- a tag of a slot leads to a cell
abbrev pub IsUsedIn : DomainMemory → ℕ → Tag → Type 0
IsUsedIn memory number tag = IsSome
    (cell_of (pages_of memory.pages) (places_in (slot_in memory.slots.items number)) tag)

-- the slot of what is being removed names quota cells, and these are not on the list
pub record HasQuotaCells (memory : DomainMemory) (number : ℕ) (at : CellAt) : Type 0 where
  pub removed : IsRemoved (item_in (staged_in memory) number)
  pub quota : IsQuotaOf (staged_in memory) number at
  pub unlisted : HasNoEntry (staged_in memory).list at

-- memory says of a slot: it has no quota cell, and no page of a tag directory is on the list
pub record HasNoQuota (memory : DomainMemory) (number : ℕ) : Type 0 where
  pub none : option_and_then quota_of (slice_get memory.table.slots number) ≡ None
  pub none_listed : memory.list.list.tag_pages ≡ []

-- what is being removed from a slot may be emptied by a change: a tag of it is used; or it has
-- quota cells, which are not on the list; or it has none, and no page of a tag directory is on
-- the list
pub record MayEmpty (memory : DomainMemory) (number : ℕ) : Type 0 where
  pub removed : IsRemoved (slice_get memory.table.slots number)
  pub some : ((tag : Tag) × IsUsedIn memory number tag)
      ⊎ ((at : CellAt) × HasQuotaCells memory number at) ⊎ HasNoQuota memory number

-- nothing that is being removed may be
abbrev pub NoneToEmpty : DomainMemory → Type 0
NoneToEmpty memory = (number : ℕ) → ¬ MayEmpty memory number

-- ** Nothing may

-- nothing on a domain's list may be let go of, nor anything of what is being removed
pub record NothingGoes (memory : DomainMemory) : Type 0 where
  pub list : ¬ MayLetGo memory
  pub slots : NoneToEmpty memory

-- ** Pages

-- how many pages are free, on all volumes that are open
abbrev pub free_in : DomainMemory → ℕ
free_in memory = sum_by free_pages memory.space.volumes

-- no page of any volume waits
abbrev pub NoneWaits : Spaces → Type 0
NoneWaits space = (vol : ℕ) → IfSome (volume_of space vol) (λ v. v.waiting ≡ [])

-- ** What stays gone

-- if a change is kept, slots are what they were with it, the same cells are free, and each tag
-- that is used was used before
pub record KeepsGone (old new : DomainMemory) : Type 0 where
  pub table : new.table ≡ old.table
  pub cells : (at : CellAt) → is_free new.cells at ≡ is_free old.cells at
  pub used : (number : ℕ) (tag : Tag) → IsUsedIn new number tag → IsUsedIn old number tag
