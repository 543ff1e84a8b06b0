-- The rules of tag directories, of what their entries name, and of the slots of the fileset table.
-- Each is said by where it is broken.
use Rattle.std.specs.Prelude.{◌≡◌, ◌⊎◌, ◌<◌, ◌≤◌, ℕ, List, true, false, Option, Some, None, slice_get}
use Rattle.std.specs.Option.{option_and_then}
use Rattle.file_release.specs.domain_base.declared.place.CellAt.{CellAt}
use Rattle.file_release.specs.domain_base.declared.place.Home.{Home}
use Rattle.file_release.specs.domain_base.declared.place.Tag.{Tag}
use Rattle.file_release.specs.page_store.Pages.{Pages}
use Rattle.file_release.specs.cell_records.declared.record.Record.{Record}
use Rattle.file_release.specs.cell_records.declared.record.Record.TheVariants as written
use Rattle.file_release.specs.cell_records.Fields.{number_at}
use Rattle.file_release.specs.metadata_cells.Cell.{Cell, IsFileset, kind_number, record_of}
use Rattle.file_release.specs.metadata_cells.CellPage.{cell_at, home_of}
use Rattle.file_release.specs.metadata_cells.declared.head.CellKind.TheVariants.{Primary, Quota}
use Rattle.file_release.specs.tag_dirs.TagPage.{IsTagPage, entry_of, index_of, slot_of}
use Rattle.fileset_table.specs.Table.{Table, entry_of as fileset_of}
use Rattle.fileset_table.specs.declared.slot.FilesetEntry.{FilesetEntry}
use Rattle.fileset_table.specs.declared.slot.SlotItem.{SlotItem}
use Rattle.fileset_table.specs.declared.slot.SlotItem.TheVariants as slot
use Rattle.name_space.specs.Names.{root_tag}
use Rattle.domain_layout.specs.CellRules.{IsLink, IsPlace, IsUsed, LeadsTo, Link, item_of, of_original, say_removed}
use Rattle.domain_layout.specs.Layout.{first_tag_of}
use Rattle.domain_layout.specs.Reached.{Frame, IsRead, IsUnread, tags_way}
use Rattle.domain_layout.specs.Seen.{source_in}

-- ** Pages

-- what is in a slot has a tag directory that begins there
pub record HasTags (table : Table) (number : ℕ) (first : Home) : Type 0 where
  pub item : SlotItem
  pub there : slice_get table.slots number ≡ Some item
  pub has : first_tag_of item ≡ Some first

-- a page of it is read
pub record IsTagsPage (pages : Pages) (frame : Frame) (table : Table) (number place : ℕ) (home : Home)
    (page : List ℕ) : Type 0 where
  pub first : Home
  pub has : HasTags table number first
  pub read : IsRead pages frame (tags_way first) place home page

-- a page is come to that cannot be one
pub record IsNoTagPage (pages : Pages) (frame : Frame) (table : Table) (home : Home) : Type 0 where
  pub number : ℕ
  pub first : Home
  pub has : HasTags table number first
  pub unread : IsUnread pages frame (tags_way first) home

-- a page that an earlier slot's directory has, too
pub record IsSharedTagPage (pages : Pages) (frame : Frame) (table : Table) (home : Home) : Type 0
  where
    pub earlier : ℕ
    pub later : ℕ
    pub order : earlier < later
    pub one : ℕ
    pub other : ℕ
    pub page : List ℕ
    pub in_earlier : IsTagsPage pages frame table earlier one home page
    pub in_later : IsTagsPage pages frame table later other home page

-- it is not well formed, or it has an index that it may not have: the first page has index 0, and
-- none that of an earlier one
pub record IsWrongTagPage (pages : Pages) (frame : Frame) (table : Table) (home : Home) : Type 0
  where
    pub number : ℕ
    pub place : ℕ
    pub page : List ℕ
    pub is : IsTagsPage pages frame table number place home page
    pub wrong : ¬ IsTagPage page ⊎ ((place ≡ 0) × ¬ index_of page ≡ 0)
        ⊎ ((earlier : ℕ) × (other : Home) × (bytes : List ℕ) × (earlier < place)
        × IsTagsPage pages frame table number earlier other bytes
        × (index_of bytes ≡ index_of page))

-- ** Entries

-- on a page that is read, a used entry of this tag leads to a cell. One of slot 0, or with sequence
-- 0, names none
pub record HasEntry (pages : Pages) (frame : Frame) (table : Table) (number : ℕ) (tag : Tag)
    (at : CellAt) (home : Home) : Type 0 where
  pub place : ℕ
  pub page : List ℕ
  pub is : IsTagsPage pages frame table number place home page
  pub entry : ℕ
  pub within : entry < 1022
  pub slot : slot_of page entry ≡ tag.slot
  pub used : entry_of page entry ≡ record { seq = tag.seq; at = Some at }
  pub names : (1 ≤ tag.seq) × ¬ tag.slot ≡ 0

-- a first cell of that fileset and tag stands there, whatever else is in it
pub record IsFirstOf (pages : Pages) (frame : Frame) (number : ℕ) (tag : Tag) (at : CellAt)
    : Type 0 where
  pub place : IsPlace pages frame at
  pub bytes : List ℕ
  pub there : cell_at pages at ≡ Some bytes
  pub kind : number_at 1 15 bytes ≡ kind_number Primary
  pub fileset : IsFileset (number_at 1 14 bytes) (Some number)
  pub slot : number_at 4 8 bytes ≡ tag.slot
  pub seq : number_at 2 12 bytes ≡ tag.seq

-- an entry leads to no such cell
pub record IsWrongEntry (pages : Pages) (frame : Frame) (table : Table) (home : Home) : Type 0 where
  pub number : ℕ
  pub tag : Tag
  pub at : CellAt
  pub has : HasEntry pages frame table number tag at home
  pub wrong : ¬ IsFirstOf pages frame number tag at

-- an original has no entry of the root that leads to a cell which stays, at its first tag page
pub record HasNoRoot (pages : Pages) (frame : Frame) (table : Table) (home : Home) : Type 0 where
  pub number : ℕ
  pub item : SlotItem
  pub there : slice_get table.slots number ≡ Some item
  pub original : of_original (Some item) ≡ true
  pub first : first_tag_of item ≡ Some home
  pub none : (at : CellAt) (other : Home) → HasEntry pages frame table number root_tag at other
      → (cell : Cell) × IsUsed pages frame at cell × (say_removed cell.records ≡ true)

-- ** Cells

-- a first cell that is not to be removed, and that no entry of its fileset and tag names
pub record IsUnnamed (pages : Pages) (frame : Frame) (table : Table) (at : CellAt) : Type 0 where
  pub place : IsPlace pages frame at
  pub bytes : List ℕ
  pub there : cell_at pages at ≡ Some bytes
  pub kind : number_at 1 15 bytes ≡ kind_number Primary
  pub stays : (cell : Cell) → IsUsed pages frame at cell → say_removed cell.records ≡ false
  pub unnamed : (number : ℕ) (tag : Tag) (home : Home) → IsFirstOf pages frame number tag at
      → ¬ HasEntry pages frame table number tag at home

-- the slot of the original whose clone stands in a slot
abbrev pub original_slot : Option SlotItem → Option ℕ
original_slot (Some (slot.Clone of number entry)) = Some of
original_slot _ = None

-- a clone's file is read through a cell that is none of the original's file of that tag
pub record HasWrongSource (pages : Pages) (frame : Frame) (table : Table) (at : CellAt) : Type 0
  where
    pub cell : Cell
    pub is : IsUsed pages frame at cell
    pub kind : cell.head.kind ≡ Primary
    pub stays : say_removed cell.records ≡ false
    pub of : ℕ
    pub clone : original_slot (item_of table cell.head) ≡ Some of
    pub source : CellAt
    pub through : option_and_then source_in (record_of 2 cell.records) ≡ Some source
    pub wrong : ¬ IsFirstOf pages frame of
        (record { slot = cell.head.slot; seq = cell.head.seq }) source

-- the numbers of clones that a record of attributes has: those made before the file, and the one
-- with which it is out of sync
abbrev pub IsLate : ℕ → Record → Type 0
IsLate made (written.Attributes kind uid gid flags size keep links birth unsynced) =
    (made < birth) ⊎ (made < unsynced)
IsLate made _ = ⊥

-- a first cell that an original's entry of its tag names has a number of a clone that was not made
pub record IsLateFile (pages : Pages) (frame : Frame) (table : Table) (at : CellAt) : Type 0 where
  pub number : ℕ
  pub tag : Tag
  pub home : Home
  pub named : HasEntry pages frame table number tag at home
  pub original : of_original (slice_get table.slots number) ≡ true
  pub first : IsFirstOf pages frame number tag at
  pub cell : Cell
  pub is : IsUsed pages frame at cell
  pub value : Record
  pub attributes : record_of 1 cell.records ≡ Some value
  pub late : IsLate table.made value

-- the quota cells of a slot, if it names some
abbrev pub quota_of : SlotItem → Option CellAt
quota_of slot.Free = None
quota_of (slot.Original entry) = entry.quota
quota_of (slot.Clone of number entry) = entry.quota
quota_of (slot.Removed first_tag quota) = quota

-- a quota cell to which no cell leads, and that no slot names
pub record IsUnnamedQuota (pages : Pages) (frame : Frame) (table : Table) (at : CellAt) : Type 0
  where
    pub link : Link
    pub is : IsLink pages frame at link
    pub kind : link.kind ≡ Quota
    pub first : (other : CellAt) → ¬ LeadsTo pages frame other at
    pub unnamed : (number : ℕ) (item : SlotItem) → slice_get table.slots number ≡ Some item
        → ¬ quota_of item ≡ Some at

-- ** Slots

-- a clone's number is that of no clone that was made
abbrev pub HasWrongNumber : Table → SlotItem → Type 0
HasWrongNumber table (slot.Clone of number entry) = (number ≡ 0) ⊎ (table.made < number)
HasWrongNumber table _ = ⊥

-- a quota cell of that fileset stands there, whatever else is in it
pub record IsQuotaOf (pages : Pages) (frame : Frame) (number : ℕ) (at : CellAt) : Type 0 where
  pub place : IsPlace pages frame at
  pub bytes : List ℕ
  pub there : cell_at pages at ≡ Some bytes
  pub kind : number_at 1 15 bytes ≡ kind_number Quota
  pub fileset : IsFileset (number_at 1 14 bytes) (Some number)

-- what an original or a clone has for its first quota cell is none of its fileset, or another leads
-- to it
pub record HasWrongQuota (pages : Pages) (frame : Frame) (number : ℕ) (item : SlotItem) : Type 0
  where
    pub entry : FilesetEntry
    pub is : fileset_of item ≡ Some entry
    pub at : CellAt
    pub named : entry.quota ≡ Some at
    pub wrong : ¬ IsQuotaOf pages frame number at
        ⊎ ((other : CellAt) × LeadsTo pages frame other at)

-- a slot has a clone's number that none has, or a quota cell that is none of its fileset, or one to
-- which another cell leads
pub record IsWrongSlot (pages : Pages) (frame : Frame) (table : Table) : Type 0 where
  pub number : ℕ
  pub item : SlotItem
  pub there : slice_get table.slots number ≡ Some item
  pub wrong : HasWrongNumber table item ⊎ HasWrongQuota pages frame number item

-- ** All of them: code 6

abbrev pub IsNamingFault : Pages → Frame → Table → CellAt → Type 0
IsNamingFault pages frame table at =
    IsUnnamed pages frame table at ⊎ HasWrongSource pages frame table at
    ⊎ IsLateFile pages frame table at ⊎ IsUnnamedQuota pages frame table at

abbrev pub IsTagsFault : Pages → Frame → Table → Home → Type 0
IsTagsFault pages frame table home =
    IsNoTagPage pages frame table home ⊎ IsSharedTagPage pages frame table home
    ⊎ IsWrongTagPage pages frame table home
    ⊎ IsWrongEntry pages frame table home ⊎ HasNoRoot pages frame table home
    ⊎ ((at : CellAt) × (home_of at ≡ home) × IsNamingFault pages frame table at)
    ⊎ ((frame.anchor.table ≡ Some home) × IsWrongSlot pages frame table)
