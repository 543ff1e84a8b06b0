-- The pages of a domain in memory, brought home.
use Rattle.std.specs.Prelude.{◌≡◌, ◌⊎◌, ℕ, ◌+◌, ◌*◌, ◌^◌, ◌<◌, ◌≤◌, Bool, List, IfSome, IsSome, length, slice_range}
use Rattle.attached_domain.specs.domain_base.declared.place.Home.{Home}
use Rattle.attached_domain.specs.page_store.Pages.{Pages}
use Rattle.attached_domain.specs.volume_disk.Disk.{Disk, IsSettled, MayLeave, Tells, volume_pages}
use Rattle.attached_domain.specs.volume_disk.Image.{Image, IsIn, Places, page_at}
use Rattle.attached_domain.specs.volume_disk.Run.{Touches}
use Rattle.attached_domain.specs.disk_label.declared.anchor.Anchor.{Anchor}
use Rattle.attached_domain.specs.log_ring.Homes.{IsLoggable}
use Rattle.attached_domain.specs.log_ring.Settling.{IsOnPage}
use Rattle.attached_domain.specs.log_recovery.Settling.{HasNoGroup}
use Rattle.attached_domain.specs.fileset_model.Filesets.{FilesetMap}
use Rattle.attached_domain.specs.domain_layout.Read.{Means}
use Rattle.attached_domain.specs.domain_standing.Domain.{layout_of}
use Rattle.attached_domain.specs.staged_pages.Store.{before_of, pages_of}
use Rattle.attached_domain.specs.domain_memory.Memory.{StandsFor}
use Rattle.attached_domain.specs.domain_memory.Staged.{staged_in}
use Rattle.attached_domain.specs.domain_memory.declared.memory.DomainMemory.{DomainMemory}
use Rattle.domain_attaching.specs.Tables.{HasMarksFor, IsTableHome, is_table}
use Rattle.domain_attaching.specs.declared.tables.TablePages.{TablePages}
use Rattle.domain_attaching.specs.declared.closing_room.ClosingRoom.{ClosingRoom}

-- the bytes of pages of members, after labels and anchors and outside the log
abbrev pub IsOnLoggable : Anchor → Places
IsOnLoggable anchor v k = (home : Home) × IsLoggable anchor home × IsOnPage home v k

-- the bytes of pages that have a property
abbrev pub IsOnThese : (Home → Type 0) → Places
IsOnThese These v k = (home : Home) × These home × IsOnPage home v k

-- a page that may be written, and is or is not of a table; and one of a volume
abbrev pub IsChosen : Anchor → TablePages → Bool → Home → Type 0
IsChosen anchor tables of_tables home =
    IsLoggable anchor home × (is_table tables home ≡ of_tables)

-- a page of one volume that may be written, and is or is not of a table
abbrev pub IsChosenOn : ℕ → Anchor → TablePages → Bool → Home → Type 0
IsChosenOn vol anchor tables of_tables home =
    (home.vol ≡ vol) × IsChosen anchor tables of_tables home

-- such a page that is in memory, so that it is to be brought home
abbrev pub IsToBring : Pages → Anchor → TablePages → Bool → Home → Type 0
IsToBring pages anchor tables of_tables home =
    IsChosen anchor tables of_tables home × IsSome (pages home)

-- ** Pages that stand in a row

-- each page of a volume from one up to another has a property
abbrev pub AreBetween : ℕ → ℕ → ℕ → (Home → Type 0) → Type 0
AreBetween vol first end P =
    (page : ℕ) → first ≤ page → page < end → P (record { vol = vol; page = page })

-- the bytes of `count` pages of a volume, from page `first` on
abbrev pub IsOnRow : ℕ → ℕ → ℕ → Places
IsOnRow vol first count = IsIn vol (8192 * first) (8192 * count)

-- all of them are the rack's
pub record AreOnRack (sizes : List ℕ) (vol first count : ℕ) : Type 0 where
  pub low : 1 ≤ vol
  pub high : vol ≤ length sizes
  pub within : first + count ≤ volume_pages sizes vol
  pub limit : first + count < 2 ^ 28

-- page k of bytes that were read
abbrev pub page_in : List ℕ → ℕ → List ℕ
page_in found k = slice_range found (8192 * k) (8192 * k + 8192)

-- what memory has for a home stands there on an image
abbrev pub StandsHome : Pages → Image → Home → Type 0
StandsHome pages image home = IfSome (pages home) (λ page. page_at image home.vol home.page ≡ page)

-- ** Homes

-- such a page that is in memory stands at its home on an image
abbrev pub IsHome : Pages → Anchor → Image → Home → Type 0
IsHome pages anchor image home = IsLoggable anchor home
    → IfSome (pages home) (λ page. page_at image home.vol home.page ≡ page)

-- so do all of them, and those that have a property
abbrev pub AreHome : Pages → Anchor → Image → Type 0
AreHome pages anchor image = (home : Home) → IsHome pages anchor image home

-- each page in memory that has a property stands at its home
abbrev pub AreTheseHome : (Home → Type 0) → Pages → Anchor → Image → Type 0
AreTheseHome These pages anchor image = (home : Home) → These home → IsHome pages anchor image home

-- each that stood at its home still does
abbrev pub StayHome : Pages → Anchor → Disk → Disk → Type 0
StayHome pages anchor old new = Tells old → (home : Home)
    → IsHome pages anchor old.now.contents home → IsHome pages anchor new.now.contents home

-- ** The room for it

-- a mark for each page of the volumes of an anchor, and the bytes of one call
pub record HasRoomFor (anchor : Anchor) (room : ClosingRoom) : Type 0 where
  pub marks : HasMarksFor anchor room.tables
  pub buffer : length room.found.items ≡ 8192 * 64

-- ** A domain that is closed

-- each image that a stop might leave has memory's anchor, no group after it, and each page in
-- memory that is a member's at its home; nothing is pending
pub record IsClosed (disk : Disk) (memory : DomainMemory) : Type 0 where
  pub none : HasNoGroup disk memory.frame.anchor
  pub home : (image : Image) → MayLeave disk.now image
      → AreHome (before_of memory.pages) memory.frame.anchor image
  pub synced : IsSettled disk.now

-- each means what memory stands for
abbrev pub MeansKept : Disk → DomainMemory → Type 0
MeansKept disk memory = (all : FilesetMap) → StandsFor memory all
    → (image : Image) → MayLeave disk.now image → ∥ Means disk.sizes image all ∥₁

-- ** The order in which pages are written

-- the pages of data, and those of tables, which may be written
abbrev pub IsData : DomainMemory → Home → Type 0
IsData memory home = IsLoggable memory.frame.anchor home
    × ¬ IsTableHome (layout_of (staged_in memory)) home

-- a page that may be written and is one of the tables: of cells, of tags, or the fileset table
abbrev pub IsOfTables : DomainMemory → Home → Type 0
IsOfTables memory home = IsLoggable memory.frame.anchor home
    × IsTableHome (layout_of (staged_in memory)) home

-- first the pages that are not of tables are written, then all are synced, and then pages of tables
-- are written, so that no page of a table is written before all others are there to stay
pub record IsInOrder (old new : Disk) (memory : DomainMemory) : Type 0 where
  pub between : Disk
  pub first : Touches old between (IsOnThese (IsData memory))
  pub home : Tells old → AreTheseHome (IsData memory) (pages_of memory.pages) memory.frame.anchor
      between.now.contents
  pub settled : Tells old → IsSettled between.now
  pub last : Touches between new (IsOnThese (IsOfTables memory))

-- if a call failed, the order holds as far as it has come
abbrev pub IsInOrderSoFar : Disk → Disk → DomainMemory → Type 0
IsInOrderSoFar old new memory =
    Touches old new (IsOnThese (IsData memory)) ⊎ IsInOrder old new memory
