-- The rules of pages of cells, of cells, and of their chains. Each is said by where it is broken.
use Rattle.std.specs.Prelude.{◌≡◌, ◌⊎◌, ◌==◌, ◌||◌, ◌&&◌, ◌<◌, ◌≤◌, ◌++◌, ℕ, Bool, true, false, not, is_some, List, [], ◌∷◌, Option, Some, None, Contains, nat_le, nat_lt, slice_get, if◌then◌else◌}
use Rattle.std.specs.List.{AllByRecursion, list_all}
use Rattle.std.specs.Option.{option_and_then, option_map_or}
use Rattle.file_release.specs.domain_base.Version.{bitmap_pages}
use Rattle.file_release.specs.domain_base.declared.place.CellAt.{CellAt}
use Rattle.file_release.specs.domain_base.declared.place.Home.{Home}
use Rattle.file_release.specs.domain_base.declared.version.Version.{Version}
use Rattle.file_release.specs.page_store.Pages.{Pages}
use Rattle.file_release.specs.cell_records.Fields.{number_at}
use Rattle.file_release.specs.cell_records.Records.{kind_of, last_kind}
use Rattle.file_release.specs.cell_records.declared.record.Record.{Record}
use Rattle.file_release.specs.cell_records.declared.record.Record.TheVariants as written
use Rattle.log_recovery.specs.log_ring.Homes.{IsMember, member_of}
use Rattle.file_release.specs.metadata_cells.Cell.{Cell, IsCell, IsFreeCell, id_of, kind_number, record_of}
use Rattle.file_release.specs.metadata_cells.CellPage.{cell_at, cell_of, free_cells, home_of, index_of}
use Rattle.file_release.specs.metadata_cells.Chain.{StandsAt, may_follow}
use Rattle.file_release.specs.metadata_cells.declared.head.CellHead.{CellHead}
use Rattle.file_release.specs.metadata_cells.declared.head.CellKind.{CellKind}
use Rattle.file_release.specs.metadata_cells.declared.head.CellKind.TheVariants.{Chain, Primary, Quota, Volume}
use Rattle.file_release.specs.extent_maps.declared.run.PagePlace.TheVariants.{Absent}
use Rattle.file_release.specs.extent_records.Writing.{places_in}
use Rattle.file_release.specs.fileset_files.Files.{is_first_kind, says_remove}
use Rattle.fileset_table.specs.Table.{Table, is_original}
use Rattle.fileset_table.specs.declared.slot.SlotItem.{SlotItem}
use Rattle.fileset_table.specs.declared.slot.SlotItem.TheVariants as slot
use Rattle.domain_layout.specs.Reached.{Frame, IsRead, IsUnread, cells_way, first_cells}

-- ** Pages of cells

-- cells of a page that is read, and the page itself
pub record IsCellsPage (pages : Pages) (frame : Frame) (place : ℕ) (home : Home) (page : List ℕ)
    : Type 0 where
  pub member : IsMember frame.anchor home.vol
  pub read : IsRead pages frame (cells_way frame home.vol) place home page

-- a page is come to that cannot be one of cells
pub record IsNoCellsPage (pages : Pages) (frame : Frame) (home : Home) : Type 0 where
  pub vol : ℕ
  pub member : IsMember frame.anchor vol
  pub unread : IsUnread pages frame (cells_way frame vol) home

-- it has another index than its place, or another count of free cells than it has
pub record HasWrongHeader (pages : Pages) (frame : Frame) (home : Home) : Type 0 where
  pub place : ℕ
  pub page : List ℕ
  pub is : IsCellsPage pages frame place home page
  pub wrong : ¬ index_of page ≡ place ⊎ ¬ number_at 2 12 page ≡ free_cells page
      ⊎ ¬ number_at 2 14 page ≡ 0

-- ** One cell

-- a cell that the version has: its records are all of kinds that it knows
pub record IsCellOf (version : Version) (bytes : List ℕ) (cell : Cell) : Type 0 where
  pub is : IsCell bytes cell
  pub known : AllByRecursion (λ r. kind_of r ≤ last_kind version) cell.records

-- some cell is neither free nor in use
pub record HasWrongCell (pages : Pages) (frame : Frame) (home : Home) : Type 0 where
  pub place : ℕ
  pub page : List ℕ
  pub is : IsCellsPage pages frame place home page
  pub cell : ℕ
  pub within : cell < 28
  pub used : ¬ IsFreeCell (cell_of page cell)
  pub wrong : (c : Cell) → ¬ IsCellOf frame.version (cell_of page cell) c

-- a place of a page that is read
pub record IsPlace (pages : Pages) (frame : Frame) (at : CellAt) : Type 0 where
  pub place : ℕ
  pub page : List ℕ
  pub is : IsCellsPage pages frame place (home_of at) page
  pub within : at.cell < 28

-- what is read of a cell in use whatever else stands in it: its kind, and the cell that it leads to
pub record Link : Type 0 where
  pub kind : CellKind
  pub next : Option CellAt

-- the address in a cell of the one that it leads to, and none where that is not well formed
abbrev pub next_in : List ℕ → Option CellAt
next_in bytes =
    if (number_at 2 0 bytes == 0) && (nat_le 1 (number_at 1 2 bytes)
    && (nat_le (number_at 1 2 bytes) 8 && nat_le (number_at 1 3 bytes) 27))
    then Some (record {
      vol = number_at 1 2 bytes;
      page = number_at 4 4 bytes;
      cell = number_at 1 3 bytes;
    })
    else None

-- a cell in use stands at such a place, and leads on like that
pub record IsLink (pages : Pages) (frame : Frame) (at : CellAt) (link : Link) : Type 0 where
  pub place : IsPlace pages frame at
  pub bytes : List ℕ
  pub there : cell_at pages at ≡ Some bytes
  pub kind : number_at 1 15 bytes ≡ kind_number link.kind
  pub next : link.next ≡ next_in bytes

-- a cell in use stands there, well formed, with these records
pub record IsUsed (pages : Pages) (frame : Frame) (at : CellAt) (cell : Cell) : Type 0 where
  pub place : IsPlace pages frame at
  pub stands : StandsAt pages at cell

-- the first cell of a volume says the volume
pub record SaysVolume (frame : Frame) (vol : ℕ) (cell : Cell) : Type 0 where
  pub kind : cell.head.kind ≡ Volume
  pub alone : cell.head.next ≡ None
  pub says : let pages = (member_of frame.anchor vol).pages in
      cell.records ≡ written.Volume vol pages (bitmap_pages frame.version pages) ∷ []

-- the place of a volume's first cell
abbrev pub IsFirstPlace : Frame → CellAt → Type 0
IsFirstPlace frame at = (at.page ≡ first_cells frame at.vol) × (at.cell ≡ 0)

-- the first cell of a volume does not, or another cell is of that kind
abbrev pub IsWrongVolumeCell : Pages → Frame → CellAt → Type 0
IsWrongVolumeCell pages frame at =
    (IsPlace pages frame at × IsFirstPlace frame at
    × ((cell : Cell) → StandsAt pages at cell → ¬ SaysVolume frame at.vol cell))
    ⊎ ((link : Link) × IsLink pages frame at link × (link.kind ≡ Volume) × ¬ IsFirstPlace frame at)

-- ** The first cell of a file or directory

-- the record of a kind is there
abbrev pub has_kind : ℕ → List Record → Bool
has_kind kind records = is_some (record_of kind records)

-- all of it is to be removed
abbrev pub say_removed : List Record → Bool
say_removed records = option_map_or says_remove (record_of 6 records) false

-- what stands in the slot that a head names
abbrev pub item_of : Table → CellHead → Option SlotItem
item_of table head = option_and_then (slice_get table.slots) head.fileset

-- that is an original, or a clone
abbrev pub of_original : Option SlotItem → Bool
of_original item = option_map_or is_original item false

abbrev pub of_clone : Option SlotItem → Bool
of_clone (Some (slot.Clone of number entry)) = true
of_clone _ = false

abbrev pub says_directory : Record → Bool
says_directory (written.Attributes kind uid gid flags size keep links birth unsynced) = kind == 2
says_directory _ = false

-- both are true, or none is
abbrev pub agree : Bool → Bool → Bool
agree true b = b
agree false b = not b

-- each first cell has attributes, and one record of extents, plain or dense, and records of these
-- kinds alone
abbrev pub has_first_records : List Record → Bool
has_first_records records = has_kind 1 records
    && not (agree (has_kind 4 records) (has_kind 14 records))
    && list_all (λ r. is_first_kind (kind_of r)) records

-- the kinds that a first cell may have in an original and in a clone: a directory has its parent,
-- and no file has one
abbrev pub has_its_kinds : Bool → List Record → Bool
has_its_kinds clone records = agree (has_kind 2 records) clone
    && agree (has_kind 10 records) (option_map_or says_directory (record_of 1 records) false)

-- an original keeps at most all pages, and fewer only where something is pending
abbrev pub keeps_well : Record → Bool → Bool
keeps_well (written.Attributes kind uid gid flags size keep links birth unsynced) pending =
    (keep == 65536) || (nat_lt keep 65536 && pending)
keeps_well _ pending = true

-- what tells originals and clones apart is not asked of what is to be removed
abbrev pub is_good_first : Table → Cell → Bool
is_good_first table cell = has_first_records cell.records
    && (say_removed cell.records
    || ((not (of_original (item_of table cell.head)) || (has_its_kinds false cell.records
    && option_map_or (λ r. keeps_well r (has_kind 6 cell.records))
    (record_of 1 cell.records) false))
    && (not (of_clone (item_of table cell.head)) || has_its_kinds true cell.records)))

-- a first cell has other records than it may have
pub record IsWrongFirst (pages : Pages) (frame : Frame) (table : Table) (at : CellAt) : Type 0 where
  pub cell : Cell
  pub used : IsUsed pages frame at cell
  pub kind : cell.head.kind ≡ Primary
  pub wrong : is_good_first table cell ≡ false

-- ** Chain cells and quota cells

-- one record of extents or holes
abbrev pub is_chain_records : List Record → Bool
is_chain_records (r ∷ []) = (kind_of r == 3) || (kind_of r == 5) || (kind_of r == 13)
is_chain_records _ = false

-- limits alone
abbrev pub are_limits : List Record → Bool
are_limits records = list_all (λ r. (kind_of r == 7) || (kind_of r == 8)) records

-- a chain cell without its one record, or a quota cell with other records than limits
pub record IsWrongLater (pages : Pages) (frame : Frame) (at : CellAt) : Type 0 where
  pub cell : Cell
  pub used : IsUsed pages frame at cell
  pub wrong : ((cell.head.kind ≡ Chain) × (is_chain_records cell.records ≡ false))
      ⊎ ((cell.head.kind ≡ Quota) × (are_limits cell.records ≡ false))

-- ** Chains

-- from a first cell on, the cells that were passed, and the one that is come to: each stands where
-- the one before it leads, may follow it, and was not passed before. That they are well formed is
-- not asked, so that a wrong record hides no other fault
pub data Follows (pages : Pages) (frame : Frame) (start : CellAt) : List CellAt → CellAt → Link
    → Type 0 where
  begins : (link : Link) → IsLink pages frame start link
      → Follows pages frame start [] start link
  goes_on : (passed : List CellAt) (at onto : CellAt) (link next : Link)
      → Follows pages frame start passed at link → link.next ≡ Some onto
      → ¬ Contains (passed ++ at ∷ []) onto → IsLink pages frame onto next
      → may_follow link.kind next.kind ≡ true
      → Follows pages frame start (passed ++ at ∷ []) onto next

-- a cell of quotas leads to another
abbrev pub LeadsTo : Pages → Frame → CellAt → CellAt → Type 0
LeadsTo pages frame at onto = (link : Link) × IsLink pages frame at link
    × (link.kind ≡ Quota) × (link.next ≡ Some onto)

-- the first cell of a chain: of a file or directory, or one of quotas to which none of quotas leads
abbrev pub IsChainHead : Pages → Frame → CellAt → Link → Type 0
IsChainHead pages frame at link = IsLink pages frame at link
    × ((link.kind ≡ Primary)
    ⊎ ((link.kind ≡ Quota) × ((other : CellAt) → ¬ LeadsTo pages frame other at)))

-- the order of cells: by volume, page and cell
abbrev pub is_before : CellAt → CellAt → Bool
is_before a b = nat_lt a.vol b.vol || ((a.vol == b.vol)
    && (nat_lt a.page b.page || ((a.page == b.page) && nat_lt a.cell b.cell)))

-- a cell of the chain that begins at a place
pub record IsInChain (pages : Pages) (frame : Frame) (start at : CellAt) (link : Link) : Type 0
  where
    pub first : Link
    pub begins : IsChainHead pages frame start first
    pub passed : List CellAt
    pub follows : Follows pages frame start passed at link

-- a cell of another chain leads to a cell, too
pub record IsLedTo (pages : Pages) (frame : Frame) (start : CellAt) (other onto : CellAt)
    : Type 0 where
  pub chain : CellAt
  pub another : ¬ chain ≡ start
  pub link : Link
  pub is : IsInChain pages frame chain other link
  pub leads : link.next ≡ Some onto
  pub next : Link
  pub there : IsLink pages frame onto next
  pub may : may_follow link.kind next.kind ≡ true

-- a cell of a chain leads back, to no cell that may follow it, or to one to which an earlier cell
-- of another chain leads
pub record LeadsWrong (pages : Pages) (frame : Frame) (at : CellAt) : Type 0 where
  pub start : CellAt
  pub link : Link
  pub is : IsInChain pages frame start at link
  pub onto : CellAt
  pub leads : link.next ≡ Some onto
  pub wrong : ((next : Link) → IsLink pages frame onto next
      → may_follow link.kind next.kind ≡ false)
      ⊎ Contains (is.passed ++ at ∷ []) onto
      ⊎ ((other : CellAt) × IsLedTo pages frame start other onto × (is_before other at ≡ true))

-- a chain cell or a quota cell to which no chain comes
pub record IsUnchained (pages : Pages) (frame : Frame) (at : CellAt) : Type 0 where
  pub link : Link
  pub is : IsLink pages frame at link
  pub kind : (link.kind ≡ Chain) ⊎ (link.kind ≡ Quota)
  pub alone : (start : CellAt) → ¬ IsInChain pages frame start at link

-- two cells of a chain, one after the other
pub record AreInChain (pages : Pages) (frame : Frame) (first : Link) (early late : Cell)
    (at : CellAt) : Type 0 where
  pub start : CellAt
  pub is_head : IsChainHead pages frame start first
  pub passed : List CellAt
  pub link : Link
  pub follows : Follows pages frame start passed at link
  pub late_is : IsUsed pages frame at late
  pub before : CellAt
  pub among : Contains passed before
  pub early_is : IsUsed pages frame before early

-- a cell says of a page where it stands that an earlier one of its chain does
pub record IsPageTwice (pages : Pages) (frame : Frame) (at : CellAt) : Type 0 where
  pub first : Link
  pub early : Cell
  pub late : Cell
  pub chain : AreInChain pages frame first early late at
  pub one : Record
  pub other : Record
  pub in_early : Contains early.records one
  pub in_late : Contains late.records other
  pub page : ℕ
  pub there : ¬ places_in one page ≡ Absent
  pub again : ¬ places_in other page ≡ Absent

-- a cell says an owner's limits that an earlier one of its chain says
pub record AreLimitsTwice (pages : Pages) (frame : Frame) (at : CellAt) : Type 0 where
  pub first : Link
  pub early : Cell
  pub late : Cell
  pub chain : AreInChain pages frame first early late at
  pub quotas : first.kind ≡ Quota
  pub one : Record
  pub other : Record
  pub in_early : Contains early.records one
  pub in_late : Contains late.records other
  pub kinds : kind_of one ≡ kind_of other
  pub ids : id_of one ≡ id_of other

-- holes in the chain of a file of an original
pub record AreHolesOfOriginal (pages : Pages) (frame : Frame) (table : Table) (at : CellAt)
    : Type 0 where
  pub start : CellAt
  pub first : Cell
  pub first_is : IsUsed pages frame start first
  pub kind : first.head.kind ≡ Primary
  pub original : of_original (item_of table first.head) ≡ true
  pub live : say_removed first.records ≡ false
  pub passed : List CellAt
  pub link : Link
  pub follows : Follows pages frame start passed at link
  pub cell : Cell
  pub is : IsUsed pages frame at cell
  pub holes : has_kind 5 cell.records ≡ true

-- ** All of them

-- a rule of cells is broken at a cell
abbrev pub IsCellFault : Pages → Frame → Table → CellAt → Type 0
IsCellFault pages frame table at =
    IsWrongVolumeCell pages frame at ⊎ IsWrongFirst pages frame table at
    ⊎ IsWrongLater pages frame at ⊎ LeadsWrong pages frame at ⊎ IsUnchained pages frame at
    ⊎ IsPageTwice pages frame at ⊎ AreLimitsTwice pages frame at
    ⊎ AreHolesOfOriginal pages frame table at

-- a rule of cells is broken on a page: code 5
abbrev pub IsCellsFault : Pages → Frame → Table → Home → Type 0
IsCellsFault pages frame table home =
    IsNoCellsPage pages frame home ⊎ HasWrongHeader pages frame home
    ⊎ HasWrongCell pages frame home
    ⊎ ((at : CellAt) × (home_of at ≡ home) × IsCellFault pages frame table at)
