-- The rules of directories and of their indexes, if the pages of tables stand as they should.
use Rattle.std.specs.Prelude.{◌≡◌, ◌⊎◌, ◌*◌, ◌<◌, ◌≤◌, ◌↔◌, ℕ, true, false, List, [], ◌∷◌, length, Some, None, IsSome, IsSomeAnd, Contains, nat_le, slice_get, if◌then◌else◌}
use Rattle.std.specs.List.{AllByRecursion, flat_map}
use Rattle.std.specs.Option.{option_and_then}
use Rattle.file_release.specs.domain_base.Limits.{max_links}
use Rattle.file_release.specs.domain_base.declared.place.CellAt.{CellAt}
use Rattle.file_release.specs.domain_base.declared.place.Home.{Home}
use Rattle.file_release.specs.domain_base.declared.place.Kind.{Kind}
use Rattle.file_release.specs.domain_base.declared.place.Kind.TheVariants.{Directory, File}
use Rattle.file_release.specs.domain_base.declared.place.Tag.{Tag}
use Rattle.file_release.specs.page_store.Pages.{Pages}
use Rattle.file_release.specs.cell_records.Fields.{number_at}
use Rattle.file_release.specs.cell_records.declared.record.Record.{Record}
use Rattle.file_release.specs.cell_records.declared.record.Record.TheVariants as written
use Rattle.file_release.specs.metadata_cells.Cell.{Cell, record_of}
use Rattle.file_release.specs.metadata_cells.CellPage.{home_of}
use Rattle.file_release.specs.metadata_cells.Chain.{LinksFrom, PlacedCell}
use Rattle.file_release.specs.tag_dirs.Directory.{IsDirectoryAt, cell_of}
use Rattle.file_release.specs.tag_dirs.declared.dir.TagPlace.{TagPlace}
use Rattle.file_release.specs.extent_maps.Runs.{home_at}
use Rattle.file_release.specs.file_chains.Files.{places_of}
use Rattle.file_release.specs.fileset_files.Files.{first_record, is_removed}
use Rattle.file_release.specs.fileset_files.Shown.{index_in}
use Rattle.file_release.specs.fileset_files.State.{parent_of}
use Rattle.name_space.specs.directory_pages.Entries.{is_below}
use Rattle.name_space.specs.directory_pages.Index.{IsIndexPage, entries_of}
use Rattle.name_space.specs.directory_pages.declared.entry.IndexEntry.{IndexEntry}
use Rattle.name_space.specs.directory_pages.RowPage.{IsDirPage, rows_of}
use Rattle.name_space.specs.directory_pages.declared.row.Row.{Row}
use Rattle.name_space.specs.directory_rows.Directory.{count_entries, count_hash}
use Rattle.fileset_table.specs.Table.{Table, entry_of as fileset_of}
use Rattle.fileset_table.specs.declared.slot.FilesetEntry.{FilesetEntry}
use Rattle.fileset_table.specs.declared.slot.SlotItem.{SlotItem}
use Rattle.fileset_table.specs.declared.slot.SlotItem.TheVariants as slot
use Rattle.name_space.specs.Names.{root_tag}
use Rattle.domain_layout.specs.CellRules.{IsUsed, of_clone}
use Rattle.domain_layout.specs.Reached.{Frame, IsRead, IsUnread, IsWithin, index_way}
use Rattle.domain_layout.specs.Seen.{IsOwn, SeenFile, seen_in, seen_through}

-- ** What a fileset has at a tag

-- a fileset's entry of a tag leads to the first of these cells, each of which leads to the next one.
-- What their records say is not asked
pub record IsThere (pages : Pages) (entry : FilesetEntry) (tag : Tag) (cells : List PlacedCell)
    : Type 0 where
  pub places : List TagPlace
  pub directory : IsDirectoryAt pages entry.first_tag places
  pub leads : IsSomeAnd (cell_of pages places tag) (λ at. LinksFrom pages at cells)

-- it has no entry of the tag
pub record IsNotThere (pages : Pages) (entry : FilesetEntry) (tag : Tag) : Type 0 where
  pub places : List TagPlace
  pub directory : IsDirectoryAt pages entry.first_tag places
  pub none : cell_of pages places tag ≡ None

-- the file of these cells as the original in a slot has it
pub record IsInOriginal (pages : Pages) (entry : FilesetEntry) (tag : Tag)
    (cells : List PlacedCell) (seen : SeenFile) : Type 0 where
  pub there : IsThere pages entry tag cells
  pub is : seen_in cells ≡ Some seen

-- the file of these cells as a clone has it: they are its own, or the original's
pub record IsInClone (pages : Pages) (entry original : FilesetEntry) (clone : ℕ) (tag : Tag)
    (cells : List PlacedCell) (seen : SeenFile) : Type 0 where
  pub is : (IsThere pages entry tag cells × (is_removed cells ≡ false) × IsOwn pages cells seen)
      ⊎ (IsNotThere pages entry tag × IsThere pages original tag cells
      × (seen_through clone cells ≡ Some seen))

abbrev pub IsInItem : Pages → Table → SlotItem → Tag → List PlacedCell → SeenFile → Type 0
IsInItem pages table (slot.Original entry) tag cells seen =
    IsInOriginal pages entry tag cells seen
IsInItem pages table (slot.Clone of clone entry) tag cells seen =
    IsSomeAnd (option_and_then fileset_of (slice_get table.slots of))
    (λ original. IsInClone pages entry original clone tag cells seen)
IsInItem pages table _ tag cells seen = ⊥

-- a fileset that is not being removed has the file of these cells at a tag
pub record Has (pages : Pages) (table : Table) (number : ℕ) (tag : Tag) (cells : List PlacedCell)
    (seen : SeenFile) : Type 0 where
  pub item : SlotItem
  pub there : slice_get table.slots number ≡ Some item
  pub is : IsInItem pages table item tag cells seen

-- of that kind
abbrev pub HasOfKind : Pages → Table → ℕ → Tag → Kind → Type 0
HasOfKind pages table number tag of = (cells : List PlacedCell) × (seen : SeenFile)
    × Has pages table number tag cells seen × (seen.is.kind ≡ of)

-- the page of its first cell
abbrev pub IsFirstHome : List PlacedCell → Home → Type 0
IsFirstHome [] home = ⊥
IsFirstHome (first ∷ rest) home = home_of first.at ≡ home

-- ** Rows

-- where a row stands: its directory, the page's number there, and its place on that
pub record RowPlace : Type 0 where
  pub dir : Tag
  pub page : ℕ
  pub place : ℕ

-- a page of a directory stands at a home on its volume
pub record IsDirectoryPage (pages : Pages) (frame : Frame) (table : Table) (number : ℕ) (dir : Tag)
    (page : ℕ) (home : Home) (bytes : List ℕ) : Type 0 where
  pub cells : List PlacedCell
  pub seen : SeenFile
  pub has : Has pages table number dir cells seen
  pub kind : seen.is.kind ≡ Directory
  pub at : seen.homes page ≡ Some home
  pub within : IsWithin frame home
  pub there : pages home ≡ Some bytes

-- a row stands at a place of a page that is well formed
pub record IsRow (pages : Pages) (frame : Frame) (table : Table) (number : ℕ) (at : RowPlace)
    (row : Row) (home : Home) : Type 0 where
  pub bytes : List ℕ
  pub is : IsDirectoryPage pages frame table number at.dir at.page home bytes
  pub good : IsDirPage bytes
  pub there : slice_get (rows_of bytes) at.place ≡ Some row

-- these are all rows that lead to a tag of this kind: one of another kind leads to nothing
pub record AreRowsTo (pages : Pages) (frame : Frame) (table : Table) (number : ℕ) (tag : Tag)
    (of : Kind) (rows : List RowPlace) : Type 0 where
  pub each : (at : RowPlace) → Contains rows at
      ↔ ((row : Row) × (home : Home) × IsRow pages frame table number at row home
      × (row.tag ≡ tag) × (row.kind ≡ of))
  pub once : (j k : ℕ) (at : RowPlace) → slice_get rows j ≡ Some at → slice_get rows k ≡ Some at
      → j ≡ k

-- from one directory on rows of directories lead to a tag
pub data RowsLead (pages : Pages) (frame : Frame) (table : Table) (number : ℕ) (dir : Tag) : Tag
    → Type 0 where
  one : (at : RowPlace) (row : Row) (home : Home) → at.dir ≡ dir
      → IsRow pages frame table number at row home → row.kind ≡ Directory
      → RowsLead pages frame table number dir row.tag
  more : (middle : Tag) (at : RowPlace) (row : Row) (home : Home)
      → RowsLead pages frame table number dir middle → at.dir ≡ middle
      → IsRow pages frame table number at row home → row.kind ≡ Directory
      → RowsLead pages frame table number dir row.tag

-- something is there at a tag
abbrev pub IsHere : Pages → Table → ℕ → Tag → Type 0
IsHere pages table number tag =
    (cells : List PlacedCell) × (seen : SeenFile) × Has pages table number tag cells seen

-- no directory of a fileset is out of sync: an original's never is, and a clone's none is where the
-- root is there, and each directory to which rows lead from the root on
pub record AreAllInSync (pages : Pages) (frame : Frame) (table : Table) (number : ℕ) : Type 0 where
  pub root : IsHere pages table number root_tag
  pub reached : (tag : Tag) → RowsLead pages frame table number root_tag tag
      → IsHere pages table number tag

-- all directories of the fileset are read: always of an original, of a clone only if its root is
-- there and each directory to which rows lead from it on
abbrev pub AreAllRead : Pages → Frame → Table → ℕ → Type 0
AreAllRead pages frame table number = (of_clone (slice_get table.slots number) ≡ false)
    ⊎ AreAllInSync pages frame table number

-- ** What a directory's pages break: at that page

-- a page of a directory is not well formed, and then has no rows
abbrev pub IsWrongRowPage : Pages → Frame → Table → Home → Type 0
IsWrongRowPage pages frame table home = (number : ℕ) × (dir : Tag) × (page : ℕ) × (bytes : List ℕ)
    × IsDirectoryPage pages frame table number dir page home bytes × ¬ IsDirPage bytes

-- one place is before another
abbrev pub IsEarlier : RowPlace → RowPlace → Type 0
IsEarlier a b = (a.page < b.page) ⊎ ((a.page ≡ b.page) × (a.place < b.place))

-- a row has the name of an earlier one of its directory
pub record IsNameTwice (pages : Pages) (frame : Frame) (table : Table) (home : Home) : Type 0 where
  pub number : ℕ
  pub early : RowPlace
  pub late : RowPlace
  pub one : Row
  pub other : Row
  pub first_home : Home
  pub is_early : IsRow pages frame table number early one first_home
  pub is_late : IsRow pages frame table number late other home
  pub same : early.dir ≡ late.dir
  pub order : IsEarlier early late
  pub names : one.name ≡ other.name

-- a row leads to the root; to no file of its kind in an original; or in a clone to one of another
-- kind
pub record IsWrongRow (pages : Pages) (frame : Frame) (table : Table) (home : Home) : Type 0 where
  pub number : ℕ
  pub at : RowPlace
  pub row : Row
  pub is : IsRow pages frame table number at row home
  pub wrong : (row.tag ≡ root_tag)
      ⊎ ((of_clone (slice_get table.slots number) ≡ false)
      × ¬ HasOfKind pages table number row.tag row.kind)
      ⊎ ((of : Kind) × HasOfKind pages table number row.tag of × ¬ of ≡ row.kind)

-- another row leads to the tag to which this one does, and one of them is of a directory
abbrev pub IsSecond : Pages → Frame → Table → ℕ → RowPlace → Row → Type 0
IsSecond pages frame table number at row = (other : RowPlace) × (also : Row) × (home : Home)
    × IsRow pages frame table number other also home × ¬ at ≡ other × (row.tag ≡ also.tag)
    × ((row.kind ≡ Directory) ⊎ (also.kind ≡ Directory))

-- more rows of its kind lead to its tag than to a file may
abbrev pub IsOneOfMany : Pages → Frame → Table → ℕ → Row → Type 0
IsOneOfMany pages frame table number row = (rows : List RowPlace)
    × AreRowsTo pages frame table number row.tag row.kind rows × (max_links < length rows)

-- a row leads to what a clone has lost, as more rows do than may
pub record IsLostTwice (pages : Pages) (frame : Frame) (table : Table) (home : Home) : Type 0 where
  pub number : ℕ
  pub at : RowPlace
  pub row : Row
  pub is : IsRow pages frame table number at row home
  pub lost : ¬ IsHere pages table number row.tag
  pub wrong : IsSecond pages frame table number at row ⊎ IsOneOfMany pages frame table number row

-- ** What files and directories break: at the page of their first cell

-- its pages have a gap, or it has another size than they; or its cells have pages that it does not
-- keep
abbrev pub HasWrongSize : List PlacedCell → SeenFile → Type 0
HasWrongSize cells seen = ¬ ((count : ℕ) × (seen.is.size ≡ 8192 * count)
    × ((page : ℕ) → IsSome (seen.homes page) ↔ (page < count)))
    ⊎ ((page : ℕ) × IsSome (home_at (places_of cells page)) × (seen.homes page ≡ None))

-- a row that leads to a directory stands in another one than it says
pub record HasWrongParent (pages : Pages) (frame : Frame) (table : Table) (number : ℕ) (tag : Tag)
    (cells : List PlacedCell) : Type 0 where
  pub parent : Tag
  pub is : ((tag ≡ root_tag) × (parent ≡ root_tag))
      ⊎ ((at : RowPlace) × (row : Row) × (home : Home) × IsRow pages frame table number at row home
      × (row.tag ≡ tag) × (row.kind ≡ Directory) × (at.dir ≡ parent) × ¬ tag ≡ root_tag)
  pub wrong : ¬ parent_of cells ≡ Some parent

-- a directory: two rows lead to it, or it is below itself; or, if no directory is out of sync, no
-- row leads to it, or it is not below the root
abbrev pub IsMisplaced : Pages → Frame → Table → ℕ → Tag → Type 0
IsMisplaced pages frame table number tag = (rows : List RowPlace)
    × AreRowsTo pages frame table number tag Directory rows
    × ((1 < length rows) ⊎ RowsLead pages frame table number tag tag
    ⊎ (AreAllRead pages frame table number
    × ¬ RowsLead pages frame table number root_tag tag))

-- a file: more rows lead to it than it has links; or, if no directory is out of sync, fewer do
abbrev pub IsMiscounted : Pages → Frame → Table → ℕ → Tag → SeenFile → Type 0
IsMiscounted pages frame table number tag seen = (rows : List RowPlace)
    × AreRowsTo pages frame table number tag File rows
    × ((seen.is.links < length rows)
    ⊎ (AreAllRead pages frame table number × (length rows < seen.is.links)))

-- the root is a file, or a file has other links than rows; or what is wrong with a directory, by
-- its size, pages, links, parent and rows
abbrev pub IsWrongFile : Pages → Frame → Table → ℕ → Tag → List PlacedCell → SeenFile → Kind
    → Type 0
IsWrongFile pages frame table number tag cells seen File =
    (tag ≡ root_tag) ⊎ IsMiscounted pages frame table number tag seen
IsWrongFile pages frame table number tag cells seen Directory =
    HasWrongSize cells seen ⊎ ¬ seen.is.links ≡ 1
    ⊎ HasWrongParent pages frame table number tag cells
    ⊎ (¬ tag ≡ root_tag × IsMisplaced pages frame table number tag)

-- ** All of them: code 9

pub record IsFileFault (pages : Pages) (frame : Frame) (table : Table) (home : Home) : Type 0 where
  pub number : ℕ
  pub tag : Tag
  pub cells : List PlacedCell
  pub seen : SeenFile
  pub has : Has pages table number tag cells seen
  pub at : IsFirstHome cells home
  pub wrong : IsWrongFile pages frame table number tag cells seen seen.is.kind

-- a rule of code 9 is broken at this page
abbrev pub IsDirectoryFault : Pages → Frame → Table → Home → Type 0
IsDirectoryFault pages frame table home =
    IsWrongRowPage pages frame table home ⊎ IsNameTwice pages frame table home
    ⊎ IsWrongRow pages frame table home ⊎ IsLostTwice pages frame table home
    ⊎ IsFileFault pages frame table home

-- ** Indexes: code 10

-- a cell in use names an index that begins there
pub record HasIndexAt (pages : Pages) (frame : Frame) (at : CellAt) (first : Home) : Type 0 where
  pub cell : Cell
  pub is : IsUsed pages frame at cell
  pub value : Record
  pub there : record_of 9 cell.records ≡ Some value
  pub begins : index_in value ≡ Some first

-- a page that is well formed by itself, and leads to none, or to one on a volume that there may be
abbrev pub IsGoodIndexPage : List ℕ → Type 0
IsGoodIndexPage page = IsIndexPage page × (number_at 4 8 page ≤ 8)

-- what is asked of every index, of whatever it is: each page that is come to can be one, is well
-- formed, and is none of another index
pub record IsWrongIndexPage (pages : Pages) (frame : Frame) (home : Home) : Type 0 where
  pub at : CellAt
  pub first : Home
  pub has : HasIndexAt pages frame at first
  pub wrong : IsUnread pages frame (index_way first) home
      ⊎ ((place : ℕ) × (page : List ℕ) × IsRead pages frame (index_way first) place home page
      × (¬ IsGoodIndexPage page
      ⊎ ((other : CellAt) × (begin : Home) × (k : ℕ) × ¬ other ≡ at
      × HasIndexAt pages frame other begin
      × IsRead pages frame (index_way begin) k home page)))

-- how many entries a record says that the index has
abbrev pub total_in : Record → ℕ
total_in (written.DirIndex vol page entries) = entries
total_in _ = 0

-- a file of a fileset, an original or a clone, has an index that begins there, with this total of
-- entries
pub record HasIndex (pages : Pages) (table : Table) (number : ℕ) (tag : Tag) (seen : SeenFile)
    (first : Home) (total : ℕ) : Type 0 where
  pub cells : List PlacedCell
  pub has : Has pages table number tag cells seen
  pub value : Record
  pub there : first_record 9 cells ≡ Some value
  pub begins : index_in value ≡ Some first
  pub entries : total_in value ≡ total

-- the pages of an index that are read, the page in front first
pub record AreReadPages (pages : Pages) (frame : Frame) (first : Home) (index : List (List ℕ))
    : Type 0 where
  pub each : (place : ℕ) (page : List ℕ) → slice_get index place ≡ Some page
      ↔ ((home : Home) × IsRead pages frame (index_way first) place home page)

-- they are all pages of it: no other is come to, and each is well formed
pub record AreAllPages (pages : Pages) (frame : Frame) (first : Home) (index : List (List ℕ))
    : Type 0 where
  pub read : AreReadPages pages frame first index
  pub whole : (home : Home) → ¬ IsUnread pages frame (index_way first) home
  pub good : AllByRecursion IsGoodIndexPage index

-- the entries of a page, none where it says that it has more than a page can have
abbrev pub entries_in : List ℕ → List IndexEntry
entries_in page = if nat_le (number_at 4 4 page) 1022 then entries_of page else []

-- how many rows with a name of that hash the page with a number has
pub record CountsRows (pages : Pages) (frame : Frame) (table : Table) (number : ℕ) (dir : Tag)
    (hash page count : ℕ) : Type 0 where
  pub is : ((home : Home) × (bytes : List ℕ)
      × IsDirectoryPage pages frame table number dir page home bytes × IsDirPage bytes
      × (count ≡ count_hash hash (rows_of bytes)))
      ⊎ (((home : Home) (bytes : List ℕ)
      → IsDirectoryPage pages frame table number dir page home bytes → ¬ IsDirPage bytes)
      × (count ≡ 0))

-- an entry is below one before it; or there are more entries like it than rows
pub record IsWrongIndexEntry (pages : Pages) (frame : Frame) (table : Table) (number : ℕ)
    (dir : Tag) (index : List (List ℕ)) (place : ℕ) : Type 0 where
  pub page : List ℕ
  pub there : slice_get index place ≡ Some page
  pub k : ℕ
  pub entry : IndexEntry
  pub is : slice_get (entries_in page) k ≡ Some entry
  pub wrong : ((earlier : ℕ) × (j : ℕ) × (before : IndexEntry) × (bytes : List ℕ)
      × (slice_get index earlier ≡ Some bytes) × (slice_get (entries_in bytes) j ≡ Some before)
      × ((earlier < place) ⊎ ((earlier ≡ place) × (j < k))) × (is_below entry before ≡ true))
      ⊎ ((count : ℕ) × CountsRows pages frame table number dir entry.hash entry.page count
      × (count < count_entries entry.hash entry.page (flat_map entries_in index)))

-- the total is wrong, or a row has no entry: at the first page, and only where all are read
pub record IsWrongTotal (pages : Pages) (frame : Frame) (table : Table) (number : ℕ) (dir : Tag)
    (first : Home) (total : ℕ) : Type 0 where
  pub index : List (List ℕ)
  pub are : AreAllPages pages frame first index
  pub wrong : ¬ total ≡ length (flat_map entries_in index)
      ⊎ ((hash : ℕ) × (page : ℕ) × (count : ℕ)
      × CountsRows pages frame table number dir hash page count
      × (count_entries hash page (flat_map entries_in index) < count))

-- a directory has more pages than one, with or without a gap
abbrev pub HasSecondPage : SeenFile → Type 0
HasSecondPage seen = (first : ℕ) × (second : ℕ) × (¬ first ≡ second)
    × IsSome (seen.homes first) × IsSome (seen.homes second)

-- what is wrong with the index of a file that is there, at one of its pages
abbrev pub IsWrongIndex : Pages → Frame → Table → ℕ → Tag → SeenFile → Home → ℕ → Home → Type 0
IsWrongIndex pages frame table number dir seen first total home =
    ((place : ℕ) × (page : List ℕ) × (index : List (List ℕ))
    × IsRead pages frame (index_way first) place home page
    × AreReadPages pages frame first index
    × IsWrongIndexEntry pages frame table number dir index place)
    ⊎ ((home ≡ first) × (¬ seen.is.kind ≡ Directory ⊎ ¬ HasSecondPage seen
    ⊎ IsWrongTotal pages frame table number dir first total))

-- the index of a file that is there is wrong at this page: an entry out of order or more often than
-- its rows, or, at the first page, what is missing or too many
pub record IsWrongIndexOf (pages : Pages) (frame : Frame) (table : Table) (home : Home) : Type 0
  where
    pub number : ℕ
    pub dir : Tag
    pub seen : SeenFile
    pub first : Home
    pub total : ℕ
    pub has : HasIndex pages table number dir seen first total
    pub wrong : IsWrongIndex pages frame table number dir seen first total home

abbrev pub IsIndexFault : Pages → Frame → Table → Home → Type 0
IsIndexFault pages frame table home =
    IsWrongIndexPage pages frame home ⊎ IsWrongIndexOf pages frame table home
