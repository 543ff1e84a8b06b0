-- What is read of a fileset's files, by its tag directory.
use Rattle.std.specs.Prelude.{◌≡◌, ◌⊎◌, ◌↔◌, ℕ, false, List, Option, Some, None, Contains, IfSome, IsSomeAnd, IsTrue, slice_get}
use Rattle.index_row_faults.specs.domain_base.declared.place.CellAt.{CellAt}
use Rattle.index_row_faults.specs.domain_base.declared.place.Home.{Home}
use Rattle.index_row_faults.specs.domain_base.declared.place.Tag.{Tag}
use Rattle.index_row_faults.specs.page_store.Pages.{Pages}
use Rattle.index_row_faults.specs.metadata_cells.Chain.{IsBroken, LinksFrom, PlacedCell}
use Rattle.index_row_faults.specs.tag_dirs.Directory.{cell_of}
use Rattle.index_row_faults.specs.tag_dirs.declared.dir.TagPlace.{TagPlace}
use Rattle.index_row_faults.specs.extent_maps.Runs.{Places, home_at}
use Rattle.index_row_faults.specs.extent_records.Writing.{places_before}
use Rattle.index_row_faults.specs.file_chains.Files.{places_of}
use Rattle.index_row_faults.specs.fileset_files.Files.{is_removed}
use Rattle.index_row_faults.specs.fileset_files.State.{parent_of}
use Rattle.index_row_faults.specs.fileset_files.declared.attributes.Attributes.{Attributes}
use Rattle.index_row_faults.specs.file_release.Reading.{read_home}
use Rattle.index_row_faults.specs.fileset_table.Table.{Table}
use Rattle.index_row_faults.specs.fileset_table.declared.slot.FilesetEntry.{FilesetEntry}
use Rattle.index_row_faults.specs.fileset_table.declared.slot.SlotItem.TheVariants as slot
use Rattle.index_row_faults.specs.domain_layout.Reached.{Frame, IsWithin}
use Rattle.index_row_faults.specs.domain_layout.Seen.{IsOwn, IsSource, SeenFile, frozen_of, seen_in, seen_through, source_of}
use Rattle.index_row_faults.specs.filesets_reading.Seen.{home_in}
use Rattle.index_row_faults.specs.directory_faults.There.{IsReadAs, WasRead}
use Rattle.index_row_faults.specs.directory_faults.declared.there.FileThere.{FileThere}
use Rattle.slot_files.specs.Said.{HasGap, HasTwo, LosesPage, said_in}
use Rattle.slot_files.specs.declared.said.SaidHome.{SaidHome}
use Rattle.slot_files.specs.declared.said.SaidPlace.{SaidPlace}

-- ** By the first cell

-- no chain from the cell is broken
abbrev pub IsWhole : Pages → CellAt → Type 0
IsWhole pages at = (broken : CellAt) → ¬ IsBroken pages at broken

-- through what a file is read that begins there and stays, if through any, begins a whole chain
abbrev pub HasWholeSource : Pages → CellAt → Type 0
HasWholeSource pages at = (cells : List PlacedCell) → LinksFrom pages at cells
    → is_removed cells ≡ false → IfSome (source_of cells) (IsWhole pages)

-- the file of these cells as an original has it; as a clone does whose own cells they are; and as
-- the clone of a number has it through its original
abbrev pub IsOfOriginal : Pages → CellAt → List PlacedCell → SeenFile → Type 0
IsOfOriginal pages at cells seen = LinksFrom pages at cells × (seen_in cells ≡ Some seen)

-- the file of a clone's own cells, which begin there
abbrev pub IsOfClone : Pages → CellAt → List PlacedCell → SeenFile → Type 0
IsOfClone pages at cells seen =
    LinksFrom pages at cells × (is_removed cells ≡ false) × IsOwn pages cells seen

-- the file of cells that begin there, as a clone has it through its original
abbrev pub IsThrough : Pages → ℕ → CellAt → List PlacedCell → SeenFile → Type 0
IsThrough pages number at cells seen =
    LinksFrom pages at cells × (seen_through number cells ≡ Some seen)

-- ** What is read of one

-- a file with this tag, first cell and attributes, whatever its pages are
pub record IsBegun (pages : Pages) (tag : Tag) (at : CellAt) (is : Attributes) (file : FileThere)
    : Type 0 where
  pub tag_is : file.tag ≡ tag
  pub at_is : file.at ≡ at
  pub is_so : file.seen.is ≡ is
  pub parent : (cells : List PlacedCell) → LinksFrom pages at cells
      → file.parent ≡ parent_of cells

-- the same file, whatever is read of its pages
pub record IsSameFile (one other : FileThere) : Type 0 where
  pub tag_is : one.tag ≡ other.tag
  pub at_is : one.at ≡ other.at
  pub is_so : one.seen.is ≡ other.seen.is
  pub parent_is : one.parent ≡ other.parent

-- of the homes said of a directory's pages it has those of members; it is of a wrong size exactly
-- where all that is said is, and has a second page where two are said to have a home
pub record HasPagesAt (frame : Frame) (places : List SaidPlace) (said : List (Option SaidHome))
    (file : FileThere) : Type 0 where
  pub homes : (page : ℕ) (home : Home) → (home_in file.seen.homes.items page ≡ Some home)
      ↔ ((said_in said page ≡ Some home) × IsWithin frame home)
  pub size : IsTrue file.has_wrong_size ↔ (HasGap said file.seen.is.size ⊎ LosesPage places said)
  pub second : IsTrue file.has_second_page ↔ HasTwo said

-- a file was read under a tag, with these attributes, and the homes that its cells give
pub record IsReadAt (pages : Pages) (frame : Frame) (tag : Tag) (at : CellAt) (is : Attributes)
    (homes : List PlacedCell → ℕ → Option Home) (file : FileThere) : Type 0 where
  pub tag_is : file.tag ≡ tag
  pub read : (cells : List PlacedCell) → LinksFrom pages at cells
      → IsReadAs frame cells (record { is = is; homes = homes cells }) file

-- the homes of the pages that cells keep; and of those that they have themselves or through a source
abbrev pub kept_homes : ℕ → List PlacedCell → ℕ → Option Home
kept_homes keep cells page = home_at (places_before keep (places_of cells) page)

-- the homes at which a clone's own file is read, with its source
abbrev pub own_homes : Places → List PlacedCell → ℕ → Option Home
own_homes source cells page = read_home (frozen_of cells) (places_of cells) source page

-- a file was read with the homes that it has through the source at a place
pub record IsReadThrough (pages : Pages) (frame : Frame) (tag : Tag) (at : CellAt) (is : Attributes)
    (from : Option CellAt) (file : FileThere) : Type 0 where
  pub source : Places
  pub through : IsSource pages from source
  pub read : IsReadAt pages frame tag at is (own_homes source) file

-- ** By the tag

-- the chains to which tags lead have whole sources
abbrev pub HaveWholeSources : Pages → List TagPlace → Type 0
HaveWholeSources pages places =
    (tag : Tag) (at : CellAt) → cell_of pages places tag ≡ Some at → HasWholeSource pages at

-- an original with this tag directory has the file of these cells at a tag; or a clone of a number
-- through the original with that directory; or a clone with its own and its original's
abbrev pub IsInOriginal : Pages → List TagPlace → Tag → List PlacedCell → SeenFile → Type 0
IsInOriginal pages places tag cells seen =
    IsSomeAnd (cell_of pages places tag) (λ at. IsOfOriginal pages at cells seen)

-- what the original of a clone has at a tag, as the clone has it
abbrev pub IsBehind : Pages → List TagPlace → ℕ → Tag → List PlacedCell → SeenFile → Type 0
IsBehind pages behind number tag cells seen =
    IsSomeAnd (cell_of pages behind tag) (λ at. IsThrough pages number at cells seen)

-- what a clone has at a tag: a file of its own, or the original's
abbrev pub IsInClone : Pages → List TagPlace → List TagPlace → ℕ → Tag → List PlacedCell → SeenFile
    → Type 0
IsInClone pages own behind number tag cells seen =
    IsSomeAnd (cell_of pages own tag) (λ at. IsOfClone pages at cells seen)
    ⊎ ((cell_of pages own tag ≡ None) × IsBehind pages behind number tag cells seen)

-- ** By the slot

-- a table has an original in a slot; or a clone of a number, of the original in another slot
abbrev pub HasOriginalAt : Table → ℕ → Type 0
HasOriginalAt table number =
    (entry : FilesetEntry) × (slice_get table.slots number ≡ Some (slot.Original entry))

-- a table has a clone with this number in a slot, of the original in another
abbrev pub HasCloneAt : Table → ℕ → ℕ → ℕ → Type 0
HasCloneAt table number of clone =
    (entry : FilesetEntry) × (slice_get table.slots number ≡ Some (slot.Clone of clone entry))

-- ** What is read

-- a file was read of cells
pub record IsReadSo (frame : Frame) (is : List PlacedCell → SeenFile → Type 0) (file : FileThere)
    : Type 0 where
  pub cells : List PlacedCell
  pub seen : SeenFile
  pub so : is cells seen
  pub read : IsReadAs frame cells seen file

-- the file of cells that is there was read under its tag, and none where none is
pub record ReadsSo (frame : Frame) (tag : Tag) (is : List PlacedCell → SeenFile → Type 0)
    (found : Option FileThere) : Type 0 where
  pub each : IfSome found (λ file. (file.tag ≡ tag) × IsReadSo frame is file)
  pub all : (cells : List PlacedCell) (seen : SeenFile) → is cells seen
      → IsSomeAnd found (IsReadAs frame cells seen)

-- a list has the file of each tag that has one, each once
pub record AreAllSo (frame : Frame) (is : Tag → List PlacedCell → SeenFile → Type 0)
    (files : List FileThere) : Type 0 where
  pub each : (file : FileThere) → Contains files file → IsReadSo frame (is file.tag) file
  pub all : (tag : Tag) (cells : List PlacedCell) (seen : SeenFile) → is tag cells seen
      → WasRead frame files tag cells seen
  pub once : (i j : ℕ) (one other : FileThere) → slice_get files i ≡ Some one
      → slice_get files j ≡ Some other → one.tag ≡ other.tag → i ≡ j
