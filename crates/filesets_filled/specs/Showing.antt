-- What a fileset has at each tag, and the set of files that shows it.
use Rattle.std.specs.Prelude.{◌≡◌, ◌⊎◌, ◌^◌, ◌<◌, ◌≤◌, ℕ, List, [], Option, Some, None, IsSome, IsSomeAnd, map, Contains, slice_get}
use Rattle.fileset_shapes.specs.domain_base.Limits.{max_links}
use Rattle.fileset_shapes.specs.domain_base.declared.place.CellAt.{CellAt}
use Rattle.fileset_shapes.specs.domain_base.declared.place.Home.{Home}
use Rattle.fileset_shapes.specs.domain_base.declared.place.Kind.TheVariants.{Directory}
use Rattle.fileset_shapes.specs.domain_base.declared.place.Tag.{Tag}
use Rattle.fileset_shapes.specs.page_store.Bitfiles.{Bitfile, Bitfiles, IsDirectory, shown_index}
use Rattle.fileset_shapes.specs.page_store.Pages.{Pages}
use Rattle.fileset_shapes.specs.cell_records.declared.record.Record.{Record}
use Rattle.fileset_shapes.specs.metadata_cells.Chain.{PlacedCell}
use Rattle.fileset_shapes.specs.fileset_files.Files.{first_record}
use Rattle.fileset_shapes.specs.fileset_files.Shown.{IsWhat, index_in}
use Rattle.fileset_shapes.specs.directory_pages.Index.{index_pages}
use Rattle.fileset_shapes.specs.directory_rows.Directory.{IndexesRows, row_pages}
use Rattle.fileset_shapes.specs.fileset_table.Table.{Table}
use Rattle.fileset_shapes.specs.domain_layout.DirectoryRules.{AreReadPages, Has, HasIndexAt, IsFirstHome}
use Rattle.fileset_shapes.specs.domain_layout.Reached.{Frame, IsWithin}
use Rattle.fileset_shapes.specs.domain_layout.Seen.{SeenFile}
use Rattle.fileset_shapes.specs.domain_layout.Shape.{IsSameSeen, shown_at}

-- a file as a set shows it: the pages of a directory are those at its homes
pub record IsShownOf (pages : Pages) (seen : SeenFile) (file : Bitfile) : Type 0 where
  pub what : IsWhat file seen.is
  pub each : (page : ℕ) → slice_get file.pages page ≡ shown_at pages seen seen.is.kind page

-- the files of what is in a slot, and the set that shows them
pub record ShowsFileset (pages : Pages) (frame : Frame) (table : Table) (number : ℕ)
    (files : Tag → Option SeenFile) (shown : Bitfiles) : Type 0 where
  pub has : (tag : Tag) (seen : SeenFile) → files tag ≡ Some seen
      → (cells : List PlacedCell) × Has pages table number tag cells seen
  pub only : (tag : Tag) (cells : List PlacedCell) (seen : SeenFile)
      → Has pages table number tag cells seen
      → IsSomeAnd (files tag) (λ also. IsSameSeen also seen)
  pub absent : (tag : Tag) → files tag ≡ None → shown tag ≡ None
  pub there : (tag : Tag) (seen : SeenFile) → files tag ≡ Some seen
      → IsSomeAnd (shown tag) (IsShownOf pages seen)
  pub within : (tag : Tag) (seen : SeenFile) (page : ℕ) (home : Home) → files tag ≡ Some seen
      → seen.homes page ≡ Some home → IsWithin frame home
  pub first : (tag : Tag) (cells : List PlacedCell) (seen : SeenFile)
      → Has pages table number tag cells seen → (home : Home) × IsFirstHome cells home
  pub seq : (tag : Tag) (seen : SeenFile) → files tag ≡ Some seen → tag.seq < 2 ^ 16
  pub links : (tag : Tag) (seen : SeenFile) → files tag ≡ Some seen
      → (1 ≤ seen.is.links) × (seen.is.links ≤ max_links)

-- each directory of a set is in a list, once
pub record ListsDirectories (files : Bitfiles) (dirs : List Tag) : Type 0 where
  pub each : (dir : Tag) → IsDirectory files dir → Contains dirs dir
  pub once : (j k : ℕ) (dir : Tag) → slice_get dirs j ≡ Some dir → slice_get dirs k ≡ Some dir
      → j ≡ k

-- a page stands at each home of a domain's members where a fileset has a page of a file
abbrev pub HasEachPage : Pages → Frame → Table → Type 0
HasEachPage pages frame table = (number : ℕ) (tag : Tag) (cells : List PlacedCell)
    (seen : SeenFile) → Has pages table number tag cells seen → (page : ℕ) (home : Home)
    → seen.homes page ≡ Some home → IsWithin frame home → IsSome (pages home)

-- the index of a directory, as a set shows it: the pages that are read from where a cell in use
-- says
pub record ShowsIndex (pages : Pages) (frame : Frame) (table : Table) (number : ℕ) (dir : Tag)
    (index : List (List ℕ)) : Type 0 where
  pub cells : List PlacedCell
  pub seen : SeenFile
  pub has : Has pages table number dir cells seen
  pub kind : seen.is.kind ≡ Directory
  pub value : Record
  pub there : first_record 9 cells ≡ Some value
  pub first : Home
  pub begins : index_in value ≡ Some first
  pub named : ¬ ¬ ((at : CellAt) × HasIndexAt pages frame at first)
  pub stored : List (List ℕ)
  pub read : AreReadPages pages frame first stored
  pub shown_so : index ≡ map shown_index stored

-- no directory has an index, or one that is not that of its rows
abbrev pub HaveTheirIndexes : Bitfiles → Type 0
HaveTheirIndexes files = (dir : Tag) → IsDirectory files dir → (index_pages files dir ≡ [])
    ⊎ IndexesRows (row_pages files dir) (index_pages files dir)
