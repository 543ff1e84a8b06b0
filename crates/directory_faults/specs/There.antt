-- Files and directories that were read of a fileset.
use Rattle.std.specs.Prelude.{◌≡◌, ◌↔◌, ℕ, List, [], ◌∷◌, Some, IsTrue, Contains, slice_get}
use Rattle.fileset_shapes.specs.domain_base.declared.place.CellAt.{CellAt}
use Rattle.fileset_shapes.specs.domain_base.declared.place.Home.{Home}
use Rattle.fileset_shapes.specs.domain_base.declared.place.Kind.TheVariants.{Directory}
use Rattle.fileset_shapes.specs.domain_base.declared.place.Tag.{Tag}
use Rattle.fileset_shapes.specs.page_store.Pages.{Pages}
use Rattle.fileset_shapes.specs.metadata_cells.Chain.{PlacedCell}
use Rattle.fileset_shapes.specs.fileset_files.State.{parent_of}
use Rattle.fileset_shapes.specs.fileset_table.Table.{Table}
use Rattle.fileset_shapes.specs.domain_layout.DirectoryRules.{Has, HasSecondPage, HasWrongSize}
use Rattle.fileset_shapes.specs.domain_layout.Reached.{Frame, IsWithin}
use Rattle.fileset_shapes.specs.domain_layout.Seen.{SeenFile}
use Rattle.fileset_shapes.specs.filesets_reading.Seen.{home_in}
use Rattle.directory_faults.specs.declared.there.FileThere.{FileThere}

-- the first of the cells stands there
abbrev pub BeginAt : List PlacedCell → CellAt → Type 0
BeginAt [] at = ⊥
BeginAt (first ∷ rest) at = first.at ≡ at

-- a file of these cells is what was read; of a directory's pages the list has those of members
pub record IsReadAs (frame : Frame) (cells : List PlacedCell) (seen : SeenFile) (file : FileThere)
    : Type 0 where
  pub begins : BeginAt cells file.at
  pub is : file.seen.is ≡ seen.is
  pub homes : seen.is.kind ≡ Directory → (page : ℕ) (home : Home)
      → (home_in file.seen.homes.items page ≡ Some home)
      ↔ ((seen.homes page ≡ Some home) × IsWithin frame home)
  pub parent : file.parent ≡ parent_of cells
  pub size : seen.is.kind ≡ Directory → IsTrue file.has_wrong_size ↔ HasWrongSize cells seen
  pub second : seen.is.kind ≡ Directory → IsTrue file.has_second_page ↔ HasSecondPage seen

-- a fileset has what was read at its tag
pub record IsReadFile (pages : Pages) (frame : Frame) (table : Table) (number : ℕ)
    (file : FileThere) : Type 0 where
  pub cells : List PlacedCell
  pub seen : SeenFile
  pub has : Has pages table number file.tag cells seen
  pub read : IsReadAs frame cells seen file

-- what a fileset has at a tag was read
pub record WasRead (frame : Frame) (files : List FileThere) (tag : Tag) (cells : List PlacedCell)
    (seen : SeenFile) : Type 0 where
  pub file : FileThere
  pub among : Contains files file
  pub tag_is : file.tag ≡ tag
  pub read : IsReadAs frame cells seen file

-- a list has each file and directory of the fileset in a slot, each once
pub record AreFilesIn (pages : Pages) (frame : Frame) (table : Table) (number : ℕ)
    (files : List FileThere) : Type 0 where
  pub each : (file : FileThere) → Contains files file → IsReadFile pages frame table number file
  pub all : (tag : Tag) (cells : List PlacedCell) (seen : SeenFile)
      → Has pages table number tag cells seen → WasRead frame files tag cells seen
  pub once : (i j : ℕ) (one other : FileThere) → slice_get files i ≡ Some one
      → slice_get files j ≡ Some other → one.tag ≡ other.tag → i ≡ j
