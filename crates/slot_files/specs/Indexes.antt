-- What is read of the indexes of a fileset's files.
use Rattle.std.specs.Prelude.{◌≡◌, ◌↔◌, ℕ, List, Option, Some, None, Contains, IfSome, IsSomeAnd, IsTrue}
use Rattle.std.specs.Option.{option_and_then}
use Rattle.index_row_faults.specs.domain_base.declared.place.Home.{Home}
use Rattle.index_row_faults.specs.domain_base.declared.place.Kind.TheVariants.{Directory}
use Rattle.index_row_faults.specs.page_store.Pages.{Pages}
use Rattle.index_row_faults.specs.cell_records.declared.record.Record.{Record}
use Rattle.index_row_faults.specs.cell_records.declared.record.Record.TheVariants as written
use Rattle.index_row_faults.specs.metadata_cells.Chain.{LinksFrom, PlacedCell}
use Rattle.index_row_faults.specs.fileset_files.Files.{first_record}
use Rattle.index_row_faults.specs.fileset_files.Shown.{index_in}
use Rattle.index_row_faults.specs.domain_layout.DirectoryRules.{total_in}
use Rattle.index_row_faults.specs.directory_faults.declared.there.FileThere.{FileThere}
use Rattle.index_row_faults.specs.declared.there.IndexThere.{IndexThere}
use Rattle.slot_files.specs.Files.{IsWhole}
use Rattle.slot_files.specs.declared.indexes.SaidIndex.{SaidIndex}

-- the first of the cells names an index that begins there, of so many entries
abbrev pub Names : List PlacedCell → Home → ℕ → Type 0
Names cells first total = (value : Record) × (first_record 9 cells ≡ Some value)
    × (index_in value ≡ Some first) × (total_in value ≡ total)

-- the index that a record names, and that the first of the cells does
abbrev pub said_by : Record → Option SaidIndex
said_by (written.DirIndex vol page entries) =
    Some (record { first = record { vol = vol; page = page }; total = entries })
said_by _ = None

-- the index that the first of some cells names
abbrev pub said_of : List PlacedCell → Option SaidIndex
said_of cells = option_and_then said_by (first_record 9 cells)

-- the file may have an index: it is a directory of more than one page
abbrev pub MayHaveIndex : FileThere → Type 0
MayHaveIndex file = (file.seen.is.kind ≡ Directory) × IsTrue file.has_second_page

-- an index of the file was read
pub record IsIndexOf (pages : Pages) (file : FileThere) (index : IndexThere) : Type 0 where
  pub tag_is : index.tag ≡ file.tag
  pub names : (cells : List PlacedCell) → LinksFrom pages file.at cells
      → Names cells index.first index.total
  pub may_be : IsTrue index.may_be ↔ MayHaveIndex file

-- the index of a file was read, and none where it names none
pub record ReadsIndex (pages : Pages) (file : FileThere) (found : Option IndexThere) : Type 0 where
  pub each : IfSome found (IsIndexOf pages file)
  pub all : (cells : List PlacedCell) (first : Home) (total : ℕ) → LinksFrom pages file.at cells
      → Names cells first total → IsSomeAnd found (λ index. (index.first ≡ first)
      × (index.total ≡ total))

-- the chains of files are whole
abbrev pub AreWhole : Pages → List FileThere → Type 0
AreWhole pages files = (file : FileThere) → Contains files file → IsWhole pages file.at

-- a list has the indexes of files, and no others
pub record AreIndexesOf (pages : Pages) (files : List FileThere) (indexes : List IndexThere)
    : Type 0 where
  pub each : (index : IndexThere) → Contains indexes index
      → (file : FileThere) × Contains files file × IsIndexOf pages file index
  pub all : (file : FileThere) (cells : List PlacedCell) (first : Home) (total : ℕ)
      → Contains files file → LinksFrom pages file.at cells → Names cells first total
      → (index : IndexThere) × Contains indexes index × IsIndexOf pages file index
      × (index.first ≡ first) × (index.total ≡ total)
