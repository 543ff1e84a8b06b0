-- Where a fileset stands whose shape is read.
use Rattle.std.specs.Prelude.{◌≡◌, ℕ, List, Option, Some, IsSomeAnd, length, slice_get}
use Rattle.filesets_reading.specs.page_store.Pages.{Pages}
use Rattle.filesets_reading.specs.fileset_table.Table.{Table}
use Rattle.filesets_reading.specs.fileset_table.declared.slot.FilesetEntry.{FilesetEntry}
use Rattle.filesets_reading.specs.fileset_table.declared.slot.SlotItem.{SlotItem}
use Rattle.filesets_reading.specs.fileset_table.Table.{entry_of}
use Rattle.filesets_reading.specs.domain_layout.Faults.{HasNoFault}
use Rattle.filesets_reading.specs.domain_layout.Reached.{Frame}
use Rattle.filesets_reading.specs.domain_layout.Shape.{AreShapesOf, Shapes}
use Rattle.filesets_reading.specs.Tables.{AreTablesOf}
use Rattle.filesets_reading.specs.declared.tables.DomainTables.{DomainTables}
use Rattle.fileset_shapes.specs.declared.files.FilesetFiles.{FilesetFiles}
use Rattle.fileset_shapes.specs.Files.{AreFilesBy}
use Rattle.fileset_shapes.specs.Found.{HasAllPages, SeesShape, SeesSlot}
use Rattle.fileset_shapes.specs.declared.found.FilesetSeen.{FilesetSeen}

-- the tables of a domain in which no rule is broken, and of whose files each page is there
pub record IsDomain (pages : Pages) (frame : Frame) (tables : DomainTables) : Type 0 where
  pub tables_are : AreTablesOf pages frame tables
  pub no_fault : HasNoFault pages frame
  pub all : HasAllPages pages frame

-- a slot of a table has this fileset
pub record HasEntryAt (table : Table) (number : ℕ) (entry : FilesetEntry) : Type 0 where
  pub item : SlotItem
  pub there : slice_get table.slots number ≡ Some item
  pub is : entry_of item ≡ Some entry

-- the files of the fileset in a slot
pub record AreFilesAt (pages : Pages) (number : ℕ) (entry : FilesetEntry) (files : FilesetFiles)
    : Type 0 where
  pub number_is : files.files.fileset ≡ number
  pub by : AreFilesBy pages entry files

-- a list has what was read of each slot of a table
pub record SeesSlots (pages : Pages) (table : Table) (found : List (Option FilesetSeen)) : Type 0
  where
    pub count : length found ≡ 32
    pub each : (number : ℕ) (seen : Option FilesetSeen) → slice_get found number ≡ Some seen
        → SeesSlot pages table number seen

-- shapes of all filesets of a table, each as what was read of its slot says
pub record AreShapesSeen (pages : Pages) (table : Table) (found : List (Option FilesetSeen))
    (shapes : Shapes) : Type 0 where
  pub are : AreShapesOf pages table shapes
  pub sees : (number : ℕ) (item : SlotItem) (entry : FilesetEntry) (seen : FilesetSeen)
      → slice_get table.slots number ≡ Some item → entry_of item ≡ Some entry
      → slice_get found number ≡ Some (Some seen)
      → IsSomeAnd (shapes entry.name) (λ shape. SeesShape pages entry shape seen)
