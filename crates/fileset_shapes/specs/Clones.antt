-- The files of a clone and of its original, as they are read.
use Rattle.std.specs.Prelude.{◌≡◌, ◌≤◌, ℕ, List, Option, Some, slice_get}
use Rattle.filesets_reading.specs.domain_base.declared.place.CellAt.{CellAt}
use Rattle.filesets_reading.specs.page_store.Pages.{Pages}
use Rattle.filesets_reading.specs.cell_records.declared.record.Record.{Record}
use Rattle.filesets_reading.specs.cell_records.declared.record.Record.TheVariants.{CloneFile}
use Rattle.filesets_reading.specs.metadata_cells.Chain.{IsBroken, PlacedCell}
use Rattle.filesets_reading.specs.file_chains.Files.{HasFile}
use Rattle.filesets_reading.specs.fileset_files.Files.{HasFiles, is_removed}
use Rattle.filesets_reading.specs.fileset_table.declared.slot.FilesetEntry.{FilesetEntry}
use Rattle.filesets_reading.specs.fileset_table.declared.slot.SlotItem.TheVariants as slot
use Rattle.filesets_reading.specs.domain_layout.Seen.{IsOfClone, IsOwnUnless, SeenFile}
use Rattle.filesets_reading.specs.Chains.{HasLinks, MayHaveFiles}
use Rattle.filesets_reading.specs.Seen.{IsSeenThere}
use Rattle.filesets_reading.specs.declared.seen.SeenPages.{SeenPages}
use Rattle.fileset_shapes.specs.declared.files.FilesetFiles.{FilesetFiles}

-- the volume of the cell through which a record says to read is one that there may be, or none
abbrev pub HasVolume : Record → Type 0
HasVolume (CloneFile vol cell page frozen) = vol ≤ 8
HasVolume _ = Unit {0}

-- no chain from the cell is broken, and one that is whole is a file's
pub record MayBeSource (pages : Pages) (at : CellAt) : Type 0 where
  pub whole : (broken : CellAt) → ¬ IsBroken pages at broken
  pub file : HasLinks pages at → HasFile pages at

-- the files of a fileset are there, by its tag directory
pub record AreFilesOf (pages : Pages) (files : FilesetFiles) : Type 0 where
  pub same : files.files.tags ≡ files.tags
  pub has : HasFiles files.files.fileset files.tags pages

-- the files of the clone with this number, and those of its original, by a table of filesets whose
-- pages break no rule of tables and extents
pub record AreOfClone (pages : Pages) (clone original : FilesetFiles) (number : ℕ) : Type 0 where
  pub own : AreFilesOf pages clone
  pub behind : AreFilesOf pages original
  pub may : MayHaveFiles pages clone.files.fileset clone.tags
  pub entry : FilesetEntry
  pub is : slice_get may.layout.table.slots clone.files.fileset
      ≡ Some (slot.Clone original.files.fileset number entry)

-- ** What is read

-- the file of a clone's own cells, or none if it is to be removed
abbrev pub ReadsOwn : Pages → List PlacedCell → Option SeenPages → Type 0
ReadsOwn pages cells found = (seen : Option SeenFile)
    × IsOwnUnless (is_removed cells) pages cells seen × IsSeenThere seen found

-- what a clone has at a tag, by its own cells if it has some there, and those of the original
abbrev pub ReadsOfClone : Pages → ℕ → Option (List PlacedCell) → Option (List PlacedCell)
    → Option SeenPages → Type 0
ReadsOfClone pages number own behind found = (seen : Option SeenFile)
    × IsOfClone pages number own behind seen × IsSeenThere seen found
