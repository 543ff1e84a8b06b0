-- The limits of a fileset's owners, as they are read.
use Rattle.std.specs.Prelude.{◌≡◌, ℕ, List, Some, slice_get}
use Rattle.std.specs.FinMap.{empty}
use Rattle.filesets_reading.specs.page_store.Pages.{Pages}
use Rattle.filesets_reading.specs.cell_records.declared.record.Record.{Record}
use Rattle.filesets_reading.specs.fileset_model.Fileset.{Fileset}
use Rattle.filesets_reading.specs.fileset_model.Usage.{limits_of}
use Rattle.filesets_reading.specs.fileset_values.declared.command.Owner.{Owner}
use Rattle.filesets_reading.specs.fileset_table.Table.{entry_of}
use Rattle.filesets_reading.specs.fileset_table.declared.slot.FilesetEntry.{FilesetEntry}
use Rattle.filesets_reading.specs.fileset_table.declared.slot.SlotItem.{SlotItem}
use Rattle.filesets_reading.specs.quota_book.Book.{Book, HasBindingLimits}
use Rattle.filesets_reading.specs.quota_book.QuotaCells.{Said, limits_at}
use Rattle.filesets_reading.specs.domain_layout.Faults.{HasNoTablesFault}
use Rattle.filesets_reading.specs.domain_layout.Layout.{IsLayout, Layout}
use Rattle.filesets_reading.specs.domain_layout.Owners.{frame_of}
use Rattle.filesets_reading.specs.domain_layout.Shape.{limits_in}

-- a slot of a domain's table, whose pages break no rule of tables, has this fileset
pub record IsInSlot (pages : Pages) (entry : FilesetEntry) : Type 0 where
  pub layout : Layout
  pub laid : IsLayout pages layout
  pub no_fault : HasNoTablesFault pages (frame_of layout)
  pub number : ℕ
  pub item : SlotItem
  pub there : slice_get layout.table.slots number ≡ Some item
  pub is : entry_of item ≡ Some entry

-- the limits of a fileset, and no totals
abbrev pub book_of : Fileset → Book
book_of tree = record { totals = empty; limits = tree.limits }

-- the same paths, files and directories
pub record KeepsFiles (old new : Fileset) : Type 0 where
  pub paths : new.paths ≡ old.paths
  pub nodes : new.nodes ≡ old.nodes

-- each owner has the limits that are said, and none has an entry for limits that bind nothing
pub record HasSaid (said : Said) (tree : Fileset) : Type 0 where
  pub limits : (who : Owner) → limits_of tree who ≡ limits_at said who
  pub binding : HasBindingLimits (book_of tree)

-- each owner has the limits that a fileset's slot and its quota cells say
pub record HasLimitsOf (entry : FilesetEntry) (records : List Record) (tree : Fileset) : Type 0
  where
    pub limits : (who : Owner) → limits_of tree who ≡ limits_in entry records who
    pub binding : HasBindingLimits (book_of tree)
