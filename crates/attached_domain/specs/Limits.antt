-- A book with the limits that a fileset's slot and its quota cells say, and no totals.
use Rattle.std.specs.Prelude.{◌≡◌, List}
use Rattle.std.specs.FinMap.{empty}
use Rattle.no_faults.specs.cell_records.declared.record.Record.{Record}
use Rattle.no_faults.specs.fileset_values.declared.command.Owner.{Owner}
use Rattle.no_faults.specs.fileset_table.declared.slot.FilesetEntry.{FilesetEntry}
use Rattle.no_faults.specs.quota_book.Book.{Book, HasBindingLimits, limits_in}
use Rattle.no_faults.specs.domain_layout.Shape.{limits_in as limits_said}

-- a book with the limits that the slot and the quota cells of a fileset say, and no totals
pub record HasLimitsAlone (entry : FilesetEntry) (records : List Record) (book : Book) : Type 0
  where
    pub unused : book.totals ≡ empty
    pub limits : (who : Owner) → limits_in book who ≡ limits_said entry records who
    pub binding : HasBindingLimits book
