-- Pages at which the rules of tables look are there.
use Rattle.std.specs.Prelude.{◌≡◌, Some, IsSome}
use Rattle.slot_files.specs.domain_base.declared.place.Home.{Home}
use Rattle.slot_files.specs.page_store.Pages.{Pages}
use Rattle.slot_files.specs.fileset_table.Table.{Table}
use Rattle.slot_files.specs.domain_layout.Faults.{IsTableFault}
use Rattle.slot_files.specs.domain_layout.Reached.{Frame, IsWithin}
use Rattle.slot_files.specs.domain_layout.Looks.{IsOfBitmap, IsOfTables}
use Rattle.image_loading.specs.Loading.{HasBitmaps, HasCells, HasTagPages}
use Rattle.slot_files.specs.cell_faults.declared.reading.TableRead.{TableRead}
use Rattle.slot_files.specs.cell_faults.declared.reading.TableRead.TheVariants.{There}

-- the page of the fileset table, if it is one of a member; and if it breaks no rule, each page of
-- cells and of tag directories at which rules look, and of bitmaps as far as they are a member's
pub record HasTables (pages : Pages) (frame : Frame) : Type 0 where
  pub table : (home : Home) → frame.anchor.table ≡ Some home → IsWithin frame home
      → IsSome (pages home)
  pub tables : ((home : Home) → ¬ IsTableFault pages frame home) → (home : Home)
      → IsOfTables pages frame home → IsSome (pages home)
  pub bitmaps : ((home : Home) → ¬ IsTableFault pages frame home) → (home : Home)
      → IsOfBitmap frame home → IsWithin frame home → IsSome (pages home)

-- the pages of bitmaps and cells, and of the tag directories of the table that was read
pub record HasNamed (pages : Pages) (frame : Frame) (read : TableRead) : Type 0 where
  pub bitmaps : HasBitmaps pages frame
  pub cells : HasCells pages frame
  pub tags : (table : Table) → read ≡ There table → HasTagPages pages frame table
