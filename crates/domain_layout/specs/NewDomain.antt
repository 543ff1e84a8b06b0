-- A domain that was just made: one volume, with the log, one page of cells, and a table without a
-- fileset.
use Rattle.std.specs.Prelude.{◌≡◌, ◌⊎◌, ◌+◌, ◌*◌, ◌<◌, ◌≤◌, ◌↔◌, ℕ, List, true, Some, IsSomeAnd}
use Rattle.file_release.specs.domain_base.Version.{bitmap_pages}
use Rattle.file_release.specs.domain_base.declared.place.Home.{Home}
use Rattle.file_release.specs.page_store.Pages.{Pages}
use Rattle.file_release.specs.free_space.Bits.{is_set}
use Rattle.log_recovery.specs.disk_label.FirstPages.{first_pages}
use Rattle.log_recovery.specs.disk_label.declared.first_pages.FirstPages.{FirstPages}
use Rattle.log_recovery.specs.log_ring.Homes.{IsMember, member_of}
use Rattle.file_release.specs.metadata_cells.Cell.{Cell, IsCell, IsFreeCell}
use Rattle.file_release.specs.metadata_cells.CellPage.{IsCellPage, cell_of, index_of, next_of}
use Rattle.fileset_table.specs.Page.{IsTablePage}
use Rattle.fileset_table.specs.Table.{IsNewTable, Table}
use Rattle.domain_layout.specs.CellRules.{SaysVolume}
use Rattle.domain_layout.specs.Reached.{Frame}

-- the pages of volume 1, and which of them are for what
abbrev pub size_of : Frame → ℕ
size_of frame = (member_of frame.anchor 1).pages

abbrev pub firsts : Frame → FirstPages
firsts frame = first_pages frame.version (size_of frame)

abbrev pub on_first : ℕ → Home
on_first page = record { vol = 1; page = page }

-- volume 1 is the one member, and has the log and the table at their first places
pub record IsNewAnchor (frame : Frame) : Type 0 where
  pub member : IsMember frame.anchor 1
  pub alone : (vol : ℕ) → IsMember frame.anchor vol → vol ≡ 1
  pub log_volume : frame.anchor.log_vol ≡ 1
  pub log : frame.anchor.log_page ≡ (firsts frame).log
  pub table : frame.anchor.table ≡ Some (on_first (firsts frame).table)
  pub room : (firsts frame).table < size_of frame

-- a first page of cells on which one cell says the volume, and all others are free
pub record IsNewCells (frame : Frame) (page : List ℕ) : Type 0 where
  pub good : IsCellPage page
  pub indexed : index_of page ≡ 0
  pub last : next_of page ≡ 0
  pub cell : Cell
  pub first : IsCell (cell_of page 0) cell
  pub says : SaysVolume frame 1 cell
  pub free : (number : ℕ) → 0 < number → number < 28 → IsFreeCell (cell_of page number)

-- a page of the bitmap: the pages up to the table are used, and no others
pub record IsNewBitmap (frame : Frame) (number : ℕ) (bytes : List ℕ) : Type 0 where
  pub bits : (bit : ℕ) → bit < 65536
      → ((is_set bytes bit ≡ true)
      ↔ ((65536 * number + bit ≤ (firsts frame).table)
      ⊎ (size_of frame ≤ 65536 * number + bit)))

-- a page says a table without a fileset
pub record IsNewTablePage (page : List ℕ) : Type 0 where
  pub table : Table
  pub says : IsTablePage page table
  pub fresh : IsNewTable table

-- the pages of such a domain; of all others, as those of the log, nothing is asked
pub record IsNew (pages : Pages) (frame : Frame) : Type 0 where
  pub anchor : IsNewAnchor frame
  pub cells : IsSomeAnd (pages (on_first (firsts frame).cells)) (IsNewCells frame)
  pub bitmap : (number : ℕ) → number < bitmap_pages frame.version (size_of frame)
      → IsSomeAnd (pages (on_first ((firsts frame).bitmap + number))) (IsNewBitmap frame number)
  pub table : IsSomeAnd (pages (on_first (firsts frame).table)) IsNewTablePage
