-- Which records a cell in use may have, by its kind.
use Rattle.std.specs.Prelude.{◌≡◌, ◌⊎◌, ◌&&◌, ◌||◌, ℕ, Bool, true, false, not, List, Contains, Option}
use Rattle.std.specs.Option.{option_map_or}
use Rattle.page_ways.specs.cell_records.Fields.{number_at}
use Rattle.page_ways.specs.cell_records.declared.record.Record.{Record}
use Rattle.page_ways.specs.domain_base.declared.place.CellAt.{CellAt}
use Rattle.page_ways.specs.domain_base.declared.place.Home.{Home}
use Rattle.page_ways.specs.page_store.Pages.{Pages}
use Rattle.page_ways.specs.metadata_cells.Cell.{Cell, record_of}
use Rattle.page_ways.specs.metadata_cells.declared.head.CellKind.{CellKind}
use Rattle.page_ways.specs.metadata_cells.declared.head.CellKind.TheVariants.{Chain, Primary, Quota, Volume}
use Rattle.page_ways.specs.metadata_cells.declared.used.UsedCell.{UsedCell}
use Rattle.page_ways.specs.fileset_table.Table.{Table}
use Rattle.page_ways.specs.fileset_table.declared.slot.SlotItem.{SlotItem}
use Rattle.page_ways.specs.metadata_cells.CellPage.{cell_of, home_of}
use Rattle.page_ways.specs.domain_layout.Reached.{Frame}
use Rattle.cell_faults.specs.Pages.{IsWrongHeader}
use Rattle.cell_faults.specs.declared.tables.CellsPage.{CellsPage}
use Rattle.page_ways.specs.domain_layout.CellRules.{HasWrongCell, HasWrongHeader, IsCellsPage, IsFirstPlace, IsNoCellsPage, IsWrongFirst, IsWrongLater, IsWrongVolumeCell, SaysVolume, are_limits, has_its_kinds, has_kind, is_chain_records, is_good_first, keeps_well, of_clone, of_original}

-- the cell that was read
abbrev pub cell_in : UsedCell → Cell
cell_in used = record { head = used.head; records = used.records }

-- the records of a first cell are those that what is in a slot has in one
abbrev pub fit_fileset : Option SlotItem → List Record → Bool
fit_fileset item records =
    (not (of_original item) || (has_its_kinds false records
    && option_map_or (λ r. keeps_well r (has_kind 6 records)) (record_of 1 records) false))
    && (not (of_clone item) || has_its_kinds true records)

-- the records are those that a cell of a kind may have; of the one that says a volume nothing is
-- said here
abbrev pub records_fit : Table → CellKind → Cell → Bool
records_fit table Primary cell = is_good_first table cell
records_fit table Chain cell = is_chain_records cell.records
records_fit table Quota cell = are_limits cell.records
records_fit table Volume cell = true

-- it has the kind of one that says a volume, and stands at no volume's first place
abbrev pub IsStrayVolume : Frame → List ℕ → CellAt → Type 0
IsStrayVolume frame page at =
    (number_at 1 15 (cell_of page at.cell) ≡ 4) × ¬ IsFirstPlace frame at

-- it is a volume's first cell and does not say the volume, or has other records than it may have
abbrev pub IsWrongUsed : Frame → Table → CellAt → Cell → Type 0
IsWrongUsed frame table at cell = (IsFirstPlace frame at × ¬ SaysVolume frame at.vol cell)
    ⊎ (records_fit table cell.head.kind cell ≡ false)

-- the cell at a place, by itself, is none that may stand there
abbrev pub IsWrongAt : Pages → Frame → Table → CellAt → Type 0
IsWrongAt pages frame table at = IsWrongVolumeCell pages frame at
    ⊎ IsWrongFirst pages frame table at ⊎ IsWrongLater pages frame at

-- and so some cell of a page
abbrev pub HasWrongPlace : Pages → Frame → Table → Home → Type 0
HasWrongPlace pages frame table home =
    (at : CellAt) × (home_of at ≡ home) × IsWrongAt pages frame table at

-- a page that is read has another header than its place wants, or a wrong cell
abbrev pub IsWrongThere : Pages → Frame → Table → CellsPage → Type 0
IsWrongThere pages frame table page =
    ((bytes : List ℕ) × IsCellsPage pages frame page.place page.home bytes
    × IsWrongHeader bytes page.place)
    ⊎ HasWrongCell pages frame page.home ⊎ HasWrongPlace pages frame table page.home

-- a page among these is wrong
abbrev pub IsWrongAmong : Pages → Frame → Table → List CellsPage → Home → Type 0
IsWrongAmong pages frame table read home = (page : CellsPage) × Contains read page
    × (page.home ≡ home) × IsWrongThere pages frame table page

-- a rule of one page of cells, or of one cell of it, is broken
abbrev pub IsLocalFault : Pages → Frame → Table → Home → Type 0
IsLocalFault pages frame table home = IsNoCellsPage pages frame home
    ⊎ HasWrongHeader pages frame home ⊎ HasWrongCell pages frame home
    ⊎ HasWrongPlace pages frame table home
