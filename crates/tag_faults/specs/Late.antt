-- Files that originals name, with numbers of clones that were not made.
use Rattle.std.specs.Prelude.{◌≡◌, true, Some, slice_get}
use Rattle.cell_faults.specs.domain_base.declared.place.CellAt.{CellAt}
use Rattle.cell_faults.specs.domain_base.declared.place.Home.{Home}
use Rattle.cell_faults.specs.page_store.Pages.{Pages}
use Rattle.cell_faults.specs.cell_records.declared.record.Record.{Record}
use Rattle.cell_faults.specs.metadata_cells.Cell.{Cell, record_of}
use Rattle.cell_faults.specs.metadata_cells.CellPage.{home_of}
use Rattle.cell_faults.specs.fileset_table.Table.{Table}
use Rattle.cell_faults.specs.domain_layout.CellRules.{IsUsed, of_original}
use Rattle.cell_faults.specs.domain_layout.Reached.{Frame}
use Rattle.cell_faults.specs.domain_layout.TagRules.{IsFirstOf, IsLate, IsLateFile}
use Rattle.tag_faults.specs.Entries.{address_of, tag_of}
use Rattle.tag_faults.specs.declared.named.NamedCell.{NamedCell}

-- a cell in use at a place has a number of a clone that was not made
abbrev pub HasLateNumber : Pages → Frame → Table → CellAt → Type 0
HasLateNumber pages frame table at = (cell : Cell) × IsUsed pages frame at cell
    × ((value : Record) × (record_of 1 cell.records ≡ Some value) × IsLate table.made value)

-- an entry of an original leads to such a cell, which is a first one of its fileset and tag, and on the
-- page that stands at a home
abbrev pub LeadsToLate : Pages → Frame → Table → Home → NamedCell → Type 0
LeadsToLate pages frame table home entry = (home_of (address_of entry) ≡ home)
    × (of_original (slice_get table.slots entry.number) ≡ true)
    × IsFirstOf pages frame entry.number (tag_of entry) (address_of entry)
    × HasLateNumber pages frame table (address_of entry)

-- some cell of a page breaks the rule
abbrev pub HasLate : Pages → Frame → Table → Home → Type 0
HasLate pages frame table home =
    (at : CellAt) × (home_of at ≡ home) × IsLateFile pages frame table at
