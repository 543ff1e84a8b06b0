-- What first cells say to which tags lead.
use Rattle.std.specs.Prelude.{◌≡◌, ◌==◌, ◌&&◌, ◌<◌, ℕ, Bool, true, false, not, List, Some, slice_get}
use Rattle.std.specs.Option.{option_map_or}
use Rattle.no_faults.specs.domain_base.Limits.{file_pages}
use Rattle.no_faults.specs.domain_base.declared.place.CellAt.{CellAt}
use Rattle.no_faults.specs.domain_base.declared.place.Tag.{Tag}
use Rattle.no_faults.specs.page_store.Pages.{Pages}
use Rattle.no_faults.specs.cell_records.declared.record.Record.{Record}
use Rattle.no_faults.specs.cell_records.declared.record.Record.TheVariants as written
use Rattle.no_faults.specs.metadata_cells.Cell.{Cell, record_of}
use Rattle.no_faults.specs.metadata_cells.Chain.{StandsAt}
use Rattle.no_faults.specs.tag_dirs.Directory.{cell_of}
use Rattle.no_faults.specs.tag_dirs.declared.dir.TagPlace.{TagPlace}
use Rattle.no_faults.specs.fileset_table.Table.{is_original}
use Rattle.no_faults.specs.fileset_table.declared.slot.SlotItem.{SlotItem}
use Rattle.no_faults.specs.domain_layout.CellRules.{say_removed}
use Rattle.no_faults.specs.filesets_reading.declared.tables.DomainTables.{DomainTables}
use Rattle.attached_domain.specs.declared.signs.Sign.{Sign}
use Rattle.attached_domain.specs.declared.signs.Sign.TheVariants.{Cut, Removed}

-- a record of attributes says a directory that keeps fewer pages than a file can have
abbrev pub says_cut : Record → Bool
says_cut (written.Attributes kind uid gid flags size keep links birth unsynced) =
    (kind == 2) && not (keep == file_pages)
says_cut _ = false

-- the records of a first cell say that a directory keeps fewer pages than a file can have
abbrev pub say_cut : List Record → Bool
say_cut records = option_map_or says_cut (record_of 1 records) false

-- records say what is looked for
abbrev pub say : Sign → List Record → Bool
say Removed records = say_removed records
say Cut records = say_cut records

-- it is looked for in what is in a slot: a file that is to be removed in each, and a directory that
-- is to be cut in an original, since of what is being removed no set of files is made
abbrev pub asks : Sign → SlotItem → Bool
asks Removed item = true
asks Cut item = is_original item

-- a cell in use stands there, and has that sign
pub record SaysAt (pages : Pages) (sign : Sign) (at : CellAt) : Type 0 where
  pub cell : Cell
  pub stands : StandsAt pages at cell
  pub says : say sign cell.records ≡ true

-- a tag leads to such a cell
pub record LeadsSo (pages : Pages) (sign : Sign) (places : List TagPlace) (tag : Tag) : Type 0 where
  pub at : CellAt
  pub leads : cell_of pages places tag ≡ Some at
  pub says : SaysAt pages sign at

-- some tag of a directory does
abbrev pub TagSays : Pages → Sign → List TagPlace → Type 0
TagSays pages sign places = (tag : Tag) × LeadsSo pages sign places tag

-- some tag of the directory of what is in a slot does, and it is looked for there
abbrev pub ItemSays : Pages → Sign → SlotItem → List TagPlace → Type 0
ItemSays pages sign item places = (asks sign item ≡ true) × TagSays pages sign places

-- what is in the slot with this number says the sign
pub record IsSaidIn (pages : Pages) (sign : Sign) (tables : DomainTables) (number : ℕ)
    : Type 0 where
  pub item : SlotItem
  pub is : slice_get tables.filesets.slots number ≡ Some item
  pub places : List TagPlace
  pub there : slice_get tables.tags.items number ≡ Some places
  pub says : ItemSays pages sign item places

-- in one of the 32 slots a first cell, to which a tag leads, says what is looked for there
abbrev pub SlotSays : Pages → Sign → DomainTables → Type 0
SlotSays pages sign tables =
    (number : ℕ) × (number < 32) × IsSaidIn pages sign tables number
