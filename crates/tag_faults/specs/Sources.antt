-- Cells through which files of clones are read.
use Rattle.std.specs.Prelude.{◌≡◌, ℕ, false, Some}
use Rattle.std.specs.Option.{option_and_then}
use Rattle.cell_faults.specs.domain_base.declared.place.CellAt.{CellAt}
use Rattle.cell_faults.specs.domain_base.declared.place.Home.{Home}
use Rattle.cell_faults.specs.domain_base.declared.place.Tag.{Tag}
use Rattle.cell_faults.specs.page_store.Pages.{Pages}
use Rattle.cell_faults.specs.metadata_cells.Cell.{Cell, record_of}
use Rattle.cell_faults.specs.metadata_cells.CellPage.{home_of}
use Rattle.cell_faults.specs.metadata_cells.Chain.{StandsAt}
use Rattle.cell_faults.specs.metadata_cells.declared.head.CellHead.{CellHead}
use Rattle.cell_faults.specs.metadata_cells.declared.head.CellKind.TheVariants.{Primary}
use Rattle.cell_faults.specs.fileset_table.Table.{Table}
use Rattle.cell_faults.specs.domain_layout.CellRules.{item_of, say_removed}
use Rattle.cell_faults.specs.domain_layout.Reached.{Frame}
use Rattle.cell_faults.specs.domain_layout.Seen.{source_in}
use Rattle.cell_faults.specs.domain_layout.TagRules.{HasWrongSource, IsFirstOf, original_slot}

-- the tag that a head says
abbrev pub tag_in : CellHead → Tag
tag_in head = record { slot = head.slot; seq = head.seq }

-- a cell is read through another one, which is no first cell of the original's file of its tag
pub record HasSourceAstray (pages : Pages) (frame : Frame) (table : Table) (cell : Cell) : Type 0
  where
    pub of : ℕ
    pub clone : original_slot (item_of table cell.head) ≡ Some of
    pub source : CellAt
    pub through : option_and_then source_in (record_of 2 cell.records) ≡ Some source
    pub wrong : ¬ IsFirstOf pages frame of (tag_in cell.head) source

-- so is a first cell that stays and stands at a place
abbrev pub ReadsAstray : Pages → Frame → Table → CellAt → Type 0
ReadsAstray pages frame table at = (cell : Cell) × StandsAt pages at cell
    × (cell.head.kind ≡ Primary) × (say_removed cell.records ≡ false)
    × HasSourceAstray pages frame table cell

-- some cell of a page breaks the rule
abbrev pub HasAstray : Pages → Frame → Table → Home → Type 0
HasAstray pages frame table home =
    (at : CellAt) × (home_of at ≡ home) × HasWrongSource pages frame table at
