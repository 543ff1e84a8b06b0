-- First cells that no entry names.
use Rattle.std.specs.Prelude.{◌≡◌, ℕ, false}
use Rattle.cell_faults.specs.domain_base.declared.place.CellAt.{CellAt}
use Rattle.cell_faults.specs.domain_base.declared.place.Home.{Home}
use Rattle.cell_faults.specs.domain_base.declared.place.Tag.{Tag}
use Rattle.cell_faults.specs.page_store.Pages.{Pages}
use Rattle.cell_faults.specs.metadata_cells.Cell.{Cell}
use Rattle.cell_faults.specs.metadata_cells.CellPage.{home_of}
use Rattle.cell_faults.specs.metadata_cells.Chain.{StandsAt}
use Rattle.cell_faults.specs.metadata_cells.declared.head.CellKind.TheVariants.{Primary}
use Rattle.cell_faults.specs.fileset_table.Table.{Table}
use Rattle.cell_faults.specs.domain_layout.CellRules.{say_removed}
use Rattle.cell_faults.specs.domain_layout.Reached.{Frame}
use Rattle.cell_faults.specs.domain_layout.TagRules.{HasEntry, IsFirstOf, IsUnnamed}
use Rattle.cell_faults.specs.cell_chains.Members.{IsIn}
use Rattle.cell_faults.specs.cell_chains.declared.links.CellLink.{CellLink}
use Rattle.cell_faults.specs.cell_chains.declared.set.CellSet.{CellSet}
use Rattle.tag_faults.specs.Entries.{address_of, tag_of}
use Rattle.tag_faults.specs.declared.named.NamedCell.{NamedCell}

-- an entry leads to a cell, which is a first one of its fileset and tag
abbrev pub LeadsToFirst : Pages → Frame → CellAt → NamedCell → Type 0
LeadsToFirst pages frame at entry = (address_of entry ≡ at)
    × IsFirstOf pages frame entry.number (tag_of entry) (address_of entry)

-- some entry does
abbrev pub IsNamed : Pages → Frame → Table → CellAt → Type 0
IsNamed pages frame table at = (number : ℕ) × (tag : Tag) × (home : Home)
    × HasEntry pages frame table number tag at home × IsFirstOf pages frame number tag at

-- no cell at a place says that all of its file is to be removed
abbrev pub Stays : Pages → CellAt → Type 0
Stays pages at = (cell : Cell) → StandsAt pages at cell → say_removed cell.records ≡ false

-- a first cell on a page stays, and is not among some
abbrev pub IsFirstAlone : Pages → CellSet → Home → CellAt → CellLink → Type 0
IsFirstAlone pages named home at link =
    (home_of at ≡ home) × (link.kind ≡ Primary) × (¬ IsIn named at) × Stays pages at

-- some cell of a page breaks the rule
abbrev pub HasUnnamed : Pages → Frame → Table → Home → Type 0
HasUnnamed pages frame table home =
    (at : CellAt) × (home_of at ≡ home) × IsUnnamed pages frame table at
