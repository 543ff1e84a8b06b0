-- Originals without a root.
use Rattle.std.specs.Prelude.{◌≡◌, ℕ, true, List, Some, Contains, slice_get}
use Rattle.cell_faults.specs.domain_base.declared.place.CellAt.{CellAt}
use Rattle.cell_faults.specs.domain_base.declared.place.Home.{Home}
use Rattle.cell_faults.specs.page_store.Pages.{Pages}
use Rattle.cell_faults.specs.metadata_cells.Cell.{Cell}
use Rattle.cell_faults.specs.fileset_table.Table.{Table}
use Rattle.cell_faults.specs.fileset_table.declared.slot.SlotItem.{SlotItem}
use Rattle.cell_faults.specs.name_space.Names.{root_tag}
use Rattle.cell_faults.specs.domain_layout.CellRules.{IsUsed, of_original, say_removed}
use Rattle.cell_faults.specs.domain_layout.Layout.{first_tag_of}
use Rattle.cell_faults.specs.domain_layout.Reached.{Frame}
use Rattle.tag_faults.specs.Entries.{address_of, tag_of}
use Rattle.tag_faults.specs.declared.named.NamedCell.{NamedCell}

-- a cell in use at a place says that all of its file is to be removed
abbrev pub IsRemovedAt : Pages → Frame → CellAt → Type 0
IsRemovedAt pages frame at =
    (cell : Cell) × IsUsed pages frame at cell × (say_removed cell.records ≡ true)

-- an entry is that of the root in a slot
abbrev pub IsRootOf : ℕ → NamedCell → Type 0
IsRootOf number entry = (entry.number ≡ number) × (tag_of entry ≡ root_tag)

-- those among the entries lead to cells of files that are to be removed
abbrev pub AreRootsRemoved : Pages → Frame → List NamedCell → ℕ → Type 0
AreRootsRemoved pages frame entries number = (one : NamedCell) → Contains entries one
    → IsRootOf number one → IsRemovedAt pages frame (address_of one)

-- an original stands in a slot, and its tag directory begins there
abbrev pub IsOriginalFrom : Table → ℕ → Home → Type 0
IsOriginalFrom table number home = (item : SlotItem) × (slice_get table.slots number ≡ Some item)
    × (of_original (Some item) ≡ true) × (first_tag_of item ≡ Some home)

-- it has no root that stays
abbrev pub LacksRoot : Pages → Frame → Table → List NamedCell → Home → ℕ → Type 0
LacksRoot pages frame table entries home number =
    IsOriginalFrom table number home × AreRootsRemoved pages frame entries number
