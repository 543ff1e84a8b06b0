-- Cells in use, and what each of them leads to.
use Rattle.std.specs.Prelude.{◌≡◌, ℕ, List, Some}
use Rattle.metadata_cells.specs.domain_base.declared.place.CellAt.{CellAt}
use Rattle.metadata_cells.specs.Chain.{key_of}
use Rattle.metadata_cells.specs.sorted_sets.Rising.{value_at}
use Rattle.cell_chains.specs.declared.links.CellLink.{CellLink}
use Rattle.cell_chains.specs.declared.links.CellLinks.{CellLinks}

-- the cells in use with what is read of them, under their numbers, in the order of these
abbrev pub cells_of : CellLinks → List (ℕ × (CellAt × CellLink))
cells_of links = links.cells.items

-- a cell is in use, and this is read of it
abbrev pub HasLink : CellLinks → CellAt → CellLink → Type 0
HasLink links at link = value_at (cells_of links) (key_of at) ≡ Some (at, link)

-- the cell is in use
abbrev pub IsInUse : CellLinks → CellAt → Type 0
IsInUse links at = (link : CellLink) × HasLink links at link
