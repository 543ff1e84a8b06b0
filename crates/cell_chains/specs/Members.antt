-- The cells of a set.
use Rattle.std.specs.Prelude.{◌≡◌, ℕ, List, Some}
use Rattle.metadata_cells.specs.domain_base.declared.place.CellAt.{CellAt}
use Rattle.metadata_cells.specs.Chain.{key_of}
use Rattle.metadata_cells.specs.sorted_sets.Rising.{value_at}
use Rattle.cell_chains.specs.declared.set.CellSet.{CellSet}

-- its cells with their numbers, in the order of these
abbrev pub entries : CellSet → List (ℕ × CellAt)
entries set = set.cells.items

-- a cell is in it
abbrev pub IsIn : CellSet → CellAt → Type 0
IsIn set at = value_at (entries set) (key_of at) ≡ Some at
