-- What is read of cells, under the cells' numbers.
use Rattle.std.specs.Prelude.{◌≡◌, ◌^◌, ◌<◌, ℕ, List, Some}
use Rattle.metadata_cells.specs.domain_base.declared.place.CellAt.{CellAt}
use Rattle.metadata_cells.specs.Chain.{key_of}
use Rattle.metadata_cells.specs.sorted_sets.Rising.{value_at}

-- each cell stands under its number, and its page and its place on it are numbers of four bytes and
-- of one
abbrev pub AreNumbered : {X : Type 0} → List (ℕ × (CellAt × X)) → Type 0
AreNumbered {X} cells =
    (key : ℕ) (at : CellAt) (read : X) → value_at cells key ≡ Some (at, read)
    → (key ≡ key_of at) × (at.page < 2 ^ 32) × (at.cell < 256)

-- the same of cells alone
abbrev pub AreNumberedCells : List (ℕ × CellAt) → Type 0
AreNumberedCells cells =
    (key : ℕ) (at : CellAt) → value_at cells key ≡ Some at
    → (key ≡ key_of at) × (at.page < 2 ^ 32) × (at.cell < 256)
