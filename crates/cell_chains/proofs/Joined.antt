-- Cells put into a set one by one.
use Rattle.std.proofs.Common.{◌≡◌, ◌⊎◌, ◌↔◌, ℕ, ◌<◌, List, get_or}
use Rattle.metadata_cells.specs.domain_base.declared.place.CellAt.{CellAt}

-- of the cells, those at places below a number are in the set beside those of before
abbrev pub AreIn : (CellAt → Type 0) → (CellAt → Type 0) → List CellAt → ℕ → Type 0
AreIn old new cells number = (other : CellAt) → new other ↔ (old other ⊎ ((k : ℕ) × (k < number) × (get_or cells k other ≡ other)))
