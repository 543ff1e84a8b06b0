-- The indexes that cells in use name.
use Rattle.std.specs.Prelude.{◌≡◌, ◌⊎◌, ◌↔◌, ◌++◌, ℕ, List, [], ◌∷◌, Some, Contains, slice_get}
use Rattle.tag_faults.specs.domain_base.declared.place.CellAt.{CellAt}
use Rattle.tag_faults.specs.domain_base.declared.place.Home.{Home}
use Rattle.tag_faults.specs.page_store.Pages.{Pages}
use Rattle.tag_faults.specs.domain_layout.DirectoryRules.{HasIndexAt}
use Rattle.tag_faults.specs.domain_layout.Reached.{Frame}
use Rattle.page_faults.specs.declared.indexes.IndexAt.{IndexAt}

-- a cell in use names the index
abbrev pub IsNamed : Pages → Frame → IndexAt → Type 0
IsNamed pages frame index = HasIndexAt pages frame index.at index.first

-- these are all, and none is named by the cell of another one
pub record AreIndexes (pages : Pages) (frame : Frame) (indexes : List IndexAt) : Type 0 where
  pub each : (index : IndexAt) → Contains indexes index ↔ IsNamed pages frame index
  pub once : (j k : ℕ) (one other : IndexAt) → slice_get indexes j ≡ Some one
      → slice_get indexes k ≡ Some other → one.at ≡ other.at → j ≡ k

-- the index that the cell at a place names was put after others, or it names none
abbrev pub AddsIndex : Pages → Frame → CellAt → List IndexAt → List IndexAt → Type 0
AddsIndex pages frame at old new =
    ((first : Home) × HasIndexAt pages frame at first
    × (new ≡ old ++ (record { at = at; first = first }) ∷ []))
    ⊎ (((first : Home) → ¬ HasIndexAt pages frame at first) × (new ≡ old))
