-- Chains of cells, by what each cell leads to.
use Rattle.std.specs.Prelude.{◌≡◌, ◌++◌, ◌∷◌, [], List, Some, true, Contains, ◌↔◌}
use Rattle.metadata_cells.specs.domain_base.declared.place.CellAt.{CellAt}
use Rattle.metadata_cells.specs.Chain.{may_follow}
use Rattle.cell_chains.specs.Links.{HasLink}
use Rattle.cell_chains.specs.Members.{IsIn}
use Rattle.cell_chains.specs.declared.links.CellLink.{CellLink}
use Rattle.cell_chains.specs.declared.links.CellLinks.{CellLinks}
use Rattle.cell_chains.specs.declared.set.CellSet.{CellSet}

-- from a cell on, the cells that were passed, and the one that is come to: each stands where the
-- one before it leads, may follow it, and was not passed before
pub data Follows (links : CellLinks) (start : CellAt) : List CellAt → CellAt → CellLink → Type 0
  where
    begins : (link : CellLink) → HasLink links start link → Follows links start [] start link
    goes_on : (passed : List CellAt) (at onto : CellAt) (link next : CellLink)
        → Follows links start passed at link → link.next ≡ Some onto
        → ¬ Contains (passed ++ at ∷ []) onto → HasLink links onto next
        → may_follow link.kind next.kind ≡ true
        → Follows links start (passed ++ at ∷ []) onto next

-- a cell of the chain from a cell on
abbrev pub IsOnChain : CellLinks → CellAt → CellAt → Type 0
IsOnChain links start at =
    (passed : List CellAt) × (link : CellLink) × Follows links start passed at link

-- of a chain, a cell with the cells before it is part of the list
abbrev pub IsListed : List CellAt → List CellAt → CellAt → Type 0
IsListed cells passed at = (rest : List CellAt) × (cells ≡ passed ++ at ∷ rest)

-- the list is the chain from a cell on, as far as it goes
abbrev pub ListsChain : CellLinks → CellAt → List CellAt → Type 0
ListsChain links start cells =
    (passed : List CellAt) (at : CellAt)
    → ((link : CellLink) × Follows links start passed at link) ↔ IsListed cells passed at

-- the chain cannot go on after a cell that was come to
abbrev pub EndsAt : CellLinks → List CellAt → CellAt → CellLink → Type 0
EndsAt links passed at link =
    (onto : CellAt) (next : CellLink) → link.next ≡ Some onto
    → ¬ Contains (passed ++ at ∷ []) onto → HasLink links onto next
    → ¬ may_follow link.kind next.kind ≡ true

-- a cell is come to after those that were passed, which are those that were seen
pub record IsOnWay (links : CellLinks) (start : CellAt) (passed : List CellAt) (seen : CellSet)
    (at : CellAt) (link : CellLink) : Type 0 where
  pub follows : Follows links start passed at link
  pub same : (one : CellAt) → IsIn seen one ↔ Contains passed one
