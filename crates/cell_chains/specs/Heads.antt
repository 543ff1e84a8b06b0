-- First cells of chains and the cells of these, by what each cell leads to.
use Rattle.std.specs.Prelude.{◌≡◌, ◌⊎◌, Some}
use Rattle.metadata_cells.specs.domain_base.declared.place.CellAt.{CellAt}
use Rattle.metadata_cells.specs.declared.head.CellKind.TheVariants.{Primary, Quota}
use Rattle.cell_chains.specs.Chains.{IsOnChain}
use Rattle.cell_chains.specs.Links.{HasLink}
use Rattle.cell_chains.specs.Members.{IsIn}
use Rattle.cell_chains.specs.declared.links.CellLink.{CellLink}
use Rattle.cell_chains.specs.declared.links.CellLinks.{CellLinks}
use Rattle.cell_chains.specs.declared.set.CellSet.{CellSet}

-- what is read of a cell of quotas leads to another
abbrev pub LeadsTo : CellLink → CellAt → Type 0
LeadsTo link onto = (link.kind ≡ Quota) × (link.next ≡ Some onto)

-- a cell of quotas in use leads to it
abbrev pub IsLedTo : CellLinks → CellAt → Type 0
IsLedTo links onto =
    (other : CellAt) × (link : CellLink) × HasLink links other link × LeadsTo link onto

-- it is the first cell of a chain: of a file or directory, or one of quotas that is not among those
-- to which one of quotas leads
abbrev pub IsHead : CellSet → CellAt → CellLink → Type 0
IsHead led at link = (link.kind ≡ Primary) ⊎ ((link.kind ≡ Quota) × ¬ IsIn led at)

-- the first cell of a chain stands at a place, and another cell is on the chain
abbrev pub IsChained : CellLinks → CellSet → CellAt → CellLink → CellAt → Type 0
IsChained links led start link at = IsHead led start link × IsOnChain links start at

-- a cell of some chain
abbrev pub IsOfChain : CellLinks → CellSet → CellAt → Type 0
IsOfChain links led at = (start : CellAt) × (link : CellLink) × HasLink links start link
    × IsChained links led start link at

-- it is the first cell of a chain to which a cell belongs
abbrev pub IsStartOf : CellLinks → CellSet → CellAt → CellAt → Type 0
IsStartOf links led at start =
    (link : CellLink) × HasLink links start link × IsChained links led start link at
