-- Where the cells of chains lead.
use Rattle.std.specs.Prelude.{◌≡◌, ◌⊎◌, ◌<◌, true, Some, List}
use Rattle.metadata_cells.specs.domain_base.declared.place.CellAt.{CellAt}
use Rattle.metadata_cells.specs.domain_base.declared.place.Home.{Home}
use Rattle.metadata_cells.specs.CellPage.{home_of}
use Rattle.metadata_cells.specs.Chain.{key_of, may_follow}
use Rattle.cell_chains.specs.Chains.{EndsAt, Follows}
use Rattle.cell_chains.specs.Links.{HasLink}
use Rattle.cell_chains.specs.declared.links.CellLink.{CellLink}
use Rattle.cell_chains.specs.declared.links.CellLinks.{CellLinks}
use Rattle.cell_chains.specs.declared.set.CellSet.{CellSet}
use Rattle.cell_chains.specs.Heads.{IsHead, IsStartOf}

-- what is read of a cell leads to one in use that may follow it
abbrev pub GoesTo : CellLinks → CellLink → CellAt → Type 0
GoesTo links link onto = (link.next ≡ Some onto)
    × ((next : CellLink) × HasLink links onto next × (may_follow link.kind next.kind ≡ true))

-- the chain from a cell on ends at a cell that leads to some other one
abbrev pub EndsAstray : CellLinks → CellAt → CellAt → Type 0
EndsAstray links start at = (passed : List CellAt) × (link : CellLink)
    × Follows links start passed at link × (onto : CellAt) × (link.next ≡ Some onto)
    × EndsAt links passed at link

-- an earlier cell of another chain goes on to the same cell
abbrev pub IsLate : CellLinks → CellSet → CellAt → CellLink → Type 0
IsLate links led at link = (onto : CellAt) × (start : CellAt) × (other : CellAt)
    × (chain : CellAt) × (earlier : CellLink)
    × GoesTo links link onto × IsStartOf links led at start × HasLink links other earlier
    × GoesTo links earlier onto × IsStartOf links led other chain × ¬ chain ≡ start
    × (key_of other < key_of at)

-- ** Pages on which such a cell stands

-- a chain that begins at this cell ends, on this page, at a cell that leads to some other one
abbrev pub HasEndAstray : CellLinks → CellSet → Home → CellAt → CellLink → Type 0
HasEndAstray links led home start first = IsHead led start first
    × ((at : CellAt) × (home_of at ≡ home) × EndsAstray links start at)

-- at a cell of this page an earlier cell of another chain goes on to the same cell
abbrev pub HasLate : CellLinks → CellSet → Home → CellAt → CellLink → Type 0
HasLate links led home at link = (home_of at ≡ home) × IsLate links led at link
