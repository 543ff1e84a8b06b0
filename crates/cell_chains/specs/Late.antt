-- Which cell one goes on to, by what is told of the cells of chains.
use Rattle.std.specs.Prelude.{◌≡◌, ◌⊎◌, ℕ, Some}
use Rattle.metadata_cells.specs.domain_base.declared.place.CellAt.{CellAt}
use Rattle.metadata_cells.specs.Chain.{key_of}
use Rattle.cell_chains.specs.declared.links.CellLink.{CellLink}
use Rattle.cell_chains.specs.declared.links.CellLinks.{CellLinks}
use Rattle.cell_chains.specs.Leads.{GoesTo}
use Rattle.cell_chains.specs.Starts.{Differ, Joins, Stays, starts_of}
use Rattle.cell_chains.specs.declared.map.StartMap.{StartMap}
use Rattle.cell_chains.specs.declared.starts.Starts.{Starts}

-- a cell goes on to another one, and that is told of the first cells of its chains
abbrev pub Goes : CellLinks → StartMap → CellAt → CellLink → CellAt → Starts → Type 0
Goes links chains at link onto starts =
    GoesTo links link onto × (starts_of chains at ≡ Some starts)

-- it goes on to one to which cells of another chain go on, by what is told of those so far
abbrev pub GoesLate : CellLinks → StartMap → StartMap → CellAt → CellLink → Type 0
GoesLate links chains earlier at link = (onto : CellAt) × (starts : Starts)
    × Goes links chains at link onto starts × Differ (starts_of earlier onto) starts

-- it is told too, or goes on to none
abbrev pub JoinsLead : CellLinks → StartMap → CellAt → CellLink → StartMap → StartMap → Type 0
JoinsLead links chains at link old new =
    ((onto : CellAt) × (starts : Starts) × Goes links chains at link onto starts
    × Joins old new (key_of onto) starts)
    ⊎ (((onto : CellAt) (starts : Starts) → ¬ Goes links chains at link onto starts)
    × ((key : ℕ) → Stays old new key))
