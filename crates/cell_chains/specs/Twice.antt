-- What two cells of a chain say.
use Rattle.std.specs.Prelude.{◌≡◌, List, Contains}
use Rattle.metadata_cells.specs.domain_base.declared.place.CellAt.{CellAt}
use Rattle.metadata_cells.specs.domain_base.declared.place.Home.{Home}
use Rattle.metadata_cells.specs.page_store.Pages.{Pages}
use Rattle.metadata_cells.specs.CellPage.{home_of}
use Rattle.metadata_cells.specs.declared.head.CellKind.{CellKind}
use Rattle.metadata_cells.specs.declared.head.CellKind.TheVariants.{Quota}
use Rattle.cell_chains.specs.Chains.{Follows}
use Rattle.cell_chains.specs.declared.links.CellLink.{CellLink}
use Rattle.cell_chains.specs.declared.links.CellLinks.{CellLinks}
use Rattle.cell_chains.specs.declared.set.CellSet.{CellSet}
use Rattle.cell_chains.specs.Heads.{IsHead}
use Rattle.cell_chains.specs.Says.{SaySame}
use Rattle.cell_chains.specs.declared.said.Said.{Said}
use Rattle.cell_chains.specs.declared.said.Said.TheVariants as said

-- that is told of chains that begin with a cell of a kind
abbrev pub Asks : Said → CellKind → Type 0
Asks said.Pages kind = Unit {0}
Asks said.Limits kind = kind ≡ Quota

-- a cell of the chain from a cell on says what one before it says
abbrev pub SaysTwice : Pages → Said → CellLinks → CellAt → CellAt → Type 0
SaysTwice pages what links start at = (passed : List CellAt) × (link : CellLink)
    × Follows links start passed at link × (before : CellAt) × Contains passed before
    × SaySame pages what before at

-- a chain begins at a cell, and one of its cells on a page does so
abbrev pub HasTwice : Pages → Said → CellLinks → CellSet → Home → CellAt → CellLink → Type 0
HasTwice pages what links led home start first = Asks what first.kind × IsHead led start first
    × ((at : CellAt) × (home_of at ≡ home) × SaysTwice pages what links start at)
