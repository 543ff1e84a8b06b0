-- Holes in the chains of files of originals.
use Rattle.std.specs.Prelude.{◌≡◌, true, false}
use Rattle.page_ways.specs.domain_base.declared.place.CellAt.{CellAt}
use Rattle.page_ways.specs.domain_base.declared.place.Home.{Home}
use Rattle.page_ways.specs.page_store.Pages.{Pages}
use Rattle.page_ways.specs.metadata_cells.Cell.{Cell}
use Rattle.page_ways.specs.metadata_cells.CellPage.{home_of}
use Rattle.page_ways.specs.metadata_cells.Chain.{StandsAt}
use Rattle.page_ways.specs.metadata_cells.declared.head.CellKind.TheVariants.{Primary}
use Rattle.page_ways.specs.fileset_table.Table.{Table}
use Rattle.page_ways.specs.domain_layout.CellRules.{AreHolesOfOriginal, has_kind, item_of, of_original, say_removed}
use Rattle.page_ways.specs.domain_layout.Reached.{Frame}
use Rattle.cell_chains.specs.Chains.{IsOnChain}
use Rattle.cell_chains.specs.Links.{HasLink}
use Rattle.cell_chains.specs.Members.{IsIn}
use Rattle.cell_chains.specs.declared.links.CellLink.{CellLink}
use Rattle.cell_chains.specs.declared.links.CellLinks.{CellLinks}
use Rattle.cell_chains.specs.declared.set.CellSet.{CellSet}

-- it is a first cell in an original, and not all of its file is to be removed
pub record IsFirstOfOriginal (table : Table) (cell : Cell) : Type 0 where
  pub kind : cell.head.kind ≡ Primary
  pub original : of_original (item_of table cell.head) ≡ true
  pub live : say_removed cell.records ≡ false

-- such a cell stands at a place
abbrev pub StartsInOriginal : Pages → Table → CellAt → Type 0
StartsInOriginal pages table start =
    (cell : Cell) × StandsAt pages start cell × IsFirstOfOriginal table cell

-- and another cell is on the chain from there on
abbrev pub IsOfOriginalFrom : Pages → Table → CellLinks → CellAt → CellAt → Type 0
IsOfOriginalFrom pages table links start at =
    StartsInOriginal pages table start × IsOnChain links start at

-- a cell of the chain of some file of an original
abbrev pub IsOfOriginal : Pages → Table → CellLinks → CellAt → Type 0
IsOfOriginal pages table links at = (start : CellAt) × (link : CellLink)
    × HasLink links start link × IsOfOriginalFrom pages table links start at

-- the cell that stands at a place has holes
abbrev pub SaysHoles : Pages → CellAt → Type 0
SaysHoles pages at =
    (cell : Cell) × StandsAt pages at cell × (has_kind 5 cell.records ≡ true)

-- so does one of a set, which is on the page that stands at a home
abbrev pub HasHolesOf : Pages → CellSet → Home → CellAt → Type 0
HasHolesOf pages marked home at = (home_of at ≡ home) × IsIn marked at × SaysHoles pages at

-- some cell of the page has holes in the chain of a file of an original
abbrev pub HasWrongHoles : Pages → Frame → Table → Home → Type 0
HasWrongHoles pages frame table home =
    (at : CellAt) × (home_of at ≡ home) × AreHolesOfOriginal pages frame table at
