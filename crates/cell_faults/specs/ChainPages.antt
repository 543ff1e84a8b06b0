-- Pages at which a rule of chains is broken.
use Rattle.std.specs.Prelude.{◌≡◌, ◌⊎◌}
use Rattle.page_ways.specs.domain_base.declared.place.CellAt.{CellAt}
use Rattle.page_ways.specs.domain_base.declared.place.Home.{Home}
use Rattle.page_ways.specs.page_store.Pages.{Pages}
use Rattle.page_ways.specs.metadata_cells.CellPage.{home_of}
use Rattle.page_ways.specs.metadata_cells.declared.head.CellKind.TheVariants.{Chain, Quota}
use Rattle.page_ways.specs.domain_layout.CellRules.{AreLimitsTwice, IsPageTwice, IsUnchained, LeadsWrong}
use Rattle.page_ways.specs.domain_layout.Reached.{Frame}
use Rattle.page_ways.specs.fileset_table.Table.{Table}
use Rattle.cell_chains.specs.Members.{IsIn}
use Rattle.cell_chains.specs.declared.links.CellLink.{CellLink}
use Rattle.cell_chains.specs.declared.set.CellSet.{CellSet}
use Rattle.cell_faults.specs.Holes.{HasWrongHoles}

-- a chain cell or a quota cell that is not among the cells of chains
abbrev pub IsLoose : CellSet → CellAt → CellLink → Type 0
IsLoose marked at link = ((link.kind ≡ Chain) ⊎ (link.kind ≡ Quota)) × ¬ IsIn marked at

-- no chain comes to some chain cell or quota cell of the page
abbrev pub HasUnchained : Pages → Frame → Home → Type 0
HasUnchained pages frame home =
    (at : CellAt) × (home_of at ≡ home) × IsUnchained pages frame at

-- some cell of a chain on the page leads wrong
abbrev pub HasWrongLead : Pages → Frame → Home → Type 0
HasWrongLead pages frame home = (at : CellAt) × (home_of at ≡ home) × LeadsWrong pages frame at

-- some cell on the page says a page, or an owner's limits, that an earlier one of its chain says
abbrev pub HasPageTwice : Pages → Frame → Home → Type 0
HasPageTwice pages frame home = (at : CellAt) × (home_of at ≡ home) × IsPageTwice pages frame at

-- some cell of the page says limits that an earlier cell of its chain says
abbrev pub HasLimitsTwice : Pages → Frame → Home → Type 0
HasLimitsTwice pages frame home =
    (at : CellAt) × (home_of at ≡ home) × AreLimitsTwice pages frame at

-- ** All rules of chains

-- a rule of chains is broken on the page
abbrev pub IsChainFault : Pages → Frame → Table → Home → Type 0
IsChainFault pages frame table home = HasWrongLead pages frame home ⊎ HasUnchained pages frame home
    ⊎ HasPageTwice pages frame home ⊎ HasLimitsTwice pages frame home
    ⊎ HasWrongHoles pages frame table home
