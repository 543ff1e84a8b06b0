use Rattle.std.proofs.Common.{◌≡◌, ◌↔◌, ◌⊎◌, Contains}
use Rattle.tag_faults.specs.domain_base.declared.place.Home.{Home}
use Rattle.tag_faults.specs.cell_faults.declared.tables.CellsPage.{CellsPage}
use Rattle.tag_faults.proofs.OfSortedSets.Below.{IsBelow}
use Rattle.page_faults.proofs.homes.push_cells.Given as goal

abbrev pub invariant-loop-page : goal.invariant-loop-page
invariant-loop-page l = (home : Home) → Contains l.homes.items home ↔ (Contains l.initial.homes.items home ⊎ IsBelow {X = CellsPage} l.read (λ page. page.home ≡ home) l.page-index)
