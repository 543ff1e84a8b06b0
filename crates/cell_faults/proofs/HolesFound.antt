-- Holes that are found in the chains of files of originals are those of the rules.
use Rattle.std.proofs.Common.{◌≡◌, ◌↔◌, List}
use Rattle.page_ways.specs.domain_base.declared.place.CellAt.{CellAt}
use Rattle.page_ways.specs.domain_base.declared.place.Home.{Home}
use Rattle.page_ways.specs.page_store.Pages.{Pages}
use Rattle.page_ways.specs.metadata_cells.CellPage.{home_of}
use Rattle.page_ways.specs.fileset_table.Table.{Table}
use Rattle.page_ways.specs.domain_layout.CellRules.{AreHolesOfOriginal}
use Rattle.page_ways.specs.domain_layout.Reached.{Frame}
use Rattle.cell_chains.specs.Chains.{Follows, begins, goes_on}
use Rattle.cell_chains.specs.Links.{HasLink}
use Rattle.cell_chains.specs.Members.{IsIn}
use Rattle.cell_chains.specs.declared.links.CellLink.{CellLink}
use Rattle.cell_chains.specs.declared.links.CellLinks.{CellLinks}
use Rattle.cell_chains.specs.declared.set.CellSet.{CellSet}
use Rattle.cell_chains.proofs.Whole.{has_link}
use Rattle.cell_faults.specs.Holes.{HasHolesOf, HasWrongHoles, IsFirstOfOriginal, IsOfOriginal}
use Rattle.cell_faults.specs.Links.{AreLinks, link_in}
use Rattle.cell_faults.proofs.Walks.{from_rules, is_link, link_of, to_rules}

-- the cell is in use at which a walk begins
first_link : (links : CellLinks) (start : CellAt) (passed : List CellAt) (at : CellAt) (link : CellLink) → Follows links start passed at link → (first : CellLink) × HasLink links start first
first_link links start passed at link there = elim there as (λ passed at link there. (first : CellLink) × HasLink links start first) [
  | begins link has ↦ (link, has)
  | goes_on passed at onto link next (before → earlier) leads fresh has may ↦ earlier
]

module _ (pages : Pages) (frame : Frame) (links : CellLinks) (are : AreLinks pages frame links) (table : Table) (marked : CellSet) (all_marked : (at : CellAt) → IsIn marked at ↔ IsOfOriginal pages table links at) where
  holes : (at : CellAt) (link : CellLink) → HasLink links at link → (home : Home) → HasHolesOf pages marked home at → AreHolesOfOriginal pages frame table at
  holes at link has home (same, among, (cell, stands, says)) =
      let (start, first, begins_at, ((head, head_stands, of), (passed, last, follows))) = (all_marked at).0 among in record {
        start = start;
        first = head;
        first_is = record { place = (is_link pages frame links are start first begins_at).place; stands = head_stands };
        kind = of.kind;
        original = of.original;
        live = of.live;
        passed = passed;
        link = link_in last;
        follows = to_rules pages frame links are start passed at last follows;
        cell = cell;
        is = record { place = (is_link pages frame links are at link has).place; stands = stands };
        holes = says;
      }

  were_holes : (at : CellAt) (home : Home) → home_of at ≡ home → AreHolesOfOriginal pages frame table at → (link : CellLink) × HasLink links at link × HasHolesOf pages marked home at
  were_holes at home same wrong =
      let walk = from_rules pages frame links are wrong.start wrong.passed at wrong.link wrong.follows in
      let last = link_of wrong.link in
      let first = first_link links wrong.start wrong.passed at last walk in
      let head : IsFirstOfOriginal table wrong.first = record { kind = wrong.kind; original = wrong.original; live = wrong.live } in (
        last,
        has_link links wrong.start wrong.passed at last walk,
        (same, (all_marked at).1 (wrong.start, first.0, first.1, ((wrong.first, wrong.first_is.stands, head), (wrong.passed, last, walk))), (wrong.cell, wrong.is.stands, wrong.holes)),
      )

  -- those are found exactly where the rules have them
  pub holes_all : (home : Home) → ((at : CellAt) × (link : CellLink) × HasLink links at link × HasHolesOf pages marked home at) ↔ HasWrongHoles pages frame table home
  holes_all home = (
    λ (at, link, has, there). (at, there.0, holes at link has home there),
    λ (at, same, wrong). let there = were_holes at home same wrong in (at, there.0, there.1, there.2),
  )
