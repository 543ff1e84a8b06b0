-- Where no rule of pages is broken, pages of cells are those of members, and chain cells are well formed.
use Rattle.std.proofs.Common.{◌≡◌, inl, inr, true, Contains, ⊎_elim}
use Rattle.std.proofs.lemmas.Bool.{cases_Bool}
use Rattle.domain_standing.specs.domain_base.declared.place.CellAt.{CellAt}
use Rattle.domain_standing.specs.domain_base.declared.place.Home.{Home}
use Rattle.domain_standing.specs.log_ring.Homes.{IsMember}
use Rattle.domain_standing.specs.metadata_cells.Cell.{Cell}
use Rattle.domain_standing.specs.metadata_cells.declared.head.CellKind.TheVariants.{Chain}
use Rattle.domain_standing.specs.free_cells.Cells.{table_of}
use Rattle.domain_standing.proofs.OfDomainLayout.NoTables.{none_of_tables}
use Rattle.domain_standing.specs.domain_layout.CellRules.{is_chain_records}
use Rattle.domain_standing.specs.domain_layout.Faults.{HasNoFault, HasNoTablesFault}
use Rattle.domain_standing.specs.domain_layout.Layout.{IsLayout}
use Rattle.domain_standing.specs.domain_layout.Owners.{IsOnTable}
use Rattle.domain_standing.specs.domain_layout.Reached.{IsWithin}
use Rattle.domain_standing.proofs.OfDomainLayout.Named.{no_cell}
use Rattle.domain_standing.proofs.OfDomainLayout.OwnedOnce.{cell_place, used_on}
use Rattle.domain_standing.specs.Domain.{DomainNow, layout_of}

module _ (d : DomainNow) (laid : IsLayout d.pages (layout_of d)) (no_fault : HasNoFault d.pages d.frame) where
  tables : HasNoTablesFault d.pages d.frame
  tables = none_of_tables d.pages d.frame no_fault

  pub faultless_laters : (at : CellAt) (cell : Cell) → IsOnTable d.pages (layout_of d) at cell → cell.head.kind ≡ Chain → is_chain_records cell.records ≡ true
  faultless_laters at cell on kind = ⊎_elim (λ right. right)
      (λ wrong. absurd (no_cell d.pages (layout_of d) laid tables at (inr (inr (inl (record { cell = cell; used = used_on d.pages (layout_of d) laid tables at cell on; wrong = inl (kind, wrong) }))))))
      (cases_Bool (is_chain_records cell.records))

  pub faultless_cells : (home : Home) → IsMember d.frame.anchor home.vol → Contains (table_of d.cells home.vol) home.page → IsWithin d.frame home
  faultless_cells home member on = (cell_place d.pages (layout_of d) laid tables home member on).is.read.may.0
