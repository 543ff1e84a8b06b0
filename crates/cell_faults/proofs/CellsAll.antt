-- The rules of one page or one cell, and those of chains, are all rules of cells.
use Rattle.std.proofs.Common.{◌≡◌, ◌⊎◌, ◌↔◌, inl, inr, ⊎_elim}
use Rattle.page_ways.specs.domain_base.declared.place.CellAt.{CellAt}
use Rattle.page_ways.specs.domain_base.declared.place.Home.{Home}
use Rattle.page_ways.specs.page_store.Pages.{Pages}
use Rattle.page_ways.specs.metadata_cells.CellPage.{home_of}
use Rattle.page_ways.specs.fileset_table.Table.{Table}
use Rattle.page_ways.specs.domain_layout.CellRules.{IsCellFault, IsCellsFault}
use Rattle.page_ways.specs.domain_layout.Reached.{Frame}
use Rattle.cell_faults.specs.Rules.{IsLocalFault}
use Rattle.cell_faults.specs.ChainPages.{IsChainFault}

module _ (pages : Pages) (frame : Frame) (table : Table) (home : Home) where
  by_cell : (at : CellAt) → home_of at ≡ home → IsCellFault pages frame table at → IsLocalFault pages frame table home ⊎ IsChainFault pages frame table home
  by_cell at same (inl volume) = inl (inr (inr (inr (at, same, inl volume))))
  by_cell at same (inr (inl first)) = inl (inr (inr (inr (at, same, inr (inl first)))))
  by_cell at same (inr (inr (inl later))) = inl (inr (inr (inr (at, same, inr (inr later)))))
  by_cell at same (inr (inr (inr (inl leads)))) = inr (inl (at, same, leads))
  by_cell at same (inr (inr (inr (inr (inl loose))))) = inr (inr (inl (at, same, loose)))
  by_cell at same (inr (inr (inr (inr (inr (inl again)))))) = inr (inr (inr (inl (at, same, again))))
  by_cell at same (inr (inr (inr (inr (inr (inr (inl limits))))))) = inr (inr (inr (inr (inl (at, same, limits)))))
  by_cell at same (inr (inr (inr (inr (inr (inr (inr holes))))))) = inr (inr (inr (inr (inr (at, same, holes)))))

  by_page : IsCellsFault pages frame table home → IsLocalFault pages frame table home ⊎ IsChainFault pages frame table home
  by_page (inl none) = inl (inl none)
  by_page (inr (inl header)) = inl (inr (inl header))
  by_page (inr (inr (inl cell))) = inl (inr (inr (inl cell)))
  by_page (inr (inr (inr (at, same, fault)))) = by_cell at same fault

  local : IsLocalFault pages frame table home → IsCellsFault pages frame table home
  local (inl none) = inl none
  local (inr (inl header)) = inr (inl header)
  local (inr (inr (inl cell))) = inr (inr (inl cell))
  local (inr (inr (inr (at, same, inl volume)))) = inr (inr (inr (at, same, inl volume)))
  local (inr (inr (inr (at, same, inr (inl first))))) = inr (inr (inr (at, same, inr (inl first))))
  local (inr (inr (inr (at, same, inr (inr later))))) = inr (inr (inr (at, same, inr (inr (inl later)))))

  chain : IsChainFault pages frame table home → IsCellsFault pages frame table home
  chain (inl (at, same, leads)) = inr (inr (inr (at, same, inr (inr (inr (inl leads))))))
  chain (inr (inl (at, same, loose))) = inr (inr (inr (at, same, inr (inr (inr (inr (inl loose)))))))
  chain (inr (inr (inl (at, same, again)))) = inr (inr (inr (at, same, inr (inr (inr (inr (inr (inl again))))))))
  chain (inr (inr (inr (inl (at, same, limits))))) = inr (inr (inr (at, same, inr (inr (inr (inr (inr (inr (inl limits)))))))))
  chain (inr (inr (inr (inr (at, same, holes))))) = inr (inr (inr (at, same, inr (inr (inr (inr (inr (inr (inr holes)))))))))

  pub cells_all : (IsLocalFault pages frame table home ⊎ IsChainFault pages frame table home) ↔ IsCellsFault pages frame table home
  cells_all = ((λ which. ⊎_elim (λ here. local here) (λ fault. chain fault) which), (λ fault. by_page fault))
