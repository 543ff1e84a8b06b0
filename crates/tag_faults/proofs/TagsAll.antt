-- The rules of pages and entries, those of cells that are named, and those of slots are all rules of
-- tags.
use Rattle.std.proofs.Common.{◌≡◌, ◌⊎◌, ◌↔◌, inl, inr, ⊎_elim}
use Rattle.cell_faults.specs.domain_base.declared.place.CellAt.{CellAt}
use Rattle.cell_faults.specs.domain_base.declared.place.Home.{Home}
use Rattle.cell_faults.specs.page_store.Pages.{Pages}
use Rattle.cell_faults.specs.metadata_cells.CellPage.{home_of}
use Rattle.cell_faults.specs.fileset_table.Table.{Table}
use Rattle.cell_faults.specs.domain_layout.Reached.{Frame}
use Rattle.cell_faults.specs.domain_layout.TagRules.{IsNamingFault, IsTagsFault}
use Rattle.tag_faults.specs.All.{IsNamedFault, IsPagesFault, IsSlotFault}

module _ (pages : Pages) (frame : Frame) (table : Table) (home : Home) where
  abbrev Which : Type 0
  Which = (IsPagesFault pages frame table home ⊎ IsNamedFault pages frame table home) ⊎ IsSlotFault pages frame table home

  by_naming : (at : CellAt) → home_of at ≡ home → IsNamingFault pages frame table at → IsNamedFault pages frame table home
  by_naming at same (inl alone) = inl (at, same, alone)
  by_naming at same (inr (inl astray)) = inr (inl (at, same, astray))
  by_naming at same (inr (inr (inl late))) = inr (inr (inl (at, same, late)))
  by_naming at same (inr (inr (inr quota))) = inr (inr (inr (at, same, quota)))

  by_rule : IsTagsFault pages frame table home → Which
  by_rule (inl none) = inl (inl (inl (inl none)))
  by_rule (inr (inl shared)) = inl (inl (inl (inr (inl shared))))
  by_rule (inr (inr (inl wrong))) = inl (inl (inl (inr (inr wrong))))
  by_rule (inr (inr (inr (inl entry)))) = inl (inl (inr (inl entry)))
  by_rule (inr (inr (inr (inr (inl root))))) = inl (inl (inr (inr root)))
  by_rule (inr (inr (inr (inr (inr (inl (at, same, fault))))))) = inl (inr (by_naming at same fault))
  by_rule (inr (inr (inr (inr (inr (inr slot)))))) = inr slot

  by_pages : IsPagesFault pages frame table home → IsTagsFault pages frame table home
  by_pages (inl (inl none)) = inl none
  by_pages (inl (inr (inl shared))) = inr (inl shared)
  by_pages (inl (inr (inr wrong))) = inr (inr (inl wrong))
  by_pages (inr (inl entry)) = inr (inr (inr (inl entry)))
  by_pages (inr (inr root)) = inr (inr (inr (inr (inl root))))

  by_cell : IsNamedFault pages frame table home → IsTagsFault pages frame table home
  by_cell (inl (at, same, alone)) = inr (inr (inr (inr (inr (inl (at, same, inl alone))))))
  by_cell (inr (inl (at, same, astray))) = inr (inr (inr (inr (inr (inl (at, same, inr (inl astray)))))))
  by_cell (inr (inr (inl (at, same, late)))) = inr (inr (inr (inr (inr (inl (at, same, inr (inr (inl late))))))))
  by_cell (inr (inr (inr (at, same, quota)))) = inr (inr (inr (inr (inr (inl (at, same, inr (inr (inr quota))))))))

  pub tags_all : Which ↔ IsTagsFault pages frame table home
  tags_all = (
    λ which. ⊎_elim (λ first. ⊎_elim (λ page. by_pages page) (λ cell. by_cell cell) first) (λ slot. inr (inr (inr (inr (inr (inr slot)))))) which,
    λ fault. by_rule fault,
  )
