-- Pages that break no rule break none of tables, and none of extents.
use Rattle.std.proofs.Common.{◌≡◌, inl, inr, refl}
use Rattle.file_release.specs.domain_base.declared.place.Home.{Home}
use Rattle.file_release.specs.page_store.Pages.{Pages}
use Rattle.domain_layout.specs.Faults.{FaultRow, HasNoExtentFault, HasNoFault, HasNoTablesFault, IsTableFault, IsTablesFault}
use Rattle.domain_layout.specs.Layout.{IsLayout, Layout}
use Rattle.domain_layout.specs.Owners.{frame_of}
use Rattle.domain_layout.specs.PageRules.{IsExtentFault}
use Rattle.domain_layout.specs.Reached.{Frame}

module _ (pages : Pages) (frame : Frame) (none : HasNoFault pages frame) where
  no_table : (home : Home) → ¬ IsTableFault pages frame home
  no_table home fault = none (record { code = 4; home = home }) (inl (refl, fault))

  no_tables : (row : FaultRow) → ¬ IsTablesFault pages frame row
  no_tables row fault = none row (inr (inl (no_table, fault)))

  pub none_of_tables : HasNoTablesFault pages frame
  none_of_tables = record { table = no_table; tables = no_tables }

  no_extent : (layout : Layout) (home : Home) → frame_of layout ≡ frame → IsLayout pages layout → ¬ IsExtentFault pages layout home
  no_extent layout home same laid fault = none (record { code = 7; home = home }) (inr (inr (none_of_tables, (layout, same, laid, inl (refl, fault)))))

  pub none_of_extents : HasNoExtentFault pages frame
  none_of_extents = record { tables = none_of_tables; extents = no_extent }
