-- A domain that was just made breaks no rule and has no fileset.
use Rattle.std.proofs.Common.{◌≡◌, ◌∙◌, ◌⊎◌, false, true, Some, None, IfSome, IsSomeAnd, sym, ap, subst, arith, ⊎_elim}
use Rattle.std.specs.FinMap.{empty, get-empty}
use Rattle.file_release.specs.domain_base.declared.place.Home.{Home}
use Rattle.file_release.specs.page_store.Pages.{Pages}
use Rattle.name_space.specs.fileset_values.Orders.{name_cmp}
use Rattle.fileset_table.specs.Page.{IsTablePage}
use Rattle.fileset_table.specs.Table.{IsNewTable, Table, entry_of}
use Rattle.fileset_table.proofs.Unique.{table_unique}
use Rattle.domain_layout.specs.Faults.{FaultRow, HasNoFault, IsFilesFault, IsTableFault, IsTablesFault, SaysTable}
use Rattle.domain_layout.specs.Layout.{IsLayout, Layout}
use Rattle.domain_layout.specs.Owners.{frame_of}
use Rattle.domain_layout.specs.DirectoryRules.{IsDirectoryFault, IsIndexFault}
use Rattle.domain_layout.specs.PageRules.{IsBitmapFault, IsExtentFault}
use Rattle.domain_layout.specs.Reached.{Frame, IsReserved}
use Rattle.domain_layout.specs.Read.{ReadsFrom}
use Rattle.domain_layout.specs.Shape.{IsShapeOf}
use Rattle.domain_layout.specs.NewDomain.{IsNew, IsNewCells, IsNewTablePage, firsts, on_first}
use Rattle.domain_layout.proofs.NewCells.{no_cells_fault}
use Rattle.domain_layout.proofs.OnePage.{HasOne, one_of, some_same}
use Rattle.domain_layout.proofs.NewTags.{all_free, no_directory_fault, no_tags_fault}
use Rattle.domain_layout.proofs.NewPages.{no_bitmap_fault, no_extent_fault, no_index_fault}

module _ (pages : Pages) (frame : Frame) (new : IsNew pages frame) where
  pub cells : HasOne (pages (on_first (firsts frame).cells)) (IsNewCells frame)
  cells = one_of (pages (on_first (firsts frame).cells)) (IsNewCells frame) new.cells

  table : HasOne (pages (on_first (firsts frame).table)) IsNewTablePage
  table = one_of (pages (on_first (firsts frame).table)) IsNewTablePage new.table

  -- the table that a page says
  table_is : (home : Home) (other : Table) → frame.anchor.table ≡ Some home → IsSomeAnd (pages home) (λ page. IsTablePage page other) → other ≡ table.is.table
  table_is home other at said =
      let same : home ≡ on_first (firsts frame).table = some_same home (on_first (firsts frame).table) (sym at ∙ new.anchor.table) in
      let says : IsTablePage table.value other = subst (λ o. IsSomeAnd o (λ page. IsTablePage page other)) (ap pages same ∙ table.there) said in
      table_unique table.value other table.is.table says table.is.says

  fresh : (home : Home) (other : Table) → frame.anchor.table ≡ Some home → IsSomeAnd (pages home) (λ page. IsTablePage page other) → IsNewTable other
  fresh home other at said = subst IsNewTable (sym (table_is home other at said)) table.is.fresh

  pub no_reserved : ¬ IsReserved frame (on_first (firsts frame).table)
  no_reserved wrong = ⊎_elim (λ low. omega (arith, low)) (λ log. omega (arith, log.2, new.anchor.log)) wrong

  no_table_fault : (home : Home) → ¬ IsTableFault pages frame home
  no_table_fault home fault =
      let same : home ≡ on_first (firsts frame).table = some_same home (on_first (firsts frame).table) (sym fault.at ∙ new.anchor.table) in
      ⊎_elim (λ reserved. no_reserved (subst (IsReserved frame) same reserved))
      (λ none. none table.is.table (subst (λ o. IsSomeAnd o (λ page. IsTablePage page table.is.table)) (sym (ap pages same ∙ table.there)) table.is.says))
      fault.wrong

  no_tables_fault : (row : FaultRow) → ¬ IsTablesFault pages frame row
  no_tables_fault row fault =
      let says : SaysTable pages frame fault.0 = fault.1 in
      let new_table = fresh says.home fault.0 says.at says.there in
      ⊎_elim (λ of_cells. no_cells_fault pages frame new.anchor cells.value cells.there cells.is fault.0 row.home of_cells.1)
      (λ of_tags. no_tags_fault fault.0 new_table pages frame new.anchor cells.value cells.there cells.is row.home of_tags.1)
      fault.2

  pub reads_none : ReadsFrom pages (on_first (firsts frame).table) empty
  reads_none = record {
    shapes = λ name. None;
    shaped = record {
      table = table.is.table;
      there = subst (λ o. IsSomeAnd o (λ page. IsTablePage page table.is.table)) (sym table.there) table.is.says;
      are = record {
        each = λ number item there.
            subst (λ i. IfSome (entry_of i) (λ entry. IsShapeOf pages table.is.table number i None)) (sym (all_free table.is.table table.is.fresh number item there)) tt;
        only = λ name some. let e : false ≡ true = some in absurd (cc);
      };
    };
    filled = λ name. get-empty name_cmp name;
  }

-- the same of pages that stand as a layout says
module _ (pages : Pages) (layout : Layout) (new : IsNew pages (frame_of layout)) (laid : IsLayout pages layout) where
  pub laid_table : IsNewTable layout.table
  laid_table =
      let at = one_of layout.anchor.table (λ home. IsSomeAnd (pages home) (λ page. IsTablePage page layout.table)) laid.table in
      fresh pages (frame_of layout) new at.value layout.table at.there at.is

  no_laid_fault : (row : FaultRow) → ¬ (((row.code ≡ 7) × IsExtentFault pages layout row.home)
      ⊎ ((row.code ≡ 8) × IsBitmapFault pages layout row.home)
      ⊎ ((row.code ≡ 9) × IsDirectoryFault pages (frame_of layout) layout.table row.home)
      ⊎ ((row.code ≡ 10) × IsIndexFault pages (frame_of layout) layout.table row.home))
  no_laid_fault row fault =
      let there = cells pages (frame_of layout) new in
      ⊎_elim (λ w. no_extent_fault pages layout new.anchor there.value there.there there.is laid_table laid row.home w.1)
      (λ a. ⊎_elim (λ w. no_bitmap_fault pages layout new.anchor there.value there.there there.is laid_table laid new.bitmap row.home w.1)
      (λ b. ⊎_elim (λ w. no_directory_fault layout.table laid_table pages (frame_of layout) new.anchor there.value there.there there.is row.home w.1)
      (λ w. no_index_fault pages layout new.anchor there.value there.there there.is laid_table laid row.home w.1) b) a)
      fault

module _ (pages : Pages) (frame : Frame) (new : IsNew pages frame) where
  no_files_fault : (row : FaultRow) → ¬ IsFilesFault pages frame row
  no_files_fault row fault =
      no_laid_fault pages fault.0 (subst (IsNew pages) (sym fault.1) new) fault.2 row
      (subst (λ f. ((row.code ≡ 7) × IsExtentFault pages fault.0 row.home)
      ⊎ ((row.code ≡ 8) × IsBitmapFault pages fault.0 row.home)
      ⊎ ((row.code ≡ 9) × IsDirectoryFault pages f fault.0.table row.home)
      ⊎ ((row.code ≡ 10) × IsIndexFault pages f fault.0.table row.home)) (sym fault.1) fault.3)

  pub no_fault : HasNoFault pages frame
  no_fault row fault =
      ⊎_elim (λ w. no_table_fault pages frame new row.home w.1)
      (λ a. ⊎_elim (λ w. no_tables_fault pages frame new row w.1) (λ w. no_files_fault row w.1) a)
      fault
