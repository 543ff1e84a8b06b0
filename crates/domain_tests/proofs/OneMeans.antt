-- What the domain with one fileset means.
use Rattle.std.proofs.Common.{◌≡◌, ◌∙◌, ◌⊎◌, ◌<◌, [], ◌∷◌, Some, None, Option, IsSomeAnd, refl, sym, ap, subst, arith, ⊎_elim}
use Rattle.domain_making.specs.domain_base.declared.place.Home.{Home}
use Rattle.domain_making.specs.domain_base.declared.version.Version.TheVariants.{Three}
use Rattle.domain_making.specs.page_store.Pages.{Pages}
use Rattle.domain_making.specs.log_ring.Groups.{pages_in}
use Rattle.domain_making.specs.fileset_table.Page.{IsTablePage}
use Rattle.domain_making.specs.fileset_table.Table.{Table}
use Rattle.domain_making.proofs.OfFilesetTable.Unique.{table_unique}
use Rattle.domain_making.specs.domain_layout.DirectoryRules.{IsDirectoryFault, IsIndexFault}
use Rattle.domain_making.specs.domain_layout.Faults.{FaultRow, HasNoFault, IsFilesFault, IsTableFault, IsTablesFault}
use Rattle.domain_making.specs.domain_layout.CellRules.{IsCellsFault}
use Rattle.domain_making.specs.domain_layout.TagRules.{IsTagsFault}
use Rattle.domain_making.specs.domain_layout.Layout.{IsLayout, Layout}
use Rattle.domain_making.specs.domain_layout.Owners.{frame_of as frame_in}
use Rattle.domain_making.specs.domain_layout.PageRules.{IsBitmapFault, IsExtentFault}
use Rattle.domain_making.specs.domain_layout.Reached.{Frame, first_cells}
use Rattle.domain_making.specs.domain_layout.Read.{Means}
use Rattle.domain_making.specs.domain_layout.NewDomain.{on_first}
use Rattle.domain_making.proofs.OfDomainLayout.OnePage.{some_same}
use Rattle.domain_tests.specs.OneFileset.{bitmap_page, cells_page, filesets, image_of, page_of, table_page, tags_page}
use Rattle.domain_tests.specs.Written.{anchor_of, frame_of}
use Rattle.domain_tests.proofs.EmptyImage.{length-bitmap}
use Rattle.domain_tests.proofs.OneCells.{length-cells}
use Rattle.domain_tests.proofs.OneFiles.{laid_out, no_bitmap_fault, no_directory_fault, no_extent_fault, no_index_fault}
use Rattle.domain_tests.proofs.OneReads.{reads_a}
use Rattle.domain_tests.proofs.OneRules.{no_cells_fault, no_tags_fault}
use Rattle.domain_tests.proofs.OneTags.{length-table, length-tags, one_table, says_table}
use Rattle.domain_tests.proofs.Written.{page_is}
use Rattle.domain_tests.proofs.WrittenLog.{has_log, no_first}
use Rattle.domain_tests.proofs.Zeros.{zero_anywhere}

module _ (pages : Pages) (bitmap_there : pages (on_first 2) ≡ Some bitmap_page) (cells_there : pages (on_first 3) ≡ Some cells_page) (table_there : pages (on_first 132) ≡ Some table_page) (tags_there : pages (on_first 133) ≡ Some tags_page) where
  table_said : (home : Home) (table : Table) → (anchor_of Three).table ≡ Some home → IsSomeAnd (pages home) (λ page. IsTablePage page table) → table ≡ one_table
  table_said home table at said =
      let same : home ≡ on_first 132 = some_same home (on_first 132) (sym at) in
      table_unique table_page table one_table (subst (λ o. IsSomeAnd o (λ page. IsTablePage page table)) (ap pages same ∙ table_there) said) says_table

  no_table_fault : (home : Home) → ¬ IsTableFault pages (frame_of Three) home
  no_table_fault home fault =
      let same : home ≡ on_first 132 = some_same home (on_first 132) (sym fault.at) in
      let number : home.page ≡ 132 = ap (λ (h : Home). h.page) same in
      let vol : home.vol ≡ 1 = ap (λ (h : Home). h.vol) same in
      ⊎_elim (λ reserved. ⊎_elim
      (λ low. let below : 132 < 3 = subst (λ (h : Home). h.page < first_cells (frame_of Three) h.vol) same low in omega (arith, below))
      (λ log. omega (arith, log.2, number)) reserved)
      (λ none. none one_table (subst (λ o. IsSomeAnd o (λ page. IsTablePage page one_table)) (sym (ap pages same ∙ table_there)) says_table))
      fault.wrong

  no_tables_fault : (row : FaultRow) → ¬ IsTablesFault pages (frame_of Three) row
  no_tables_fault row fault =
      let says = fault.1 in
      let table = table_said says.home fault.0 says.at says.there in
      ⊎_elim (λ w. no_cells_fault pages cells_there row.home (subst (λ t. IsCellsFault pages (frame_of Three) t row.home) table w.1))
      (λ w. no_tags_fault pages cells_there tags_there row.home (subst (λ t. IsTagsFault pages (frame_of Three) t row.home) table w.1))
      fault.2

  abbrev IsOneOf : Frame → Layout → FaultRow → Type 0
  IsOneOf frame layout row =
      ((row.code ≡ 7) × IsExtentFault pages layout row.home)
      ⊎ ((row.code ≡ 8) × IsBitmapFault pages layout row.home)
      ⊎ ((row.code ≡ 9) × IsDirectoryFault pages frame layout.table row.home)
      ⊎ ((row.code ≡ 10) × IsIndexFault pages frame layout.table row.home)

  no_laid_fault : (cells : _) (tags : _) → IsLayout pages (laid_out cells tags) → (row : FaultRow) → ¬ IsOneOf (frame_of Three) (laid_out cells tags) row
  no_laid_fault cells tags laid row fault =
      ⊎_elim (λ w. no_extent_fault pages cells_there tags_there cells tags laid row.home w.1)
      (λ a. ⊎_elim (λ w. no_bitmap_fault pages cells_there tags_there cells tags laid bitmap_there row.home w.1)
      (λ b. ⊎_elim (λ w. no_directory_fault pages cells_there tags_there row.home w.1)
      (λ w. no_index_fault pages cells_there tags_there row.home w.1) b) a)
      fault

  no_files_fault : (row : FaultRow) → ¬ IsFilesFault pages (frame_of Three) row
  no_files_fault row fault =
      let layout = fault.0 in
      let frame : frame_in layout ≡ frame_of Three = fault.1 in
      let laid = fault.2 in
      let table = by_table layout frame laid in
      let same : layout ≡ laid_out layout.cells layout.tags =
      (λ i. record {
        anchor = ap (λ (f : Frame). f.anchor) frame i;
        version = ap (λ (f : Frame). f.version) frame i;
        table = table i;
        cells = layout.cells;
        tags = layout.tags;
      }) in
      no_laid_fault layout.cells layout.tags (subst (IsLayout pages) same laid) row (subst (λ l. IsOneOf (frame_of Three) l row) same fault.3)
    where
      by_home : (layout : Layout) (o : Option Home) → (anchor_of Three).table ≡ o → IsSomeAnd o (λ home. IsSomeAnd (pages home) (λ page. IsTablePage page layout.table)) → layout.table ≡ one_table
      by_home layout None at said = absurd said
      by_home layout (Some home) at said = table_said home layout.table at said

      by_table : (layout : Layout) → frame_in layout ≡ frame_of Three → IsLayout pages layout → layout.table ≡ one_table
      by_table layout frame laid = by_home layout layout.anchor.table (ap (λ (f : Frame). f.anchor.table) (sym frame)) laid.table

  pub no_fault : HasNoFault pages (frame_of Three)
  no_fault row fault =
      ⊎_elim (λ w. no_table_fault row.home w.1)
      (λ a. ⊎_elim (λ w. no_tables_fault row w.1) (λ w. no_files_fault row w.1) a)
      fault

bitmap_at : pages_in image_of (on_first 2) ≡ Some bitmap_page
bitmap_at = ap Some (page_is page_of 2 (length-bitmap 63))

cells_at : pages_in image_of (on_first 3) ≡ Some cells_page
cells_at = ap Some (page_is page_of 3 length-cells)

table_at : pages_in image_of (on_first 132) ≡ Some table_page
table_at = ap Some (page_is page_of 132 length-table)

tags_at : pages_in image_of (on_first 133) ≡ Some tags_page
tags_at = ap Some (page_is page_of 133 length-tags)

pub means_one : Means (512 ∷ []) image_of filesets
means_one = record {
  anchor = anchor_of Three;
  groups = [];
  version = Three;
  log = has_log Three page_of refl refl (zero_anywhere 8192 0);
  is_version = refl;
  no_first = no_first Three page_of refl refl (zero_anywhere 8192 0);
  no_fault = no_fault (pages_in image_of) bitmap_at cells_at table_at tags_at;
  reads = record {
    anchor = anchor_of Three;
    groups = [];
    log = has_log Three page_of refl refl (zero_anywhere 8192 0);
    home = on_first 132;
    table = refl;
    reads = reads_a (pages_in image_of) cells_at table_at tags_at;
  };
}
