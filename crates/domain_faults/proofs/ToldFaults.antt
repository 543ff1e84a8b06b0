-- The rows of the rules are those of the list.
use Rattle.std.proofs.Common.{◌≡◌, ◌∙◌, ◌⊎◌, ◌↔◌, inl, inr, ℕ, List, [], ◌∷◌, Contains, Option, Some, None, IsSome, IsSomeAnd, refl, sym, ap, subst, arith, ⊎_elim}
use Rattle.slot_files.specs.domain_base.Version.{number_of as version_number}
use Rattle.slot_files.specs.domain_base.declared.place.Home.{Home}
use Rattle.slot_files.specs.domain_base.declared.version.Version.{Version}
use Rattle.slot_files.specs.domain_base.declared.version.Version.TheVariants.{Four, Three}
use Rattle.slot_files.specs.page_store.Pages.{Pages}
use Rattle.slot_files.specs.fileset_table.Page.{IsTablePage}
use Rattle.slot_files.specs.fileset_table.Table.{Table}
use Rattle.slot_files.proofs.OfFilesetTable.Unique.{table_unique}
use Rattle.slot_files.specs.domain_layout.CellRules.{IsCellsFault}
use Rattle.slot_files.specs.domain_layout.DirectoryRules.{IsDirectoryFault, IsIndexFault}
use Rattle.slot_files.specs.domain_layout.Faults.{AreFaults, FaultRow, HasNoFault, HasNoTablesFault, IsFault, IsFilesFault, IsTableFault, IsTablesFault, SaysTable}
use Rattle.slot_files.specs.domain_layout.Layout.{IsLayout, Layout}
use Rattle.slot_files.specs.domain_layout.Owners.{frame_of}
use Rattle.slot_files.specs.domain_layout.PageRules.{IsBitmapFault, IsExtentFault}
use Rattle.slot_files.specs.domain_layout.Reached.{Frame}
use Rattle.slot_files.specs.domain_layout.TagRules.{IsTagsFault}
use Rattle.slot_files.proofs.OfDomainLayout.OnePage.{one_of, some_same}
use Rattle.slot_files.proofs.OfDomainLayout.OwnedOnce.{no_cells}
use Rattle.slot_files.specs.filesets_reading.Tables.{AreTablesOf}
use Rattle.slot_files.specs.filesets_reading.declared.tables.DomainTables.{DomainTables}
use Rattle.slot_files.specs.sorted_sets.Members.{IsIn}
use Rattle.slot_files.specs.sorted_sets.declared.home_set.HomeSet.{HomeSet}
use Rattle.slot_files.specs.page_faults.Files.{AreGoodCells, HasWrongBit, HasWrongPage}
use Rattle.slot_files.proofs.OfPageFaults.ByLayout.{bits_by_layout, pages_by_layout}
use Rattle.slot_files.specs.cell_faults.Read.{IsWholeTable}
use Rattle.domain_faults.specs.Rows.{AreRowsOf}
use Rattle.domain_faults.proofs.FaultRows.{IsNoRow, IsRowIn, empty_by, in_none, rows_alone, rows_none, rows_same}

-- ---- tables

-- one page says one table
one_says : (pages : Pages) (frame : Frame) (a b : Table) → SaysTable pages frame a → SaysTable pages frame b → a ≡ b
one_says pages frame a b one other =
    let home : one.home ≡ other.home = some_same one.home other.home (sym one.at ∙ other.at) in
    let there = one_of (pages one.home) (λ page. IsTablePage page a) one.there in
    let also = one_of (pages other.home) (λ page. IsTablePage page b) other.there in
    let page : there.value ≡ also.value = some_same there.value also.value (sym there.there ∙ ap pages home ∙ also.there) in
    table_unique also.value a b (subst (λ (p : List ℕ). IsTablePage p a) page there.is) also.is

-- rows of cells and of tags
abbrev pub IsOfTables : HomeSet → HomeSet → FaultRow → Type 0
IsOfTables cells tags row = (IsNoRow row ⊎ IsRowIn 5 cells row) ⊎ IsRowIn 6 tags row

module _ (pages : Pages) (frame : Frame) (table : Table) (says : SaysTable pages frame table) (cells tags : HomeSet) where
  pub tables_told : ((home : Home) → IsIn cells home ↔ IsCellsFault pages frame table home) → ((home : Home) → IsIn tags home ↔ IsTagsFault pages frame table home) → (row : FaultRow) → IsOfTables cells tags row ↔ IsTablesFault pages frame row
  tables_told of_cells of_tags row = (
    λ is. ⊎_elim
        (λ first. ⊎_elim (λ none. absurd none) (λ one. (table, says, inl (one.0, (of_cells row.home).0 one.1))) first)
        (λ other. (table, says, inr (other.0, (of_tags row.home).0 other.1))) is,
    λ (t, said, fault).
        let same : t ≡ table = one_says pages frame t table said says in
        ⊎_elim (λ one. inl (inr (one.0, (of_cells row.home).1 (subst (λ (x : Table). IsCellsFault pages frame x row.home) same one.1))))
        (λ other. inr (other.0, (of_tags row.home).1 (subst (λ (x : Table). IsTagsFault pages frame x row.home) same other.1))) fault,
  )

-- ---- files

-- rows of the rules of files
abbrev pub IsOfFiles : HomeSet → HomeSet → HomeSet → HomeSet → FaultRow → Type 0
IsOfFiles extents bitmaps directories indexes row =
    (((IsNoRow row ⊎ IsRowIn 7 extents row) ⊎ IsRowIn 8 bitmaps row) ⊎ IsRowIn 9 directories row) ⊎ IsRowIn 10 indexes row

module _ (pages : Pages) (frame : Frame) (tables : DomainTables) (are : AreTablesOf pages frame tables) (fault : HasNoTablesFault pages frame) where
  none : HasNoTablesFault pages (frame_of are.layout)
  none = subst (HasNoTablesFault pages) (sym are.is) fault

  pub good_cells : AreGoodCells pages frame tables.filesets
  good_cells home =
      subst (λ (f : Frame). ¬ IsCellsFault pages f tables.filesets home) are.is
      (subst (λ (t : Table). ¬ IsCellsFault pages (frame_of are.layout) t home) are.table (no_cells pages are.layout are.laid none home))

  -- a layout has this frame
  abbrev IsThis : Layout → Type 0
  IsThis layout = (frame_of layout ≡ frame) × IsLayout pages layout

  here : IsThis are.layout
  here = (are.is, are.laid)

  says_so : (layout : Layout) → IsThis layout → SaysTable pages frame layout.table
  says_so layout this =
      let named = one_of layout.anchor.table (λ home. IsSomeAnd (pages home) (λ page. IsTablePage page layout.table)) this.1.table in
      subst (λ (f : Frame). SaysTable pages f layout.table) this.0 (record { home = named.value; at = named.there; there = named.is })

  table_is : (layout : Layout) → IsThis layout → layout.table ≡ tables.filesets
  table_is layout this = one_says pages frame layout.table are.layout.table (says_so layout this) (says_so are.layout here) ∙ are.table

  carry : (P : Frame → Table → Type 0) (layout : Layout) → IsThis layout → P (frame_of layout) layout.table ↔ P frame tables.filesets
  carry P layout this = (
    (λ is. subst (λ (f : Frame). P f tables.filesets) this.0 (subst (P (frame_of layout)) (table_is layout this) is)),
    (λ is. subst (P (frame_of layout)) (sym (table_is layout this)) (subst (λ (f : Frame). P f tables.filesets) (sym this.0) is)),
  )

  no_fault : (layout : Layout) → IsThis layout → HasNoTablesFault pages (frame_of layout)
  no_fault layout this = subst (HasNoTablesFault pages) (sym this.0) fault

  laid : (layout : Layout) → IsThis layout → IsLayout pages layout
  laid layout this = this.1

  extents : (layout : Layout) → IsThis layout → (home : Home) → IsExtentFault pages layout home ↔ HasWrongPage pages frame tables.filesets home
  extents layout this home =
      let law = pages_by_layout pages layout (laid layout this) (no_fault layout this) home in
      let same = carry (λ f t. HasWrongPage pages f t home) layout this in
      ((λ is. same.0 (law.1 is)), (λ is. law.0 (same.1 is)))

  bitmaps : (layout : Layout) → IsThis layout → (home : Home) → IsBitmapFault pages layout home ↔ HasWrongBit pages frame tables.filesets home
  bitmaps layout this home =
      let law = bits_by_layout pages layout (laid layout this) (no_fault layout this) home in
      let same = carry (λ f t. HasWrongBit pages f t home) layout this in
      ((λ is. same.0 (law.1 is)), (λ is. law.0 (same.1 is)))

  module _ (wrong_pages wrong_bits directories indexes : HomeSet) where
    module _ (of_pages : (home : Home) → IsIn wrong_pages home ↔ HasWrongPage pages frame tables.filesets home) (of_bits : (home : Home) → IsIn wrong_bits home ↔ HasWrongBit pages frame tables.filesets home)
        (of_directories : (home : Home) → IsIn directories home ↔ IsDirectoryFault pages frame tables.filesets home) (of_indexes : (home : Home) → IsIn indexes home ↔ IsIndexFault pages frame tables.filesets home) where
      to_told : (row : FaultRow) → IsOfFiles wrong_pages wrong_bits directories indexes row → IsFilesFault pages frame row
      to_told row (inl (inl (inl (inl void)))) = absurd void
      to_told row (inl (inl (inl (inr is)))) = (are.layout, are.is, are.laid, inl (is.0, (extents are.layout here row.home).1 ((of_pages row.home).0 is.1)))
      to_told row (inl (inl (inr is))) = (are.layout, are.is, are.laid, inr (inl (is.0, (bitmaps are.layout here row.home).1 ((of_bits row.home).0 is.1))))
      to_told row (inl (inr is)) =
          (are.layout, are.is, are.laid, inr (inr (inl (is.0, subst (λ (t : Table). IsDirectoryFault pages frame t row.home) (sym are.table) ((of_directories row.home).0 is.1)))))
      to_told row (inr is) =
          (are.layout, are.is, are.laid, inr (inr (inr (is.0, subst (λ (t : Table). IsIndexFault pages frame t row.home) (sym are.table) ((of_indexes row.home).0 is.1)))))

      from_told : (row : FaultRow) (layout : Layout) → IsThis layout → ((row.code ≡ 7) × IsExtentFault pages layout row.home) ⊎ ((row.code ≡ 8) × IsBitmapFault pages layout row.home)
          ⊎ ((row.code ≡ 9) × IsDirectoryFault pages frame layout.table row.home) ⊎ ((row.code ≡ 10) × IsIndexFault pages frame layout.table row.home) → IsOfFiles wrong_pages wrong_bits directories indexes row
      from_told row layout this (inl is) = inl (inl (inl (inr (is.0, (of_pages row.home).1 ((extents layout this row.home).0 is.1)))))
      from_told row layout this (inr (inl is)) = inl (inl (inr (is.0, (of_bits row.home).1 ((bitmaps layout this row.home).0 is.1))))
      from_told row layout this (inr (inr (inl is))) =
          inl (inr (is.0, (of_directories row.home).1 (subst (λ (t : Table). IsDirectoryFault pages frame t row.home) (table_is layout this) is.1)))
      from_told row layout this (inr (inr (inr is))) =
          inr (is.0, (of_indexes row.home).1 (subst (λ (t : Table). IsIndexFault pages frame t row.home) (table_is layout this) is.1))

      pub files_told : (row : FaultRow) → IsOfFiles wrong_pages wrong_bits directories indexes row ↔ IsFilesFault pages frame row
      files_told row = (to_told row, λ (layout, same, stands, which). from_told row layout (same, stands) which)

-- ---- all

none_some : {P : Type 0} {X : Type 0} (x : X) → None ≡ Some x → P
none_some x is = absurd (cc)

some_is : {X : Type 0} (o : Option X) (x : X) → o ≡ Some x → IsSome o
some_is o x is = subst IsSome (sym is) refl

module _ (pages : Pages) (frame : Frame) where
  -- a layout names a table
  no_name : frame.anchor.table ≡ None → (row : FaultRow) → ¬ IsFilesFault pages frame row
  no_name none row (layout, same, stands, which) =
      subst (λ o. IsSomeAnd o (λ home. IsSomeAnd (pages home) (λ page. IsTablePage page layout.table))) (ap (λ (f : Frame). f.anchor.table) same ∙ none) stands.table

  nothing : frame.anchor.table ≡ None → (row : FaultRow) → ¬ IsFault pages frame row
  nothing none row (inl is) = none_some row.home (sym none ∙ is.1.at)
  nothing none row (inr (inl is)) = let says = is.1.1 in none_some says.home (sym none ∙ says.at)
  nothing none row (inr (inr is)) = no_name none row is.1

  pub told_unnamed : frame.anchor.table ≡ None → (rows : List FaultRow) → rows ≡ [] → AreRowsOf (IsFault pages frame) rows
  told_unnamed none rows empty =
      subst (AreRowsOf (IsFault pages frame)) (sym empty) (rows_same IsNoRow (IsFault pages frame) [] (λ row. ((λ void. absurd void), (λ is. nothing none row is))) rows_none)

  -- a fault of the table stands alone
  pub told_table : (home : Home) → IsTableFault pages frame home → (rows : List FaultRow) → rows ≡ (record { code = 4; home = home }) ∷ [] → AreRowsOf (IsFault pages frame) rows
  told_table home fault rows one =
      subst (AreRowsOf (IsFault pages frame)) (sym one)
      (rows_same (λ row. row ≡ record { code = 4; home = home }) (IsFault pages frame) ((record { code = 4; home = home }) ∷ [])
      (λ row. (
        (λ same. inl (ap (λ (r : FaultRow). r.code) same, subst (λ (r : FaultRow). IsTableFault pages frame r.home) (sym same) fault)),
        (λ is. ⊎_elim (λ first. (λ i. record { code = first.0 i; home = same_home row.home first.1 i }))
            (λ more. ⊎_elim (λ second. absurd (second.0 home fault)) (λ third. absurd (third.0.table home fault)) more) is),
      )) (rows_alone (record { code = 4; home = home })))
    where
      same_home : (other : Home) → IsTableFault pages frame other → other ≡ home
      same_home other also = some_same other home (sym also.at ∙ fault.at)

  module _ (table : Table) (whole : IsWholeTable pages frame table) where
    -- faults of tables stand without those of files
    pub told_tables : (rows : List FaultRow) → AreRowsOf (IsTablesFault pages frame) rows → ¬ rows ≡ [] → AreRowsOf (IsFault pages frame) rows
    told_tables rows are some =
        rows_same (IsTablesFault pages frame) (IsFault pages frame) rows
        (λ row. (
          (λ is. inr (inl (whole.1, is))),
          (λ is. ⊎_elim (λ first. absurd (whole.1 row.home first.1)) (λ more. ⊎_elim (λ second. second.1) (λ third. absurd (not_all third.0)) more) is),
        )) are
      where
        not_all : HasNoTablesFault pages frame → ⊥
        not_all none = some (empty_by rows (λ row among. none.tables row ((are.each row).0 among)))

    pub no_tables_fault : (rows : List FaultRow) → AreRowsOf (IsTablesFault pages frame) rows → rows ≡ [] → HasNoTablesFault pages frame
    no_tables_fault rows are empty = record {
      table = whole.1;
      tables = λ row is. in_none row (subst (λ (l : List FaultRow). Contains l row) empty ((are.each row).1 is));
    }

    pub named : IsSome frame.anchor.table
    named = some_is frame.anchor.table whole.0.home whole.0.at

    pub told_files : HasNoTablesFault pages frame → (rows : List FaultRow) → AreRowsOf (IsFilesFault pages frame) rows → AreRowsOf (IsFault pages frame) rows
    told_files none rows are =
        rows_same (IsFilesFault pages frame) (IsFault pages frame) rows
        (λ row. (
          (λ is. inr (inr (none, is))),
          (λ is. ⊎_elim (λ first. absurd (none.table row.home first.1)) (λ more. ⊎_elim (λ second. absurd (none.tables row second.1)) (λ third. third.1) more) is),
        )) are

  -- the list that is looked for
  pub all_told : (rows : List FaultRow) → AreRowsOf (IsFault pages frame) rows → AreFaults pages frame rows
  all_told rows are = record { each = are.each; order = are.order }

-- none is told
pub none_told : (pages : Pages) (frame : Frame) → AreFaults pages frame [] → HasNoFault pages frame
none_told pages frame are row fault = in_none row ((are.each row).1 fault)

-- ---- versions

number_is : (version : Version) → (version_number version ≡ 3) ⊎ (version_number version ≡ 4)
number_is Three = inl refl
number_is Four = inr refl

pub one_version : (a b : Version) → version_number a ≡ version_number b → a ≡ b
one_version Three Three same = refl
one_version Three Four same = absurd (omega (arith, same))
one_version Four Three same = absurd (omega (arith, same))
one_version Four Four same = refl

-- a number that none has
pub no_number : (n : ℕ) → ¬ ((n ≡ 3) ⊎ (n ≡ 4)) → (version : Version) → ¬ n ≡ version_number version
no_number n none version same = none (⊎_elim (λ three. inl (same ∙ three)) (λ four. inr (same ∙ four)) (number_is version))
