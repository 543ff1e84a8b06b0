-- Pages that agree where the rules look have the same faults.
use Rattle.std.proofs.Common.{◌≡◌, ◌∙◌, ◌⊎◌, ◌↔◌, inl, inr, List, Some, IsSomeAnd, sym, subst, arith, ⊎_elim}
use Rattle.file_release.specs.domain_base.declared.place.Home.{Home}
use Rattle.file_release.specs.page_store.Pages.{Pages}
use Rattle.fileset_table.specs.Page.{IsTablePage}
use Rattle.domain_layout.specs.DirectoryRules.{IsDirectoryFault, IsIndexFault}
use Rattle.domain_layout.specs.Faults.{AreFaults, FaultRow, HasNoTablesFault, IsFault, IsFilesFault, IsTableFault, SaysTable}
use Rattle.domain_layout.specs.Layout.{IsLayout, Layout}
use Rattle.domain_layout.specs.Owners.{frame_of}
use Rattle.domain_layout.specs.PageRules.{IsBitmapFault, IsExtentFault}
use Rattle.domain_layout.specs.Reached.{Frame}
use Rattle.domain_layout.proofs.OnePage.{one_of}
use Rattle.domain_layout.specs.Looks.{AgreeWhereRulesLook}
use Rattle.domain_layout.proofs.Indexes.{index_fault_alike}
use Rattle.domain_layout.proofs.Owned.{AreTables, extent_fault_alike, layout_alike, owned_alike}
use Rattle.domain_layout.proofs.RowsRead.{directory_fault_alike}
use Rattle.domain_layout.proofs.Sides.{AreSides, flipped}
use Rattle.domain_layout.proofs.TablesAgree.{AgreeOnTables, no_tables_alike, table_fault_alike, tables_fault_alike, turned_tables}

-- ---- the rules of files, for one layout

abbrev Broken : Pages → Frame → Layout → FaultRow → Type 0
Broken pages frame layout row =
    ((row.code ≡ 7) × IsExtentFault pages layout row.home)
    ⊎ ((row.code ≡ 8) × IsBitmapFault pages layout row.home)
    ⊎ ((row.code ≡ 9) × IsDirectoryFault pages frame layout.table row.home)
    ⊎ ((row.code ≡ 10) × IsIndexFault pages frame layout.table row.home)

module _ (one other : Pages) (layout : Layout) (s : AreSides one other layout) where
  back : AreSides other one layout
  back = flipped one other layout s

  -- code 8
  bitmap_fault_alike : (home : Home) → IsBitmapFault one layout home → IsBitmapFault other layout home
  bitmap_fault_alike home w = record {
    member = w.member;
    number = w.number;
    within = w.within;
    at = w.at;
    bytes = w.bytes;
    there = sym (s.bitmaps home (record { member = w.member; first = omega (arith, w.at); last = omega (arith, w.at, w.within) })) ∙ w.there;
    bit = w.bit;
    some = w.some;
    wrong = λ right. w.wrong (
      (λ set. ⊎_elim (λ owned. inl (owned_alike other one layout s.behind back.indexes _ owned)) (λ out. inr out) (right.0 set)),
      (λ which. right.1 (⊎_elim (λ owned. inl (owned_alike one other layout s.ahead s.indexes _ owned)) (λ out. inr out) which)),
    );
  }

  broken_alike : (row : FaultRow) → Broken one (frame_of layout) layout row → Broken other (frame_of layout) layout row
  broken_alike row fault =
      ⊎_elim (λ w. inl (w.0, extent_fault_alike one other layout s.ahead s.indexes row.home w.1))
      (λ a. inr (⊎_elim (λ w. inl (w.0, bitmap_fault_alike row.home w.1))
      (λ b. inr (⊎_elim (λ w. inl (w.0, directory_fault_alike one other layout s row.home w.1))
      (λ w. inr (w.0, index_fault_alike one other layout s row.home w.1)) b)) a))
      fault

-- ---- both sides

says_in : (pages : Pages) (layout : Layout) → IsLayout pages layout → SaysTable pages (frame_of layout) layout.table
says_in pages layout laid =
    let said = one_of layout.anchor.table (λ home. IsSomeAnd (pages home) (λ page. IsTablePage page layout.table)) laid.table in
    record { home = said.value; at = said.there; there = said.is }

tables_by : (one other : Pages) (layout : Layout) → AgreeOnTables one other (frame_of layout) → HasNoTablesFault one (frame_of layout) → IsLayout one layout → AreTables one other layout
tables_by one other layout agree none laid = record {
  laid = laid;
  none = none;
  table = agree.table;
  cells = agree.cells;
  tags = agree.tags layout.table (says_in one layout laid);
}

abbrev IsSaid : Pages → Frame → Type 0
IsSaid pages frame = (home : Home) → ¬ IsTableFault pages frame home

module _ (one other : Pages) (frame : Frame) (agree : AgreeWhereRulesLook one other frame) where
  table_same : (home : Home) → frame.anchor.table ≡ Some home → one home ≡ other home
  table_same home at = agree home (inl at)

  said_alike : IsSaid other frame → IsSaid one frame
  said_alike said home fault = said home (table_fault_alike one other frame table_same home fault)

  tables_ahead : IsSaid one frame → AgreeOnTables one other frame
  tables_ahead said = record {
    table = table_same;
    cells = λ vol member passed home reached may.
        agree home (inr (inl (said, inl (record { vol = vol; member = member; come = record { passed = passed; reached = reached; may = may } }))));
    tags = λ table says number first has passed home reached may.
        agree home (inr (inl (said, inr (record { table = table; says = says; number = number; first = first; has = has; come = record { passed = passed; reached = reached; may = may } }))));
  }

  tables_behind : IsSaid other frame → AgreeOnTables other one frame
  tables_behind said = turned_tables one other frame (tables_ahead (said_alike said))

module _ (one other : Pages) (layout : Layout) (agree : AgreeWhereRulesLook one other (frame_of layout)) where
  pub sides : HasNoTablesFault one (frame_of layout) → IsLayout one layout → AreSides one other layout
  sides none laid =
      let tables = tables_ahead one other (frame_of layout) agree none.table in
      let ahead = tables_by one other layout tables none laid in
      let none_there = no_tables_alike one other (frame_of layout) tables none in
      record {
        ahead = ahead;
        behind = tables_by other one layout (turned_tables one other (frame_of layout) tables) none_there (layout_alike one other layout ahead);
        bitmaps = λ home is. agree home (inr (inr (none, inl is)));
        indexes = λ at first has passed home reached may.
            agree home (inr (inr (none, inr (inl (record { at = at; first = first; has = has; come = record { passed = passed; reached = reached; may = may } })))));
        directories = λ number dir cells seen page home has kind at within.
            agree home (inr (inr (
              none,
              inr (inr (record {
                table = layout.table;
                says = says_in one layout laid;
                number = number;
                dir = dir;
                cells = cells;
                seen = seen;
                has = has;
                kind = kind;
                page = page;
                at = at;
                within = within;
              })),
            )));
      }

  ahead_at : (row : FaultRow) → HasNoTablesFault one (frame_of layout) → IsLayout one layout → Broken one (frame_of layout) layout row → IsLayout other layout × Broken other (frame_of layout) layout row
  ahead_at row none laid fault = let s = sides none laid in (s.behind.laid, broken_alike one other layout s row fault)

  behind_at : (row : FaultRow) → HasNoTablesFault other (frame_of layout) → IsLayout other layout → Broken other (frame_of layout) layout row → IsLayout one layout × Broken one (frame_of layout) layout row
  behind_at row none laid fault =
      let tables = tables_behind one other (frame_of layout) agree none.table in
      let laid_one = layout_alike other one layout (tables_by other one layout tables none laid) in
      let s = sides (no_tables_alike other one (frame_of layout) tables none) laid_one in
      (laid_one, broken_alike other one layout (flipped one other layout s) row fault)

-- ---- the rules of files, for any

module _ (one other : Pages) (frame : Frame) (agree : AgreeWhereRulesLook one other frame) (row : FaultRow) where
  files_ahead : HasNoTablesFault one frame → IsFilesFault one frame row → IsFilesFault other frame row
  files_ahead none (layout, same, laid, fault) =
      let found =
      subst (λ f. AgreeWhereRulesLook one other f → HasNoTablesFault one f → IsLayout one layout → Broken one f layout row → IsLayout other layout × Broken other f layout row) same
      (λ looks. ahead_at one other layout looks row) agree none laid fault in
      (layout, same, found.0, found.1)

  files_behind : HasNoTablesFault other frame → IsFilesFault other frame row → IsFilesFault one frame row
  files_behind none (layout, same, laid, fault) =
      let found =
      subst (λ f. AgreeWhereRulesLook one other f → HasNoTablesFault other f → IsLayout other layout → Broken other f layout row → IsLayout one layout × Broken one f layout row) same
      (λ looks. behind_at one other layout looks row) agree none laid fault in
      (layout, same, found.0, found.1)

-- ---- all rules

fault_by : (one other : Pages) (frame : Frame) → ((home : Home) → frame.anchor.table ≡ Some home → one home ≡ other home) → (IsSaid one frame → AgreeOnTables one other frame)
    → (row : FaultRow) → (HasNoTablesFault one frame → IsFilesFault one frame row → IsFilesFault other frame row) → IsFault one frame row → IsFault other frame row
fault_by one other frame same tables row files fault =
    ⊎_elim (λ w. inl (w.0, table_fault_alike one other frame same row.home w.1))
    (λ more. inr (⊎_elim (λ w. inl (
      (λ home wrong. w.0 home (table_fault_alike other one frame (λ at is. sym (same at is)) home wrong)),
      tables_fault_alike one other frame (tables w.0) row w.1,
    ))
    (λ w. inr (no_tables_alike one other frame (tables w.0.table) w.0, files w.0 w.1)) more))
    fault

pub same_faults : (one other : Pages) (frame : Frame) (row : FaultRow) → AgreeWhereRulesLook one other frame → IsFault one frame row ↔ IsFault other frame row
same_faults one other frame row agree = (
  fault_by one other frame (table_same one other frame agree) (tables_ahead one other frame agree) row (files_ahead one other frame agree row),
  fault_by other one frame (λ home at. sym (table_same one other frame agree home at)) (tables_behind one other frame agree) row (files_behind one other frame agree row),
)

pub same_lists : (one other : Pages) (frame : Frame) (rows : List FaultRow) → AgreeWhereRulesLook one other frame → AreFaults one frame rows ↔ AreFaults other frame rows
same_lists one other frame rows agree = (
  (λ are. record {
    each = λ row. ((λ among. (same_faults one other frame row agree).0 ((are.each row).0 among)), (λ fault. (are.each row).1 ((same_faults one other frame row agree).1 fault)));
    order = are.order;
  }),
  (λ are. record {
    each = λ row. ((λ among. (same_faults one other frame row agree).1 ((are.each row).0 among)), (λ fault. (are.each row).1 ((same_faults one other frame row agree).0 fault)));
    order = are.order;
  }),
)
