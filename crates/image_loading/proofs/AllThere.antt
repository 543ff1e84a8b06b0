-- Where the pages of tables, indexes and directories are there, each page is at which the rules look.
use Rattle.std.proofs.Common.{◌≡◌, ◌∙◌, inl, inr, ℕ, ◌<◌, true, false, List, Option, Some, None, IsSome, IsSomeAnd, refl, sym, ap, subst, arith, ⊎_elim}
use Rattle.slot_files.specs.domain_base.declared.place.CellAt.{CellAt}
use Rattle.slot_files.specs.domain_base.declared.place.Home.{Home}
use Rattle.slot_files.specs.page_store.Pages.{Pages}
use Rattle.slot_files.specs.metadata_cells.Chain.{PlacedCell}
use Rattle.slot_files.specs.fileset_table.Page.{IsTablePage}
use Rattle.slot_files.specs.fileset_table.Table.{Table}
use Rattle.slot_files.specs.filesets_reading.Tables.{AreTablesOf}
use Rattle.slot_files.specs.filesets_reading.declared.tables.DomainTables.{DomainTables}
use Rattle.slot_files.specs.domain_layout.Alike.{AgreeOnCells}
use Rattle.slot_files.proofs.OfDomainLayout.CellsAlike.{turned_cells, used_alike}
use Rattle.slot_files.proofs.OfDomainLayout.OnePage.{one_of}
use Rattle.slot_files.specs.domain_layout.DirectoryRules.{Has, HasIndexAt}
use Rattle.slot_files.specs.domain_layout.Faults.{HasNoTablesFault, IsTableFault, SaysTable}
use Rattle.slot_files.specs.domain_layout.Layout.{IsLayout, Layout}
use Rattle.slot_files.specs.domain_layout.Owners.{frame_of}
use Rattle.slot_files.specs.domain_layout.Reached.{Frame, IsWithin, cells_way, index_way, tags_way}
use Rattle.slot_files.specs.domain_layout.TagRules.{HasTags}
use Rattle.image_loading.specs.Tables.{HasTables}
use Rattle.slot_files.specs.domain_layout.Looks.{IsLookedAt, IsOfBitmap, IsOfDirectory, IsOfFiles, IsOfIndex, IsOfTables}
use Rattle.slot_files.proofs.OfDomainLayout.Files.{has_alike}
use Rattle.slot_files.proofs.OfDomainLayout.Owned.{AreTables, layout_alike}
use Rattle.slot_files.proofs.OfDomainLayout.TablesAgree.{AgreeOnTables, no_tables_alike, says_alike, table_fault_alike, turned_tables}
use Rattle.slot_files.specs.sorted_sets.Members.{IsIn}
use Rattle.slot_files.specs.sorted_sets.declared.home_set.HomeSet.{HomeSet}
use Rattle.image_loading.specs.Indexes.{HasIndexes}
use Rattle.slot_files.specs.fileset_shapes.Within.{IsInside}
use Rattle.image_loading.specs.Loading.{HasCells, HasTagPages, HasWhereRulesLook}
use Rattle.image_loading.proofs.Walking.{page_stays, way_stays}
use Rattle.slot_files.specs.cell_faults.Read.{IsTableRead}
use Rattle.slot_files.specs.cell_faults.declared.reading.TableRead.{TableRead}
use Rattle.slot_files.specs.cell_faults.declared.reading.TableRead.TheVariants.{There, Unnamed, Wrong}
use Rattle.image_loading.specs.Loaded.{BringsFiles, HoldsDirectories, IsLaidOut}
use Rattle.image_loading.proofs.NoneBroken.{one_table}

abbrev IsSaid : Pages → Frame → Type 0
IsSaid pages frame = (home : Home) → ¬ IsTableFault pages frame home

-- ---- pages of tables

pub cells_there : (pages : Pages) (frame : Frame) → HasTables pages frame → IsSaid pages frame → HasCells pages frame
cells_there pages frame has said vol member passed home reached may = has.tables said home (inl (record { vol = vol; member = member; come = record { passed = passed; reached = reached; may = may } }))

tags_there : (pages : Pages) (frame : Frame) → HasTables pages frame → IsSaid pages frame → (table : Table) → SaysTable pages frame table → HasTagPages pages frame table
tags_there pages frame has said table says number first tags passed home reached may =
    has.tables said home (inr (record { table = table; says = says; number = number; first = first; has = tags; come = record { passed = passed; reached = reached; may = may } }))

-- ---- the table and the layout that pages say

says_in : (pages : Pages) (layout : Layout) → IsLayout pages layout → SaysTable pages (frame_of layout) layout.table
says_in pages layout laid =
    let said = one_of layout.anchor.table (λ home. IsSomeAnd (pages home) (λ page. IsTablePage page layout.table)) laid.table in
    record { home = said.value; at = said.there; there = said.is }

-- the tables that were read are those that the pages say
pub table_read : (pages : Pages) (frame : Frame) (tables : DomainTables) → AreTablesOf pages frame tables → (table : Table) → SaysTable pages frame table → table ≡ tables.filesets
table_read pages frame tables are table says =
    one_table pages frame table are.layout.table says (subst (λ f. SaysTable pages f are.layout.table) are.is (says_in pages are.layout are.laid)) ∙ are.table

pub laid_out : (pages : Pages) (frame : Frame) (tables : DomainTables) → AreTablesOf pages frame tables → IsLaidOut pages frame
laid_out pages frame tables are = record { layout = are.layout; is = are.is; laid = are.laid }

-- so a set of the homes of their directories has that of each page of one
pub directory_held : (pages : Pages) (frame : Frame) (tables : DomainTables) (set : HomeSet) → AreTablesOf pages frame tables → ((number : ℕ) → HoldsDirectories pages frame tables.filesets number set) → (home : Home) → IsOfDirectory pages frame home → IsIn set home
directory_held pages frame tables set are holds home d =
    let same : d.table ≡ tables.filesets = table_read pages frame tables are d.table d.says in
    holds d.number d.dir d.cells d.seen (subst (λ t. Has pages t d.number d.dir d.cells d.seen) same d.has) d.kind d.page home d.at d.within

-- ---- where pages are added

module _ (old new : Pages) (frame : Frame) (kept : (home : Home) → IsSome (old home) → new home ≡ old home) where
  -- a cell that names an index named it before
  named_before : HasCells old frame → (at : CellAt) (first : Home) → HasIndexAt new frame at first → HasIndexAt old frame at first
  named_before has at first is =
      let agree : AgreeOnCells old new frame = λ vol member passed home reached may. sym (kept home (has vol member passed home reached may)) in
      record {
        cell = is.cell;
        is = used_alike new old frame (turned_cells old new frame agree) at is.cell is.is;
        value = is.value;
        there = is.there;
        begins = is.begins;
      }

  -- indexes that are there stay
  pub indexes_stay : HasCells old frame → HasIndexes old frame → HasIndexes new frame
  indexes_stay cells has at first is = way_stays old new frame kept (index_way first) (has at first (named_before cells at first is))

  pub cells_stay : HasCells old frame → HasCells new frame
  cells_stay cells vol member = way_stays old new frame kept (cells_way frame vol) (cells vol member)

  module _ (has : HasTables old frame) (inside : IsInside frame) where
    same : (home : Home) → frame.anchor.table ≡ Some home → old home ≡ new home
    same home at = sym (kept home (has.table home at (inside.table home at)))

    said_back : IsSaid new frame → IsSaid old frame
    said_back said home fault = said home (table_fault_alike old new frame same home fault)

    agree : IsSaid old frame → AgreeOnTables old new frame
    agree said = record {
      table = same;
      cells = λ vol member passed home reached may. sym (kept home (cells_there old frame has said vol member passed home reached may));
      tags = λ table says number first tags passed home reached may. sym (kept home (tags_there old frame has said table says number first tags passed home reached may));
    }

    of_tables : IsSaid new frame → (home : Home) → IsOfTables new frame home → IsSome (new home)
    of_tables said home of =
        ⊎_elim (λ c. way_stays old new frame kept (cells_way frame c.vol) (cells_there old frame has (said_back said) c.vol c.member) c.come.passed home c.come.reached c.come.may)
        (λ t.
        let says : SaysTable old frame t.table = says_alike new old frame (λ home at. sym (same home at)) t.table t.says in
        way_stays old new frame kept (tags_way t.first) (tags_there old frame has (said_back said) t.table says t.number t.first t.has) t.come.passed home t.come.reached t.come.may) of

    of_bitmap : IsSaid new frame → (home : Home) → IsOfBitmap frame home → IsSome (new home)
    of_bitmap said home of =
        let within : IsWithin frame home = (of.member, omega (arith, of.last, inside.bitmaps home.vol of.member)) in
        page_stays old new frame kept home (has.bitmaps (said_back said) home of within)

    none_back : HasNoTablesFault new frame → HasNoTablesFault old frame
    none_back none = no_tables_alike new old frame (turned_tables old new frame (agree (said_back none.table))) none

-- a page of a directory was one before
directory_back : (old new : Pages) (layout : Layout) → AgreeOnTables old new (frame_of layout) → HasNoTablesFault old (frame_of layout) → IsLayout old layout → (home : Home) → IsOfDirectory new (frame_of layout) home → IsOfDirectory old (frame_of layout) home
directory_back old new layout agree none laid home d =
    let ahead : AreTables old new layout = record { laid = laid; none = none; table = agree.table; cells = agree.cells; tags = agree.tags layout.table (says_in old layout laid) } in
    let laid_new : IsLayout new layout = layout_alike old new layout ahead in
    let back = turned_tables old new (frame_of layout) agree in
    let says_new = says_in new layout laid_new in
    let behind : AreTables new old layout = record { laid = laid_new; none = no_tables_alike old new (frame_of layout) agree none; table = back.table; cells = back.cells; tags = back.tags layout.table says_new } in
    let same : d.table ≡ layout.table = one_table new (frame_of layout) d.table layout.table d.says says_new in
    record {
      table = layout.table;
      says = says_in old layout laid;
      number = d.number;
      dir = d.dir;
      cells = d.cells;
      seen = d.seen;
      has = has_alike new old layout behind d.number d.dir d.cells d.seen (subst (λ t. Has new t d.number d.dir d.cells d.seen) same d.has);
      kind = d.kind;
      page = d.page;
      at = d.at;
      within = d.within;
    }

directory_before : (old new : Pages) (frame : Frame) → IsLaidOut old frame → AgreeOnTables old new frame → HasNoTablesFault old frame → (home : Home) → IsOfDirectory new frame home → IsOfDirectory old frame home
directory_before old new frame laid_out agree none =
    subst (λ f. AgreeOnTables old new f → HasNoTablesFault old f → (home : Home) → IsOfDirectory new f home → IsOfDirectory old f home) laid_out.is
    (λ tables no_fault home d. directory_back old new laid_out.layout tables no_fault laid_out.laid home d) agree none

-- ---- all pages at which the rules look

pub all_there : (old new : Pages) (frame : Frame) → ((home : Home) → IsSome (old home) → new home ≡ old home) → HasTables old frame → IsInside frame → (HasNoTablesFault old frame → BringsFiles old new frame) → HasWhereRulesLook new frame
all_there old new frame kept has inside files home looked =
    ⊎_elim (λ at. page_stays old new frame kept home (has.table home at (inside.table home at)))
    (λ more. ⊎_elim (λ t. of_tables old new frame kept has inside t.0 home t.1) (λ f. of_files f.0 f.1) more) looked
  where
    of_files : HasNoTablesFault new frame → IsOfFiles new frame home → IsSome (new home)
    of_files none of =
        let none_old = none_back old new frame kept has inside none in
        let brings = files none_old in
        ⊎_elim (λ b. of_bitmap old new frame kept has inside none.table home b)
        (λ more. ⊎_elim (λ i. brings.indexes i.at i.first i.has i.come.passed home i.come.reached i.come.may)
        (λ d. brings.directories home (directory_before old new frame brings.laid_out (agree old new frame kept has inside none_old.table) none_old home d)) more) of

-- where the page of the fileset table says no table that breaks no rule, a rule of tables is broken
pub no_files : (pages : Pages) (frame : Frame) (read : TableRead) → IsSome frame.anchor.table → IsTableRead pages frame read → HasNoTablesFault pages frame → ((table : Table) → read ≡ There table → ⊥) → ⊥
no_files pages frame Unnamed named is none never = let e : false ≡ true = subst IsSome is named in absurd (cc)
no_files pages frame (Wrong home) named is none never = none.table home is
no_files pages frame (There table) named is none never = never table refl
