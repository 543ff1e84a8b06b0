-- What was read of the fileset table stays so where pages are added, and what is there by it.
use Rattle.std.proofs.Common.{◌≡◌, ◌∙◌, ◌⊎◌, Some, None, IsSome, IsSomeAnd, refl, sym, ap, subst, ⊎_elim}
use Rattle.slot_files.specs.domain_base.declared.place.Home.{Home}
use Rattle.slot_files.specs.page_store.Pages.{Pages}
use Rattle.slot_files.specs.fileset_table.Page.{IsTablePage}
use Rattle.slot_files.specs.fileset_table.Table.{Table}
use Rattle.slot_files.proofs.OfFilesetTable.Unique.{table_unique}
use Rattle.slot_files.specs.domain_layout.Faults.{IsTableFault, SaysTable}
use Rattle.slot_files.specs.domain_layout.Reached.{Frame, IsWithin}
use Rattle.slot_files.specs.domain_layout.TagRules.{HasTags}
use Rattle.slot_files.proofs.OfDomainLayout.OnePage.{one_of, some_same}
use Rattle.slot_files.specs.domain_layout.Looks.{IsOfBitmap, IsOfTables}
use Rattle.slot_files.proofs.OfDomainLayout.TablesAgree.{says_alike, table_fault_alike}
use Rattle.image_loading.specs.Loading.{HasTablePage}
use Rattle.image_loading.proofs.Brought.{some_there}
use Rattle.image_loading.proofs.Walking.{page_stays}
use Rattle.slot_files.specs.cell_faults.Read.{IsTableRead, wrong_home_of}
use Rattle.slot_files.specs.cell_faults.declared.reading.TableRead.{TableRead}
use Rattle.slot_files.specs.cell_faults.declared.reading.TableRead.TheVariants.{There, Unnamed, Wrong}
use Rattle.image_loading.specs.Tables.{HasNamed, HasTables}

-- two tables that pages say are one
one_table : (pages : Pages) (frame : Frame) (a b : Table) → SaysTable pages frame a → SaysTable pages frame b → a ≡ b
one_table pages frame a b says also =
    let homes : also.home ≡ says.home = some_same also.home says.home (sym also.at ∙ says.at) in
    let page = one_of (pages says.home) (λ page. IsTablePage page a) says.there in
    let there : IsSomeAnd (pages says.home) (λ page. IsTablePage page b) = subst (λ h. IsSomeAnd (pages h) (λ page. IsTablePage page b)) homes also.there in
    table_unique page.value a b page.is (subst (λ o. IsSomeAnd o (λ page. IsTablePage page b)) page.there there)

module _ (pages more : Pages) (frame : Frame) (kept : (home : Home) → IsSome (pages home) → more home ≡ pages home) where
  -- the page that says the table stays
  same_table : (table : Table) → SaysTable pages frame table → (home : Home) → frame.anchor.table ≡ Some home → pages home ≡ more home
  same_table table says home at =
      let homes : home ≡ says.home = some_same home says.home (sym at ∙ says.at) in
      let page = one_of (pages says.home) (λ page. IsTablePage page table) says.there in
      sym (kept home (some_there (pages home) page.value (ap pages homes ∙ page.there)))

  pub read_stays : (read : TableRead) → (IsSome (wrong_home_of read) → more ≡ pages) → IsTableRead pages frame read → IsTableRead more frame read
  read_stays Unnamed same is = is
  read_stays (Wrong home) same is = subst (λ p. IsTableFault p frame home) (sym (same refl)) is
  read_stays (There table) same is = (
    says_alike pages more frame (same_table table is.0) table is.0,
    (λ home fault. is.1 home (table_fault_alike more pages frame (λ h at. sym (same_table table is.0 h at)) home fault)),
  )

  pub has_tables : (read : TableRead) → HasTablePage pages frame → IsTableRead more frame read → (wrong_home_of read ≡ None → HasNamed more frame read) → HasTables more frame
  has_tables read table is named = record {
    table = λ home at within. page_stays pages more frame kept home (table home at within);
    tables = λ sound home of. of_tables read is named sound home of;
    bitmaps = λ sound home of within. of_bitmap read is named sound home of within;
  }
    where
      of_tables : (read : TableRead) → IsTableRead more frame read → (wrong_home_of read ≡ None → HasNamed more frame read) → ((home : Home) → ¬ IsTableFault more frame home) → (home : Home) → IsOfTables more frame home → IsSome (more home)
      of_tables Unnamed is named sound home of =
          ⊎_elim (λ c. (named refl).cells c.vol c.member c.come.passed home c.come.reached c.come.may)
          (λ t. absurd (let e : None ≡ Some t.says.home = sym is ∙ t.says.at in absurd (cc))) of
      of_tables (Wrong at) is named sound home of = absurd (sound at is)
      of_tables (There table) is named sound home of =
          ⊎_elim (λ c. (named refl).cells c.vol c.member c.come.passed home c.come.reached c.come.may)
          (λ t.
          let same : t.table ≡ table = one_table more frame t.table table t.says is.0 in
          (named refl).tags table refl t.number t.first (subst (λ x. HasTags x t.number t.first) same t.has) t.come.passed home t.come.reached t.come.may) of

      of_bitmap : (read : TableRead) → IsTableRead more frame read → (wrong_home_of read ≡ None → HasNamed more frame read) → ((home : Home) → ¬ IsTableFault more frame home) → (home : Home) → IsOfBitmap frame home → IsWithin frame home → IsSome (more home)
      of_bitmap Unnamed is named sound home of within = (named refl).bitmaps home.vol home.page of.first of.last within
      of_bitmap (Wrong at) is named sound home of within = absurd (sound at is)
      of_bitmap (There table) is named sound home of within = (named refl).bitmaps home.vol home.page of.first of.last within
