-- Where no rule is broken, no page has two owners.
use Rattle.std.proofs.Common.{◌≡◌, ◌∙◌, ◌⊎◌, inl, inr, ℕ, zero, suc, ◌+◌, ◌<◌, ◌≤◌, Bool, true, false, cond, nat_eq, List, [], ◌∷◌, ◌++◌, length, length-append, Option, Some, None, Contains, IfSome, IsSomeAnd, slice_get, slice_index, refl, sym, ap, subst, arith, ⊎_elim}
use Rattle.std.proofs.lemmas.Bool.{cases_Bool, cases_order, eqb-true, le-leb, or_cases}
use Rattle.std.specs.Prelude.{slice_index_or}
use Rattle.std.specs.Option.{option_map}
use Rattle.file_release.specs.domain_base.declared.place.CellAt.{CellAt}
use Rattle.file_release.specs.domain_base.declared.place.Home.{Home}
use Rattle.file_release.specs.page_store.Pages.{Pages, same_home}
use Rattle.file_release.specs.cell_records.Fields.{number_at}
use Rattle.log_recovery.specs.Range.{IsLogInside}
use Rattle.file_release.specs.metadata_cells.Cell.{Cell, record_of}
use Rattle.file_release.specs.metadata_cells.CellPage.{home_of, next_of}
use Rattle.file_release.proofs.OfMetadataCells.Changed.{homes_same}
use Rattle.file_release.proofs.OfMetadataCells.Unique.{one_stands}
use Rattle.file_release.specs.tag_dirs.Directory.{IsDirectoryAt, IsPageOf, has_home, home_behind}
use Rattle.file_release.specs.tag_dirs.TagPage.{next_of as next_home}
use Rattle.file_release.specs.tag_dirs.declared.dir.TagPlace.{TagPlace}
use Rattle.file_release.specs.fileset_files.Shown.{index_in}
use Rattle.fileset_table.specs.Page.{IsTablePage}
use Rattle.domain_layout.specs.CellRules.{IsCellsFault, IsCellsPage, IsUsed}
use Rattle.domain_layout.specs.DirectoryRules.{HasIndexAt, IsIndexFault}
use Rattle.domain_layout.specs.Faults.{FaultRow, HasNoFault, HasNoTablesFault, IsFilesFault, SaysTable}
use Rattle.domain_layout.proofs.NoTables.{none_of_tables}
use Rattle.domain_layout.specs.Layout.{AreTagPlaces, IsLayout, IsPageAt, Layout, first_tag_of}
use Rattle.domain_layout.specs.Owners.{BelongsTo, HasExtent, HasIndexPage, HasTagPage, IsOnTable, IsOwnedOnce, Owner, frame_of}
use Rattle.domain_layout.specs.Owners.Owner.{of_cells, of_file, of_index, of_log, of_table, of_tags, of_volume}
use Rattle.domain_layout.specs.PageRules.{IsExtentFault}
use Rattle.domain_layout.specs.Reached.{IsRead, IsReserved, IsUnread, Reaches, begins, on_volume, cells_way, first_cells, goes_on, index_way, tags_way}
use Rattle.domain_layout.specs.TagRules.{HasTags, IsTagsFault, IsTagsPage}
use Rattle.domain_layout.proofs.OnePage.{HasOne, one_of, some_same}
use Rattle.domain_layout.proofs.OneTable.{within_page}
use Rattle.domain_layout.proofs.Reached.{is_read, read_after, reached_once, same_number}
use Rattle.log_recovery.specs.log_ring.Homes.{IsMember}

-- ---- lists

any_default : (xs : List ℕ) (k d : ℕ) → k < length xs → slice_index_or xs k d ≡ slice_index xs k
any_default [] k d within = absurd (omega (arith, within))
any_default (x ∷ xs) zero d within = refl
any_default (x ∷ xs) (suc k) d within = any_default xs k d (omega (arith, within))

first_at : (xs : List ℕ) (first : ℕ) → slice_get xs 0 ≡ Some first → slice_index xs 0 ≡ first
first_at [] first is = absurd (let e : None ≡ Some first = is in absurd (cc))
first_at (x ∷ xs) first is = some_same x first is

place_in : (places : List TagPlace) (home : Home) → has_home places home ≡ true → (k : ℕ) × (p : TagPlace) × (slice_get places k ≡ Some p) × (p.home ≡ home)
place_in [] home is = absurd (let e : false ≡ true = is in absurd (cc))
place_in (p ∷ ps) home is =
    ⊎_elim (λ same. (0, p, refl, sym (homes_same home p.home same)))
    (λ more. let found = place_in ps home more in (suc found.0, found.1, found.2, found.3)) (or_cases (same_home home p.home) (has_home ps home) is)

before_in : (places : List TagPlace) (k : ℕ) (p : TagPlace) → slice_get places (suc k) ≡ Some p → (q : TagPlace) × (slice_get places k ≡ Some q)
before_in [] k p is = absurd (let e : None ≡ Some p = is in absurd (cc))
before_in (q ∷ ps) zero p is = (q, refl)
before_in (q ∷ ps) (suc k) p is = before_in ps k p is

-- ---- owners that are the same or not

pub same_cell : (a b : CellAt) → (a ≡ b) ⊎ ¬ a ≡ b
same_cell a b =
    ⊎_elim (λ vol. ⊎_elim (λ page. ⊎_elim (λ cell. inl (λ i. record { vol = vol i; page = page i; cell = cell i }))
    (λ other. inr (λ same. other (ap (λ (c : CellAt). c.cell) same))) (same_number a.cell b.cell))
    (λ other. inr (λ same. other (ap (λ (c : CellAt). c.page) same))) (same_number a.page b.page))
    (λ other. inr (λ same. other (ap (λ (c : CellAt). c.vol) same))) (same_number a.vol b.vol)

-- a page that belongs to a table begins as one of its kind, and where none is reserved
record Stands (pages : Pages) (layout : Layout) (magic : ℕ) (home : Home) : Type 0 where
  page : List ℕ
  there : pages home ≡ Some page
  so : number_at 4 0 page ≡ magic
  free : ¬ IsReserved (frame_of layout) home

one_magic : (pages : Pages) (layout : Layout) (m n : ℕ) (home : Home) → Stands pages layout m home → Stands pages layout n home → m ≡ n
one_magic pages layout m n home a b = sym a.so ∙ ap (number_at 4 0) (some_same a.page b.page (sym a.there ∙ b.there)) ∙ b.so

-- ---- the next page of tags or of an index

pub on_a_volume : (page : List ℕ) (home : Home) → next_home page ≡ Some home → number_at 4 8 page ≤ 8 → on_volume (next_home page) ≡ Some home
on_a_volume page home next small =
    ap on_volume next ∙ ap (λ b. cond b (Some home) None) (le-leb home.vol 8 (by_test (nat_eq (number_at 4 8 page) 0) refl))
  where
    by_test : (b : Bool) → nat_eq (number_at 4 8 page) 0 ≡ b → home.vol ≤ 8
    by_test true zero_there = absurd (let e : None ≡ Some home = sym (ap (λ b. cond b None (Some (record { vol = number_at 4 8 page; page = number_at 4 12 page }))) zero_there) ∙ next in absurd (cc))
    by_test false some =
        let same = some_same (record { vol = number_at 4 8 page; page = number_at 4 12 page }) home (sym (ap (λ b. cond b None (Some (record { vol = number_at 4 8 page; page = number_at 4 12 page }))) some) ∙ next) in
        let vol : number_at 4 8 page ≡ home.vol = ap (λ (h : Home). h.vol) same in
        omega (arith, vol, small)

-- ---- where no rule of tables is broken

module _ (pages : Pages) (layout : Layout) (laid : IsLayout pages layout) (none : HasNoTablesFault pages (frame_of layout)) where
  table_one : HasOne layout.anchor.table (λ home. IsSomeAnd (pages home) (λ page. IsTablePage page layout.table))
  table_one = one_of layout.anchor.table (λ home. IsSomeAnd (pages home) (λ page. IsTablePage page layout.table)) laid.table

  pub table_at : (home : Home) × (layout.anchor.table ≡ Some home)
  table_at = (table_one.value, table_one.there)

  says : SaysTable pages (frame_of layout) layout.table
  says = record { home = table_one.value; at = table_one.there; there = table_one.is }

  pub no_cells : (home : Home) → ¬ IsCellsFault pages (frame_of layout) layout.table home
  no_cells home fault = none.tables (record { code = 5; home = home }) (layout.table, says, inl (refl, fault))

  pub no_tags : (home : Home) → ¬ IsTagsFault pages (frame_of layout) layout.table home
  no_tags home fault = none.tables (record { code = 6; home = home }) (layout.table, says, inr (refl, fault))

  -- ---- pages of cells

  pub cells_read : (vol : ℕ) → IsMember layout.anchor vol → (home : Home) → ¬ IsUnread pages (frame_of layout) (cells_way (frame_of layout) vol) home
  cells_read vol member home unread = no_cells home (inl (record { vol = vol; member = member; unread = unread }))

  cell_home : ℕ → ℕ → Home
  cell_home vol k = record { vol = vol; page = slice_index (layout.cells vol) k }

  record ComesTo (vol k : ℕ) : Type 0 where
    passed : List Home
    reached : Reaches pages (frame_of layout) (cells_way (frame_of layout) vol) passed (record { vol = vol; page = slice_index (layout.cells vol) k })
    behind : length passed ≡ k

  comes_to : (vol k : ℕ) → IsMember layout.anchor vol → k < length (layout.cells vol) → ComesTo vol k
  comes_to vol zero member within =
      let first = first_at (layout.cells vol) (first_cells (frame_of layout) vol) (laid.cells vol member).begins in
      record {
        passed = [];
        reached = subst (λ p. Reaches pages (frame_of layout) (cells_way (frame_of layout) vol) [] (record { vol = vol; page = p })) (sym first) begins;
        behind = refl;
      }
  comes_to vol (suc k) member within =
      let table = layout.cells vol in
      let stands = laid.cells vol member in
      let earlier = comes_to vol k member (omega (arith, within)) in
      let read = read_after pages (frame_of layout) (cells_way (frame_of layout) vol) (cells_read vol member) earlier.passed (record { vol = vol; page = slice_index table k }) earlier.reached in
      let at : IsPageAt table k read.page = subst (λ o. IsSomeAnd o (IsPageAt table k)) read.there (stands.each k (omega (arith, within))) in
      let e : k + 1 ≡ suc k = omega arith in
      let next : next_of read.page ≡ slice_index table (suc k) = at.linked ∙ ap (slice_index table) e in
      let some : nat_eq (next_of read.page) 0 ≡ false =
      ⊎_elim (λ zero_there. absurd (stands.some (suc k) within (sym next ∙ eqb-true (next_of read.page) 0 zero_there))) (λ is. is) (cases_Bool (nat_eq (next_of read.page) 0)) in
      record {
        passed = earlier.passed ++ (record { vol = vol; page = slice_index table k }) ∷ [];
        reached = goes_on earlier.passed (record { vol = vol; page = slice_index table k }) (record { vol = vol; page = slice_index table (suc k) }) read.page
            earlier.reached read.may read.fresh read.there read.so
            (ap (λ b. cond b None (Some (record { vol = vol; page = next_of read.page }))) some ∙ ap (λ p. Some (record { vol = vol; page = p })) next);
        behind = length-append earlier.passed ((record { vol = vol; page = slice_index table k }) ∷ []) ∙ omega (arith, earlier.behind);
      }

  pub record IsCellPlace (home : Home) : Type 0 where
    pub place : ℕ
    pub page : List ℕ
    pub is : IsCellsPage pages (frame_of layout) place home page

  pub cell_place : (home : Home) → IsMember layout.anchor home.vol → Contains (layout.cells home.vol) home.page → IsCellPlace home
  cell_place home member (k, within, is) =
      let at : slice_index (layout.cells home.vol) k ≡ home.page = sym (any_default (layout.cells home.vol) k home.page within) ∙ is in
      let come = comes_to home.vol k member within in
      let reached : Reaches pages (frame_of layout) (cells_way (frame_of layout) home.vol) come.passed home =
      subst (λ p. Reaches pages (frame_of layout) (cells_way (frame_of layout) home.vol) come.passed (record { vol = home.vol; page = p })) at come.reached in
      let read = is_read pages (frame_of layout) (cells_way (frame_of layout) home.vol) (cells_read home.vol member) come.passed home reached in
      record { place = length come.passed; page = read.0; is = record { member = member; read = read.1 } }

  pub used_on : (at : CellAt) (cell : Cell) → IsOnTable pages layout at cell → IsUsed pages (frame_of layout) at cell
  used_on at cell on =
      let place = cell_place (home_of at) on.member on.table in
      record {
        place = record { place = place.place; page = place.page; is = place.is; within = within_page (pages (home_of at)) at.cell on.stands.bytes on.stands.there };
        stands = on.stands;
      }

  -- ---- pages of tags

  pub tags_read : (number : ℕ) (first : Home) → HasTags layout.table number first → (home : Home) → ¬ IsUnread pages (frame_of layout) (tags_way first) home
  tags_read number first has home unread = no_tags home (inl (record { number = number; first = first; has = has; unread = unread }))

  module _ (number : ℕ) (first : Home) (has : HasTags layout.table number first) (places : List TagPlace) (stands : IsDirectoryAt pages first places) where
    begins_at : (p : TagPlace) → slice_get places 0 ≡ Some p → p.home ≡ first
    begins_at p is = subst (λ o. IsSomeAnd o (λ (place : TagPlace). place.home ≡ first)) is stands.begins

    pub record ComesToTags (k : ℕ) (home : Home) : Type 0 where
      pub passed : List Home
      pub reached : Reaches pages (frame_of layout) (tags_way first) passed home
      pub behind : length passed ≡ k

    pub tags_come : (k : ℕ) (p : TagPlace) → slice_get places k ≡ Some p → ComesToTags k p.home
    tags_come zero p is = record { passed = []; reached = subst (Reaches pages (frame_of layout) (tags_way first) []) (sym (begins_at p is)) begins; behind = refl }
    tags_come (suc k) p is =
        let before = before_in places k p is in
        let q = before.0 in
        let earlier = tags_come k q before.1 in
        let read = read_after pages (frame_of layout) (tags_way first) (tags_read number first has) earlier.passed q.home earlier.reached in
        let run : IsSomeAnd (pages q.home) (IsPageOf q (home_behind places k)) = subst (λ o. IfSome o (λ place. IsSomeAnd (pages place.home) (IsPageOf place (home_behind places k)))) before.1 (stands.directory.run k) in
        let of : IsPageOf q (home_behind places k) read.page = subst (λ o. IsSomeAnd o (IsPageOf q (home_behind places k))) read.there run in
        let e : k + 1 ≡ suc k = omega arith in
        let behind : home_behind places k ≡ Some p.home = ap (λ j. option_map (λ (x : TagPlace). x.home) (slice_get places j)) e ∙ ap (option_map (λ (x : TagPlace). x.home)) is in
        record {
          passed = earlier.passed ++ q.home ∷ [];
          reached = goes_on earlier.passed q.home p.home read.page earlier.reached read.may read.fresh read.there read.so (on_a_volume read.page p.home (of.linked ∙ behind) of.good.next);
          behind = length-append earlier.passed (q.home ∷ []) ∙ omega (arith, earlier.behind);
        }

  pub record IsTagPlace (number : ℕ) (home : Home) : Type 0 where
    pub place : ℕ
    pub page : List ℕ
    pub is : IsTagsPage pages (frame_of layout) layout.table number place home page

  pub tag_place : (number : ℕ) (home : Home) → HasTagPage layout number home → IsTagPlace number home
  tag_place number home has = by_first (first_tag_of has.item) refl (laid.tags number has.item has.there)
    where
      by_first : (o : Option Home) → first_tag_of has.item ≡ o → AreTagPlaces pages o (layout.tags number) → IsTagPlace number home
      by_first None none empty = absurd (let e : false ≡ true = sym (ap (λ places. has_home places home) empty) ∙ has.has in absurd (cc))
      by_first (Some first) there stands =
          let tags : HasTags layout.table number first = record { item = has.item; there = has.there; has = there } in
          let found = place_in (layout.tags number) home has.has in
          let come = tags_come number first tags (layout.tags number) stands found.0 found.1 found.2 in
          let reached : Reaches pages (frame_of layout) (tags_way first) come.passed home = subst (Reaches pages (frame_of layout) (tags_way first) come.passed) found.3 come.reached in
          let read = is_read pages (frame_of layout) (tags_way first) (tags_read number first tags) come.passed home reached in
          record { place = length come.passed; page = read.0; is = record { first = first; has = tags; read = read.1 } }

-- ---- where no rule is broken

module _ (pages : Pages) (layout : Layout) (laid : IsLayout pages layout) (none : HasNoFault pages (frame_of layout)) where
  tables : HasNoTablesFault pages (frame_of layout)
  tables = none_of_tables pages (frame_of layout) none

  pub no_files : (row : FaultRow) → ¬ IsFilesFault pages (frame_of layout) row
  no_files row fault = none row (inr (inr (tables, fault)))

  pub no_extent : (home : Home) → ¬ IsExtentFault pages layout home
  no_extent home fault = no_files (record { code = 7; home = home }) (layout, refl, laid, inl (refl, fault))

  pub no_index : (home : Home) → ¬ IsIndexFault pages (frame_of layout) layout.table home
  no_index home fault = no_files (record { code = 10; home = home }) (layout, refl, laid, inr (inr (inr (refl, fault))))

  -- ---- pages of indexes

  index_at : (at : CellAt) (number : ℕ) (home : Home) (has : HasIndexPage pages layout at number home) → HasIndexAt pages (frame_of layout) at has.first
  index_at at number home has = record { cell = has.cell; is = used_on pages layout laid tables at has.cell has.on; value = has.value; there = has.there; begins = has.begins }

  pub index_read : (at : CellAt) (first : Home) → HasIndexAt pages (frame_of layout) at first → (home : Home) → ¬ IsUnread pages (frame_of layout) (index_way first) home
  index_read at first has home unread = no_index home (inl (record { at = at; first = first; has = has; wrong = inl unread }))

  index_page : (at : CellAt) (number : ℕ) (home : Home) (has : HasIndexPage pages layout at number home) → (page : List ℕ) × IsRead pages (frame_of layout) (index_way has.first) (length has.passed) home page
  index_page at number home has = is_read pages (frame_of layout) (index_way has.first) (index_read at has.first (index_at at number home has)) has.passed home has.is

  -- ---- where the pages of each kind stand

  table_stands : (home : Home) → layout.anchor.table ≡ Some home → Stands pages layout 0x42545346 home
  table_stands home at =
      let table = table_one pages layout laid tables in
      let same : home ≡ table.value = some_same home table.value (sym at ∙ table.there) in
      let one = one_of (pages table.value) (λ page. IsTablePage page layout.table) table.is in
      record {
        page = one.value;
        there = ap pages same ∙ one.there;
        so = one.is.header.magic;
        free = λ reserved. tables.table home (record { at = at; wrong = inl reserved });
      }

  cells_stand : (home : Home) → BelongsTo pages layout of_cells home → Stands pages layout 0x50544d42 home
  cells_stand home (member, among) =
      let place = cell_place pages layout laid tables home member among in
      record { page = place.page; there = place.is.read.there; so = eqb-true _ _ place.is.read.begins; free = place.is.read.may.1 }

  tags_stand : (number : ℕ) (home : Home) → HasTagPage layout number home → Stands pages layout 0x50474154 home
  tags_stand number home has =
      let place = tag_place pages layout laid tables number home has in
      record { page = place.page; there = place.is.read.there; so = eqb-true _ _ place.is.read.begins; free = place.is.read.may.1 }

  index_stands : (at : CellAt) (number : ℕ) (home : Home) → HasIndexPage pages layout at number home → Stands pages layout 0x58524944 home
  index_stands at number home has =
      let page = index_page at number home has in
      record { page = page.0; there = page.1.there; so = eqb-true _ _ page.1.begins; free = page.1.may.1 }

  volume_reserved : (home : Home) → BelongsTo pages layout of_volume home → IsReserved (frame_of layout) home
  volume_reserved home (member, low) = inl low

  -- ---- one owner of a kind

  one_file : (at : CellAt) (page : ℕ) (home : Home) (other : Owner) → HasExtent pages layout at page home → BelongsTo pages layout other home → ¬ ¬ other ≡ of_file at page
  one_file at page home other has also apart = no_extent (home_of at) (at, refl, record { page = page; home = home; has = has; wrong = inr (other, also, apart) })

  same_file : (at at' : CellAt) (page page' : ℕ) → ¬ ¬ of_file at' page' ≡ of_file at page → of_file at' page' ≡ of_file at page
  same_file at at' page page' not_apart =
      ⊎_elim (λ cell. ⊎_elim (λ number. (λ i. of_file (cell i) (number i)))
      (λ other. absurd (not_apart (λ (same : of_file at' page' ≡ of_file at page). other (cc)))) (same_number page' page))
      (λ other. absurd (not_apart (λ (same : of_file at' page' ≡ of_file at page). other (cc)))) (same_cell at' at)

  one_tags : (number other : ℕ) (home : Home) → HasTagPage layout number home → HasTagPage layout other home → number ≡ other
  one_tags number other home has also =
      let one = tag_place pages layout laid tables number home has in
      let two = tag_place pages layout laid tables other home also in
      let same : two.page ≡ one.page = some_same two.page one.page (sym two.is.read.there ∙ one.is.read.there) in
      let two_is : IsTagsPage pages (frame_of layout) layout.table other two.place home one.page = subst (IsTagsPage pages (frame_of layout) layout.table other two.place home) same two.is in
      ⊎_elim (λ is. is)
      (λ apart. ⊎_elim
      (λ less. absurd (no_tags pages layout laid tables home (inr (inl (record { earlier = number; later = other; order = less; one = one.place; other = two.place; page = one.page; in_earlier = one.is; in_later = two_is })))))
      (λ more. absurd (no_tags pages layout laid tables home (inr (inl (record { earlier = other; later = number; order = more; one = two.place; other = one.place; page = one.page; in_earlier = two_is; in_later = one.is }))))) apart)
      (cases_order number other)

  one_index_cell : (at at' : CellAt) (number other : ℕ) (home : Home) → HasIndexPage pages layout at number home → HasIndexPage pages layout at' other home → ¬ ¬ at' ≡ at
  one_index_cell at at' number other home has also apart =
      let one = index_page at number home has in
      let two = index_page at' other home also in
      let same : two.0 ≡ one.0 = some_same two.0 one.0 (sym two.1.there ∙ one.1.there) in
      no_index home (inl (record {
        at = at;
        first = has.first;
        has = index_at at number home has;
        wrong = inr (
          length has.passed,
          one.0,
          one.1,
          inr (
            at',
            also.first,
            length also.passed,
            apart,
            index_at at' other home also,
            subst (IsRead pages (frame_of layout) (index_way also.first) (length also.passed) home) same two.1,
          ),
        );
      }))

  one_number : (at : CellAt) (number other : ℕ) (home : Home) → HasIndexPage pages layout at number home → HasIndexPage pages layout at other home → number ≡ other
  one_number at number other home has also =
      let cell = one_stands pages at has.cell also.cell has.on.stands also.on.stands in
      let value : has.value ≡ also.value = some_same has.value also.value (sym has.there ∙ ap (λ (c : Cell). record_of 9 c.records) cell ∙ also.there) in
      let first : also.first ≡ has.first = some_same also.first has.first (sym also.begins ∙ ap index_in (sym value) ∙ has.begins) in
      let reached : Reaches pages (frame_of layout) (index_way has.first) also.passed home = subst (λ f. Reaches pages (frame_of layout) (index_way f) also.passed home) first also.is in
      sym has.behind ∙ reached_once pages (frame_of layout) (index_way has.first) (index_read at has.first (index_at at number home has)) home has.passed also.passed has.is reached ∙ also.behind

  one_index : (at at' : CellAt) (number other : ℕ) (home : Home) → HasIndexPage pages layout at number home → HasIndexPage pages layout at' other home → of_index at number ≡ of_index at' other
  one_index at at' number other home has also =
      ⊎_elim (λ cell.
      let same : number ≡ other = one_number at number other home has (subst (λ a. HasIndexPage pages layout a other home) cell also) in
      (λ i. of_index (sym cell i) (same i)))
      (λ apart. absurd (one_index_cell at at' number other home has also apart)) (same_cell at' at)

  module _ (log : IsLogInside layout.version layout.anchor) where
    log_behind : (home : Home) → BelongsTo pages layout of_volume home → ¬ BelongsTo pages layout of_log home
    log_behind home (member, low) logged =
        let below : home.page < first_cells (frame_of layout) layout.anchor.log_vol = subst (λ vol. home.page < first_cells (frame_of layout) vol) logged.0 low in
        omega (arith, below, log.behind, logged.1)

    apart : (m n : ℕ) (home : Home) → Stands pages layout m home → Stands pages layout n home → ¬ m ≡ n → ⊥
    apart m n home one other differ = differ (one_magic pages layout m n home one other)

    once : (home : Home) (a b : Owner) → BelongsTo pages layout a home → BelongsTo pages layout b home → a ≡ b
    once home of_volume of_volume one other = refl
    once home of_volume of_log one other = absurd (log_behind home one other)
    once home of_volume of_table one other = absurd ((table_stands home other).free (volume_reserved home one))
    once home of_volume of_cells one other = absurd ((cells_stand home other).free (volume_reserved home one))
    once home of_volume (of_tags n') one other = absurd ((tags_stand n' home other).free (volume_reserved home one))
    once home of_volume (of_index at' n') one other = absurd ((index_stands at' n' home other).free (volume_reserved home one))
    once home of_volume (of_file at' page') one other = absurd (one_file at' page' home of_volume other one (λ same. cc))
    once home of_log of_volume one other = absurd (log_behind home other one)
    once home of_log of_log one other = refl
    once home of_log of_table one other = absurd ((table_stands home other).free (inr one))
    once home of_log of_cells one other = absurd ((cells_stand home other).free (inr one))
    once home of_log (of_tags n') one other = absurd ((tags_stand n' home other).free (inr one))
    once home of_log (of_index at' n') one other = absurd ((index_stands at' n' home other).free (inr one))
    once home of_log (of_file at' page') one other = absurd (one_file at' page' home of_log other one (λ same. cc))
    once home of_table of_volume one other = absurd ((table_stands home one).free (volume_reserved home other))
    once home of_table of_log one other = absurd ((table_stands home one).free (inr other))
    once home of_table of_table one other = refl
    once home of_table of_cells one other = absurd (apart 0x42545346 0x50544d42 home (table_stands home one) (cells_stand home other) (λ same. omega (arith, same)))
    once home of_table (of_tags n') one other = absurd (apart 0x42545346 0x50474154 home (table_stands home one) (tags_stand n' home other) (λ same. omega (arith, same)))
    once home of_table (of_index at' n') one other = absurd (apart 0x42545346 0x58524944 home (table_stands home one) (index_stands at' n' home other) (λ same. omega (arith, same)))
    once home of_table (of_file at' page') one other = absurd (one_file at' page' home of_table other one (λ same. cc))
    once home of_cells of_volume one other = absurd ((cells_stand home one).free (volume_reserved home other))
    once home of_cells of_log one other = absurd ((cells_stand home one).free (inr other))
    once home of_cells of_table one other = absurd (apart 0x50544d42 0x42545346 home (cells_stand home one) (table_stands home other) (λ same. omega (arith, same)))
    once home of_cells of_cells one other = refl
    once home of_cells (of_tags n') one other = absurd (apart 0x50544d42 0x50474154 home (cells_stand home one) (tags_stand n' home other) (λ same. omega (arith, same)))
    once home of_cells (of_index at' n') one other = absurd (apart 0x50544d42 0x58524944 home (cells_stand home one) (index_stands at' n' home other) (λ same. omega (arith, same)))
    once home of_cells (of_file at' page') one other = absurd (one_file at' page' home of_cells other one (λ same. cc))
    once home (of_tags n) of_volume one other = absurd ((tags_stand n home one).free (volume_reserved home other))
    once home (of_tags n) of_log one other = absurd ((tags_stand n home one).free (inr other))
    once home (of_tags n) of_table one other = absurd (apart 0x50474154 0x42545346 home (tags_stand n home one) (table_stands home other) (λ same. omega (arith, same)))
    once home (of_tags n) of_cells one other = absurd (apart 0x50474154 0x50544d42 home (tags_stand n home one) (cells_stand home other) (λ same. omega (arith, same)))
    once home (of_tags n) (of_tags n') one other = ap of_tags (one_tags n n' home one other)
    once home (of_tags n) (of_index at' n') one other = absurd (apart 0x50474154 0x58524944 home (tags_stand n home one) (index_stands at' n' home other) (λ same. omega (arith, same)))
    once home (of_tags n) (of_file at' page') one other = absurd (one_file at' page' home (of_tags n) other one (λ same. cc))
    once home (of_index at n) of_volume one other = absurd ((index_stands at n home one).free (volume_reserved home other))
    once home (of_index at n) of_log one other = absurd ((index_stands at n home one).free (inr other))
    once home (of_index at n) of_table one other = absurd (apart 0x58524944 0x42545346 home (index_stands at n home one) (table_stands home other) (λ same. omega (arith, same)))
    once home (of_index at n) of_cells one other = absurd (apart 0x58524944 0x50544d42 home (index_stands at n home one) (cells_stand home other) (λ same. omega (arith, same)))
    once home (of_index at n) (of_tags n') one other = absurd (apart 0x58524944 0x50474154 home (index_stands at n home one) (tags_stand n' home other) (λ same. omega (arith, same)))
    once home (of_index at n) (of_index at' n') one other = one_index at at' n n' home one other
    once home (of_index at n) (of_file at' page') one other = absurd (one_file at' page' home (of_index at n) other one (λ same. cc))
    once home (of_file at page) of_volume one other = absurd (one_file at page home of_volume one other (λ same. cc))
    once home (of_file at page) of_log one other = absurd (one_file at page home of_log one other (λ same. cc))
    once home (of_file at page) of_table one other = absurd (one_file at page home of_table one other (λ same. cc))
    once home (of_file at page) of_cells one other = absurd (one_file at page home of_cells one other (λ same. cc))
    once home (of_file at page) (of_tags n') one other = absurd (one_file at page home (of_tags n') one other (λ same. cc))
    once home (of_file at page) (of_index at' n') one other = absurd (one_file at page home (of_index at' n') one other (λ same. cc))
    once home (of_file at page) (of_file at' page') one other = sym (same_file at at' page page' (one_file at page home (of_file at' page') one other))

pub owned_once : (pages : Pages) (layout : Layout) → IsLayout pages layout → HasNoFault pages (frame_of layout) → IsLogInside layout.version layout.anchor → IsOwnedOnce pages layout
owned_once pages layout laid none log = once pages layout laid none log
