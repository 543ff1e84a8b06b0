-- Pages of cells that are read one after the other are the table of a volume.
use Rattle.std.proofs.Common.{◌≡◌, ◌∙◌, inl, inr, ℕ, zero, suc, ◌+◌, ◌<◌, Bool, true, false, cond, nat_eq, nat_lt, ◌&&◌, List, [], ◌∷◌, ◌++◌, length, Option, Some, None, IfSome, IfNone, IsSomeAnd, slice_get, slice_index, refl, sym, ap, subst, arith, ⊎_elim}
use Rattle.std.proofs.lemmas.Bool.{cases_Bool, eq-eqb, eqb-true, lt-ltb}
use Rattle.std.proofs.lemmas.Option.{slice_get-get_or}
use Rattle.std.specs.Option.{option_and_then, option_map}
use Rattle.std.specs.Prelude.{map, slice_index_or}
use Rattle.domain_layout.specs.domain_base.declared.place.CellAt.{CellAt}
use Rattle.domain_layout.specs.domain_base.declared.place.Home.{Home}
use Rattle.domain_layout.specs.domain_base.Page.{zero_bytes}
use Rattle.domain_layout.specs.page_store.Pages.{Pages}
use Rattle.domain_layout.specs.cell_records.Fields.{number_at}
use Rattle.domain_layout.specs.metadata_cells.Cell.{Cell, IsCell, IsFreeOrUsed}
use Rattle.domain_layout.specs.metadata_cells.CellPage.{IsCellPage, cell_at, cell_of, free_cells, index_of, is_cell_page, next_of}
use Rattle.domain_layout.specs.metadata_cells.Chain.{StandsAt}
use Rattle.domain_layout.specs.metadata_cells.declared.used.UsedCell.{UsedCell}
use Rattle.domain_layout.specs.CellRules.{HasWrongHeader, IsCellsFault, IsCellsPage}
use Rattle.domain_layout.specs.Faults.{IsTablesFault, FaultRow}
use Rattle.domain_layout.specs.Layout.{IsCellTable, IsPageAt}
use Rattle.domain_layout.specs.Reached.{Frame, IsUnread, cells_way, first_cells}
use Rattle.domain_layout.proofs.ChainsAlike.{same_bytes}
use Rattle.domain_layout.proofs.OnePage.{one_of, some_same}
use Rattle.domain_layout.proofs.Reached.{same_number}
use Rattle.filesets_reading.specs.Good.{AreDecided, AreGood, IsDecided}
use Rattle.filesets_reading.proofs.Ways.{IsWayTo, IsWholeWay, comes_read, get_map, get_pushed, map_pushed, way_begins, way_ends, way_on}
use Rattle.domain_layout.specs.log_ring.Homes.{IsMember}

-- ---- what no fault says

module _ (pages : Pages) (frame : Frame) (good : AreGood pages frame) where
  pub no_tables : (row : FaultRow) → ¬ IsTablesFault pages frame row
  no_tables row fault = good.no_fault.tables row fault

  pub no_cells : (home : Home) → ¬ IsCellsFault pages frame good.table home
  no_cells home fault = no_tables (record { code = 5; home = home }) (good.table, good.says, inl (refl, fault))

  pub cells_read : (vol : ℕ) → IsMember frame.anchor vol → (home : Home) → ¬ IsUnread pages frame (cells_way frame vol) home
  cells_read vol member home unread = no_cells home (inl (record { vol = vol; member = member; unread = unread }))

-- ---- a cell is decided by what was read

pub decided_by : (pages : Pages) (at : CellAt) (o : Option UsedCell) → IfSome o (λ used. StandsAt pages at (record { head = used.head; records = used.records }))
    → IfNone o ((cell : Cell) → ¬ StandsAt pages at cell) → IsDecided pages at
decided_by pages at None some none = inr none
decided_by pages at (Some used) some none = inl (record { head = used.head; records = used.records }, some)

-- ---- a page of cells

-- the bytes of a cell of a page that is there
pub there_at : (pages : Pages) (home : Home) (page : List ℕ) → pages home ≡ Some page → is_cell_page page ≡ true → (cell : ℕ) → cell < 28
    → cell_at pages (record { vol = home.vol; page = home.page; cell = cell }) ≡ Some (cell_of page cell)
there_at pages home page there magic cell within =
    ap (λ o. option_and_then (λ p. cond (is_cell_page p && nat_lt cell 28) (Some (cell_of p cell)) None) o) there
    ∙ (λ i. cond (magic i && lt-ltb cell 28 within i) (Some (cell_of page cell)) None)

module _ (pages : Pages) (frame : Frame) (good : AreGood pages frame) (place : ℕ) (home : Home) (page : List ℕ) (is : IsCellsPage pages frame place home page) (decided : AreDecided pages home) where
  magic : is_cell_page page ≡ true
  magic = is.read.begins

  header : ¬ HasWrongHeader pages frame home
  header wrong = no_cells pages frame good home (inr (inl wrong))

  right : (a b : ℕ) → (¬ a ≡ b → HasWrongHeader pages frame home) → a ≡ b
  right a b wrong = ⊎_elim (λ same. same) (λ other. absurd (header (wrong other))) (same_number a b)

  cell_stands : (cell : ℕ) → cell < 28 → IsFreeOrUsed (cell_of page cell)
  cell_stands cell within = ⊎_elim used unused (decided cell within)
    where
      at : CellAt
      at = record { vol = home.vol; page = home.page; cell = cell }

      used : ((c : Cell) × StandsAt pages (record { vol = home.vol; page = home.page; cell = cell }) c) → IsFreeOrUsed (cell_of page cell)
      used (c, stands) =
          let same : stands.bytes ≡ cell_of page cell = some_same stands.bytes (cell_of page cell) (sym stands.there ∙ there_at pages home page is.read.there magic cell within) in
          inr (c, subst (λ b. IsCell b c) same stands.is)

      unused : ((c : Cell) → ¬ StandsAt pages (record { vol = home.vol; page = home.page; cell = cell }) c) → IsFreeOrUsed (cell_of page cell)
      unused none = ⊎_elim (λ free. inl free)
          (λ some. absurd (no_cells pages frame good home (inr (inr (inl (record {
            place = place;
            page = page;
            is = is;
            cell = cell;
            within = within;
            used = some;
            wrong = λ c of. none c (record { bytes = cell_of page cell; there = there_at pages home page is.read.there magic cell within; is = of.is });
          })))))) (same_bytes (cell_of page cell) (zero_bytes 292))

  pub indexed : index_of page ≡ place
  indexed = right (index_of page) place (λ other. record { place = place; page = page; is = is; wrong = inl other })

  pub cell_page : IsCellPage page
  cell_page = record {
    magic = magic;
    free = right (number_at 2 12 page) (free_cells page) (λ other. record { place = place; page = page; is = is; wrong = inr (inl other) });
    end = right (number_at 2 14 page) 0 (λ other. record { place = place; page = page; is = is; wrong = inr (inr other) });
    cells = cell_stands;
  }

-- ---- the table of a volume

-- a page of a volume, and the homes of the pages of a table
abbrev pub on_vol : ℕ → ℕ → Home
on_vol vol page = record { vol = vol; page = page }

abbrev pub homes_on : ℕ → List ℕ → List Home
homes_on vol table = map (on_vol vol) table

-- the pages that were read, the last of which leads to this one
pub record CellWalk (pages : Pages) (frame : Frame) (vol : ℕ) (table : List ℕ) (onto : ℕ) : Type 0 where
  pub way : IsWayTo pages frame (cells_way frame vol) (homes_on vol table) (record { vol = vol; page = onto })
  pub decided : (k : ℕ) (page : ℕ) → slice_get table k ≡ Some page → AreDecided pages (record { vol = vol; page = page })

pub past_end : (xs : List ℕ) (k : ℕ) → slice_get xs k ≡ None → slice_index_or xs k 0 ≡ 0
past_end [] k none = refl
past_end (x ∷ xs) zero none = absurd (let e : Some x ≡ None = none in absurd (cc))
past_end (x ∷ xs) (suc k) none = past_end xs k none

at_some : (xs : List ℕ) (k x : ℕ) → slice_get xs k ≡ Some x → slice_index_or xs k 0 ≡ x
at_some [] k x is = absurd (let e : None ≡ Some x = is in absurd (cc))
at_some (y ∷ ys) zero x is = some_same y x is
at_some (y ∷ ys) (suc k) x is = at_some ys k x is

home_number : (a b : Home) → Some a ≡ Some b → a.page ≡ b.page
home_number a b same = ap (λ (h : Home). h.page) (some_same a b same)

module _ (pages : Pages) (frame : Frame) (good : AreGood pages frame) (vol : ℕ) (member : IsMember frame.anchor vol) where
  none_unread : (home : Home) → ¬ IsUnread pages frame (cells_way frame vol) home
  none_unread = cells_read pages frame good vol member

  pub walk_begins : CellWalk pages frame vol [] (first_cells frame vol)
  walk_begins = record { way = way_begins pages frame (cells_way frame vol) none_unread; decided = λ k page is. absurd (let e : None ≡ Some page = is in absurd (cc)) }

  -- where pages of a table are, and what each leads to
  module _ (table : List ℕ) (whole : IsWholeWay pages frame (cells_way frame vol) (homes_on vol table)) (decided : (k : ℕ) (page : ℕ) → slice_get table k ≡ Some page → AreDecided pages (record { vol = vol; page = page })) where
    at_home : (k : ℕ) → k < length table → slice_get (homes_on vol table) k ≡ Some (record { vol = vol; page = slice_index table k })
    at_home k within = get_map (on_vol vol) table k ∙ ap (option_map (on_vol vol)) (slice_get-get_or table k 0 within)

    linked : (k : ℕ) (page : List ℕ) → cond {A = Option Home} (nat_eq (next_of page) 0) None (Some (record { vol = vol; page = next_of page })) ≡ slice_get (homes_on vol table) (suc k) → next_of page ≡ slice_index_or table (k + 1) 0
    linked k page leads = by_next (slice_get table (suc k)) refl (nat_eq (next_of page) 0) refl
      where
        here : (o : Option ℕ) → slice_get table (suc k) ≡ o → (b : Bool) → nat_eq (next_of page) 0 ≡ b → cond {A = Option Home} b None (Some (record { vol = vol; page = next_of page })) ≡ option_map (on_vol vol) o
        here o at b test =
            ap (λ b. cond b None (Some (record { vol = vol; page = next_of page }))) (sym test) ∙ leads ∙ get_map (on_vol vol) table (suc k)
            ∙ ap (option_map (on_vol vol)) at

        index : suc k ≡ k + 1
        index = omega arith

        past : slice_get table (suc k) ≡ None → slice_index_or table (k + 1) 0 ≡ 0
        past none = subst (λ j. slice_index_or table j 0 ≡ 0) index (past_end table (suc k) none)

        by_next : (o : Option ℕ) → slice_get table (suc k) ≡ o → (b : Bool) → nat_eq (next_of page) 0 ≡ b → next_of page ≡ slice_index_or table (k + 1) 0
        by_next None at true test = eqb-true (next_of page) 0 test ∙ sym (past at)
        by_next None at false test = absurd (let e : Some (record { vol = vol; page = next_of page }) ≡ None = here None at false test in absurd (cc))
        by_next (Some next) at true test = absurd (let e : None ≡ Some (record { vol = vol; page = next }) = here (Some next) at true test in absurd (cc))
        by_next (Some next) at false test =
            home_number (record { vol = vol; page = next_of page }) (record { vol = vol; page = next }) (here (Some next) at false test)
            ∙ sym (subst (λ j. slice_index_or table j 0 ≡ next) index (at_some table (suc k) next at))

    page_at : (k : ℕ) → k < length table → IsSomeAnd (pages (record { vol = vol; page = slice_index table k })) (IsPageAt table k)
    page_at k within =
        let home : Home = record { vol = vol; page = slice_index table k } in
        let so = whole.each k (record { vol = vol; page = slice_index table k }) (at_home k within) in
        let is : IsCellsPage pages frame k (record { vol = vol; page = slice_index table k }) so.page = record { member = member; read = so.read } in
        let known = decided k (slice_index table k) (slice_get-get_or table k 0 within) in
        subst (λ o. IsSomeAnd o (IsPageAt table k)) (sym so.read.there)
        (record {
          good = cell_page pages frame good k (record { vol = vol; page = slice_index table k }) so.page is known;
          indexed = indexed pages frame good k (record { vol = vol; page = slice_index table k }) so.page is known;
          linked = linked k so.page so.leads;
        })

    first_is : slice_get table 0 ≡ Some (first_cells frame vol)
    first_is = by_first (slice_get table 0) refl
      where
        by_first : (o : Option ℕ) → slice_get table 0 ≡ o → o ≡ Some (first_cells frame vol)
        by_first None at = absurd (let e : None ≡ Some (record { vol = vol; page = first_cells frame vol }) = ap (option_map (on_vol vol)) (sym at) ∙ sym (get_map (on_vol vol) table 0) ∙ whole.first in absurd (cc))
        by_first (Some first) at =
            ap Some (home_number (record { vol = vol; page = first }) (record { vol = vol; page = first_cells frame vol })
            (ap (option_map (on_vol vol)) (sym at) ∙ sym (get_map (on_vol vol) table 0) ∙ whole.first))

    some_page : (k : ℕ) → k < length table → ¬ slice_index table k ≡ 0
    some_page k within none =
        let so = whole.each k (record { vol = vol; page = slice_index table k }) (at_home k within) in
        so.read.may.1 (inl (omega (arith, none)))

    pub whole_table : IsCellTable pages vol (first_cells frame vol) table
    whole_table = record { begins = first_is; some = some_page; each = page_at }

  module _ (table : List ℕ) (onto next : ℕ) (walk : CellWalk pages frame vol table onto) (decided : AreDecided pages (record { vol = vol; page = onto })) (leads : IsSomeAnd (pages (record { vol = vol; page = onto })) (λ page. next_of page ≡ next)) where
    all_decided : (k : ℕ) (page : ℕ) → slice_get (table ++ onto ∷ []) k ≡ Some page → AreDecided pages (record { vol = vol; page = page })
    all_decided k page is =
        ⊎_elim (λ front. walk.decided k page front.1) (λ last. subst (λ p. AreDecided pages (record { vol = vol; page = p })) last.1 decided) (get_pushed table onto k page is)

    longer : homes_on vol (table ++ onto ∷ []) ≡ homes_on vol table ++ (record { vol = vol; page = onto }) ∷ []
    longer = map_pushed (on_vol vol) table onto

    pub walk_on : ¬ next ≡ 0 → CellWalk pages frame vol (table ++ onto ∷ []) next
    walk_on some =
        let one = one_of (pages (record { vol = vol; page = onto })) (λ page. next_of page ≡ next) leads in
        let test : nat_eq (next_of one.value) 0 ≡ false = ⊎_elim (λ zero_there. absurd (some (sym one.is ∙ eqb-true (next_of one.value) 0 zero_there))) (λ is. is) (cases_Bool (nat_eq (next_of one.value) 0)) in
        record {
          way = subst (λ homes. IsWayTo pages frame (cells_way frame vol) homes (record { vol = vol; page = next })) (sym longer)
              (way_on pages frame (cells_way frame vol) none_unread (homes_on vol table) (record { vol = vol; page = onto }) walk.way one.value one.there (record { vol = vol; page = next })
              (ap (λ b. cond b None (Some (record { vol = vol; page = next_of one.value }))) test ∙ ap (λ p. Some (record { vol = vol; page = p })) one.is));
          decided = all_decided;
        }

    pub walk_ends : next ≡ 0 → IsCellTable pages vol (first_cells frame vol) (table ++ onto ∷ [])
    walk_ends none =
        let one = one_of (pages (record { vol = vol; page = onto })) (λ page. next_of page ≡ next) leads in
        let test : nat_eq (next_of one.value) 0 ≡ true = eq-eqb (next_of one.value) 0 (one.is ∙ none) in
        let whole = way_ends pages frame (cells_way frame vol) none_unread (homes_on vol table) (record { vol = vol; page = onto }) walk.way one.value one.there (ap (λ b. cond b None (Some (record { vol = vol; page = next_of one.value }))) test) in
        whole_table (table ++ onto ∷ []) (subst (IsWholeWay pages frame (cells_way frame vol)) (sym longer) whole) all_decided

  -- the page that is come to is one of cells
  pub comes_there : (table : List ℕ) (onto : ℕ) → CellWalk pages frame vol table onto → IsSomeAnd (pages (record { vol = vol; page = onto })) (λ page. is_cell_page page ≡ true)
  comes_there table onto walk =
      let read = comes_read pages frame (cells_way frame vol) none_unread (homes_on vol table) (record { vol = vol; page = onto }) walk.way in
      subst (λ o. IsSomeAnd o (λ page. is_cell_page page ≡ true)) (sym read.1.there) read.1.begins
