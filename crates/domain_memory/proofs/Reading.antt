-- One page of a table of cells more is read.
use Rattle.std.proofs.Common.{◌≡◌, ◌∙◌, ℕ, ◌+◌, ◌<◌, ◌&&◌, ◌||◌, Bool, true, false, cond, nat_eq, nat_lt, List, [], ◌∷◌, ◌++◌, length, Option, Some, None, IsSomeAnd, Contains, slice_index, length-take-le, get_or-take, refl, sym, ap, subst, arith, ⊎_elim}
use Rattle.std.proofs.lemmas.Bool.{and_from, and_parts, eq-eqb, eqb-true, lt-ltb, ltb-true, ne_eqb, or_cases, or_left, or_right}
use Rattle.std.proofs.lemmas.List.{take_more}
use Rattle.std.proofs.lemmas.List.Elements.{Contains-append_left, Contains-push, Contains-push_cases}
use Rattle.standing_laws.specs.domain_base.declared.place.CellAt.{CellAt}
use Rattle.standing_laws.specs.domain_base.declared.place.Home.{Home}
use Rattle.standing_laws.specs.page_store.Pages.{Pages, same_home}
use Rattle.standing_laws.specs.metadata_cells.CellPage.{home_of, is_free_in, next_of}
use Rattle.standing_laws.specs.free_cells.Belong.{Belong, IsNextPage, LeadsTo}
use Rattle.standing_laws.specs.free_cells.Cells.{Cells, JoinsPage, is_free, is_on, table_of}
use Rattle.standing_laws.specs.domain_layout.Layout.{IsPageAt}
use Rattle.domain_memory.specs.Tables.{AreTablePages, IsFreeOn, ReadsTable}

some_and : {X : Type 0} (P Q : X → Type 0) → ((x : X) → P x → Q x) → (o : Option X) → IsSomeAnd o P → IsSomeAnd o Q
some_and P Q by None is = absurd is
some_and P Q by (Some x) is = by x is

module _ (pages : Pages) (vol : ℕ) (table : List ℕ) (are : AreTablePages pages vol table) (place : ℕ) (within : place < length table) (old cells : Cells) (reads : ReadsTable pages vol place table old cells) where
  abbrev home : Home
  home = record { vol = vol; page = slice_index table place }

  how_many : length (table_of cells vol) ≡ place
  how_many = ap (length {A = ℕ}) reads.here ∙ length-take-le place table (omega (arith, within))

  pub next_page : IsSomeAnd (pages home) (IsNextPage (length (table_of cells vol)))
  next_page =
      some_and (IsPageAt table place) (IsNextPage (length (table_of cells vol))) (λ page at. record { good = at.good; indexed = at.indexed ∙ sym how_many }) (pages home) (are place within)

  pub leads_there : LeadsTo cells vol pages (slice_index table place)
  leads_there k last =
      let is : k + 1 ≡ place = last ∙ how_many in
      let low : k < place = omega (arith, is) in
      let read : slice_index (table_of cells vol) k ≡ slice_index table k = ap (λ (t : List ℕ). slice_index t k) reads.here ∙ get_or-take place table k 0 low in
      subst (λ (p : ℕ). IsSomeAnd (pages (record { vol = vol; page = p })) (λ page. next_of page ≡ slice_index table place)) (sym read)
      (some_and (IsPageAt table k) (λ page. next_of page ≡ slice_index table place) (λ page at. at.linked ∙ ap (slice_index table) is)
      (pages (record { vol = vol; page = slice_index table k })) (are k (omega (arith, low, within))))

  module _ (new : Cells) (page : List ℕ) (there : pages home ≡ Some page) (holds : JoinsPage home page cells new) where
    -- a page stays on its table
    stays : (v p : ℕ) → Contains (table_of cells v) p → Contains (table_of new v) p
    stays v p on = subst (λ (t : List ℕ). Contains t p) (sym (holds.tables v)) (by_test (nat_eq v vol))
      where
        by_test : (b : Bool) → Contains (cond b (table_of cells v ++ slice_index table place ∷ []) (table_of cells v)) p
        by_test true = Contains-append_left (table_of cells v) (slice_index table place ∷ []) p on
        by_test false = on

    same_page : (at : CellAt) → at.vol ≡ vol → at.page ≡ slice_index table place → pages (home_of at) ≡ Some page
    same_page at of_vol of_page =
        let is : home_of at ≡ home = (λ i. record { vol = of_vol i; page = of_page i }) in
        ap pages is ∙ there

    longer : table_of new vol ≡ table_of cells vol ++ slice_index table place ∷ []
    longer = holds.tables vol ∙ ap (λ b. cond b (table_of cells vol ++ slice_index table place ∷ []) (table_of cells vol)) (eq-eqb vol vol refl)

    of_joined : (at : CellAt) → (is_on home at && is_free_in page at.cell) ≡ true → IsFreeOn new pages at
    of_joined at joins =
        let first = and_parts (is_on home at) (is_free_in page at.cell) joins in
        let second = and_parts (same_home (home_of at) home) (nat_lt at.cell 28) first.0 in
        let third = and_parts (nat_eq at.vol vol) (nat_eq at.page (slice_index table place)) second.0 in
        let of_vol = eqb-true at.vol vol third.0 in
        let of_page = eqb-true at.page (slice_index table place) third.1 in
        record {
          table = subst (λ (v : ℕ). Contains (table_of new v) at.page) (sym of_vol)
              (subst (λ (t : List ℕ). Contains t at.page) (sym longer)
              (subst (λ (p : ℕ). Contains (table_of cells vol ++ slice_index table place ∷ []) p) (sym of_page) (Contains-push (table_of cells vol) (slice_index table place))));
          within = ltb-true at.cell 28 second.1;
          free = subst (λ o. IsSomeAnd o (λ page. is_free_in page at.cell ≡ true)) (sym (same_page at of_vol of_page)) first.1;
        }

    to_on : (at : CellAt) → is_free new at ≡ true → IsFreeOn new pages at
    to_on at free =
        ⊎_elim (λ was. let on = (reads.read.free at).0 was in record { table = stays at.vol at.page on.table; within = on.within; free = on.free }) (of_joined at)
        (or_cases (is_free cells at) (is_on home at && is_free_in page at.cell) (sym (holds.cells at) ∙ free))

    of_on : (at : CellAt) → IsFreeOn new pages at → is_free new at ≡ true
    of_on at on = holds.cells at ∙ by_test (nat_eq at.vol vol) refl (subst (λ (t : List ℕ). Contains t at.page) (holds.tables at.vol) on.table)
      where
        was_free : Contains (table_of cells at.vol) at.page → (is_free cells at || (is_on home at && is_free_in page at.cell)) ≡ true
        was_free among = or_left (is_free cells at) (is_on home at && is_free_in page at.cell) ((reads.read.free at).1 (record { table = among; within = on.within; free = on.free }))

        joins : at.vol ≡ vol → at.page ≡ slice_index table place → (is_free cells at || (is_on home at && is_free_in page at.cell)) ≡ true
        joins of_vol of_page =
            or_right (is_free cells at) (is_on home at && is_free_in page at.cell)
            (and_from (is_on home at) (is_free_in page at.cell)
            (and_from (same_home (home_of at) home) (nat_lt at.cell 28)
            (and_from (nat_eq at.vol vol) (nat_eq at.page (slice_index table place)) (eq-eqb at.vol vol of_vol) (eq-eqb at.page (slice_index table place) of_page)) (lt-ltb at.cell 28 on.within))
            (subst (λ o. IsSomeAnd o (λ page. is_free_in page at.cell ≡ true)) (same_page at of_vol of_page) on.free))

        by_test : (b : Bool) → nat_eq at.vol vol ≡ b → Contains (cond b (table_of cells at.vol ++ slice_index table place ∷ []) (table_of cells at.vol)) at.page
            → (is_free cells at || (is_on home at && is_free_in page at.cell)) ≡ true
        by_test true same among =
            ⊎_elim was_free (λ is. joins (eqb-true at.vol vol same) (sym is)) (Contains-push_cases (table_of cells at.vol) (slice_index table place) at.page among)
        by_test false other among = was_free among

    joined : Belong new pages → ReadsTable pages vol (place + 1) table old new
    joined belong = record {
      read = record { belong = belong; free = λ at. (to_on at, of_on at) };
      here = longer ∙ ap (λ (t : List ℕ). t ++ slice_index table place ∷ []) reads.here ∙ sym (take_more table place 0 within);
      others = λ other apart.
          holds.tables other ∙ ap (λ b. cond b (table_of cells other ++ slice_index table place ∷ []) (table_of cells other)) (ne_eqb other vol apart) ∙ reads.others other apart;
      marks = λ other. holds.marks other ∙ reads.marks other;
    }

  pub read_one : (new : Cells) → IsSomeAnd (pages home) (λ page. JoinsPage home page cells new) → Belong new pages → ReadsTable pages vol (place + 1) table old new
  read_one new joins belong = by_page (pages home) refl joins
    where
      by_page : (o : Option (List ℕ)) → pages home ≡ o → IsSomeAnd o (λ page. JoinsPage home page cells new) → ReadsTable pages vol (place + 1) table old new
      by_page None none is = absurd is
      by_page (Some page) there holds = joined new page there holds belong
