-- A file with a cell more, right after its first one.
use Rattle.std.proofs.Common.{◌≡◌, ◌∙◌, ◌⊎◌, ◌&&◌, ℕ, zero, suc, ◌-◌, ◌<◌, ◌≤◌, ◌||◌, not, Bool, true, false, cond, nat_eq, nat_lt, List, [], ◌∷◌, ◌++◌, map, length, Some, IsSome, IsSomeAnd, Contains, refl, sym, ap, subst, arith, ⊎_elim, inl, inr, true≢false}
use Rattle.std.proofs.lemmas.Bool.{and_from, and_parts, cases_Bool, eq-eqb, lt-ltb, or_parts}
use Rattle.std.proofs.lemmas.List.Elements.{Contains-push_cases}
use Rattle.std.specs.List.{AllByRecursion}
use Rattle.free_cells.specs.domain_base.Page.{zero_bytes}
use Rattle.free_cells.specs.domain_base.declared.place.CellAt.{CellAt}
use Rattle.free_cells.specs.domain_base.declared.place.Home.{Home}
use Rattle.free_cells.specs.domain_base.declared.version.Version.{Version}
use Rattle.free_cells.specs.page_store.Pages.{Pages, same_home}
use Rattle.free_cells.specs.cell_records.declared.record.Record.{Record}
use Rattle.free_cells.specs.cell_records.declared.record.Record.TheVariants.{Parent}
use Rattle.free_cells.specs.cell_records.Fields.{number_at}
use Rattle.free_cells.specs.cell_records.Records.{kind_of}
use Rattle.free_cells.specs.metadata_cells.declared.head.CellHead.{CellHead}
use Rattle.free_cells.specs.metadata_cells.declared.head.CellKind.{CellKind}
use Rattle.free_cells.specs.metadata_cells.declared.head.CellKind.TheVariants.{Primary, Chain, Quota, Volume}
use Rattle.free_cells.specs.metadata_cells.Cell.{Cell, kind_number, record_of}
use Rattle.free_cells.specs.metadata_cells.CellPage.{IsUsedAt, cell_at, home_of}
use Rattle.free_cells.specs.metadata_cells.Chain.{Follow, LeavesOthers, PlacedCell, StandsAt, is_at, may_follow, places, records_of}
use Rattle.free_cells.proofs.OfMetadataCells.CellKinds.{used_not_zeros}
use Rattle.free_cells.proofs.OfMetadataCells.Changed.{homes_same}
use Rattle.free_cells.proofs.OfMetadataCells.Frames.{stands_stays}
use Rattle.free_cells.proofs.OfMetadataCells.Unique.{one_stands}
use Rattle.extent_records.specs.extent_maps.declared.run.PagePlace.{PagePlace}
use Rattle.extent_records.specs.extent_maps.declared.run.PagePlace.TheVariants.{Absent}
use Rattle.extent_records.specs.extent_maps.Runs.{place_of, with_place}
use Rattle.extent_records.specs.Rows.{AreOneMap, runs_of}
use Rattle.extent_records.specs.Chains.{ChangesChain}
use Rattle.extent_records.specs.Writing.{IsMapRecord, chain_kind, places_in}
use Rattle.extent_records.proofs.ChainLemmas.{one_page_follows}
use Rattle.free_cells.specs.Cells.{Cells, is_closed, is_free, is_on, table_of, with_page_last}
use Rattle.free_cells.specs.Belong.{last_home}
use Rattle.free_cells.specs.free_space.Spaces.{Spaces}
use Rattle.file_chains.specs.Allocated.{AreAllocated, Takes}
use Rattle.file_chains.specs.FileChanges.{AreOnTables, LeavesOtherCells, map_kinds, other_records}
use Rattle.file_chains.specs.MapChanges.{ChangesOnTables, IsHandedOut, Joins, LeavesOffTables}
use Rattle.file_chains.specs.Files.{HasMap, IsFile, map_records, places_of}
use Rattle.file_chains.proofs.Allocated.{not_in_table, there_is}
use Rattle.file_chains.proofs.ChainChanges.{at_apart, at_same, in_first, in_later, inside_places, kinds_more, kinds_on, kinds_same, one_front}
use Rattle.file_chains.proofs.Chosen.{all_at}
use Rattle.file_chains.proofs.Gathers.{one_map_file}
use Rattle.file_chains.proofs.MapRecords.{one_map_back, one_map_record, rows_true, runs_by_map, value_has_rows}

-- ---- a cell in use is no free one

some_kind : (k : CellKind) → ¬ kind_number k ≡ 0
some_kind Primary is = omega (arith, is)
some_kind Chain is = omega (arith, is)
some_kind Quota is = omega (arith, is)
some_kind Volume is = omega (arith, is)

pub used_of : (pages : Pages) (q : CellAt) (cell : Cell) → StandsAt pages q cell → IsUsedAt pages q
used_of pages q cell stands =
    subst (λ o. IsSomeAnd o (λ bytes. ¬ number_at 1 15 bytes ≡ 0)) (sym stands.there) (λ zero_kind. some_kind cell.head.kind (sym stands.is.head.kind ∙ zero_kind))

pub not_zeros : (pages : Pages) (at q : CellAt) (cell : Cell) → cell_at pages at ≡ Some (zero_bytes 292) → StandsAt pages q cell → ¬ at ≡ q
not_zeros pages at q cell zeros stands same = used_not_zeros pages q (used_of pages q cell stands) (subst (λ (a : CellAt). cell_at pages a ≡ Some (zero_bytes 292)) same zeros)

pub follows_chain : (k : CellKind) → may_follow Primary k ≡ true → may_follow Chain k ≡ true
follows_chain Primary is = is
follows_chain Chain is = refl
follows_chain Quota is = is
follows_chain Volume is = is

-- ---- what a cell that is handed out leaves

module _ (prefer : ℕ) (at : CellAt) (space space_now : Spaces) (cells cells_now : Cells) (old between : Pages) (low : 1 ≤ at.vol) (allocated : AreAllocated space cells old) (takes : Takes prefer at space space_now cells cells_now old between) where
  taken_leaves : (q : CellAt) → Contains (table_of cells q.vol) q.page → cell_at between q ≡ cell_at old q
  taken_leaves q on = ⊎_elim
      (λ had. ap (λ (pages : Pages). cell_at pages q) had.same_pages)
      (λ none.
      let place = and_parts (same_home (home_of at) none.home) (nat_lt at.cell 28) none.on in
      let vol : at.vol ≡ none.home.vol = ap (λ (h : Home). h.vol) (homes_same (home_of at) none.home place.0) in
      none.adds.others q (⊎_elim
      (λ is.
      let there = homes_same (home_of q) none.home (and_parts (same_home (home_of q) none.home) (nat_lt q.cell 28) is).0 in
      absurd (not_in_table space cells old none.home.vol none.home.page (omega (arith, low, vol)) allocated none.adds.free (subst (λ (h : Home). Contains (table_of cells h.vol) h.page) there on)))
      (λ is. is)
      (cases_Bool (is_on none.home q))))
      takes.before

  pub stands_taken : (q : CellAt) (cell : Cell) → Contains (table_of cells q.vol) q.page → StandsAt old q cell → StandsAt between q cell
  stands_taken q cell on stands = record { bytes = stands.bytes; there = taken_leaves q on ∙ stands.there; is = stands.is }

  -- a table's pages stay on it
  pub table_kept : (vol p : ℕ) → Contains (table_of cells vol) p → Contains (table_of cells_now vol) p
  table_kept vol p on = subst (λ (t : List ℕ). Contains t p) (sym (takes.taken.tables vol)) (⊎_elim
      (λ had. subst (λ (c : Cells). Contains (table_of c vol) p) (sym had.same_cells) on)
      (λ none. subst (λ (t : List ℕ). Contains t p) (sym (none.adds.joins.tables vol)) (by_volume (nat_eq vol none.home.vol) none.home.page))
      takes.before)
    where
      by_volume : (b : Bool) (more : ℕ) → Contains (cond b (table_of cells vol ++ more ∷ []) (table_of cells vol)) p
      by_volume true more = front (table_of cells vol) on
        where
          front : (xs : List ℕ) → Contains xs p → Contains (xs ++ more ∷ []) p
          front [] inside = absurd (omega (arith, inside.1))
          front (x ∷ xs) (zero, within, is) = (0, omega arith, is)
          front (x ∷ xs) (suc k, within, is) = let later = front xs (k, omega (arith, within), is) in (suc later.0, omega (arith, later.1), later.2)
      by_volume false more = on

  pub tables_kept : (cs : List PlacedCell) → AreOnTables cells cs → AreOnTables cells_now cs
  tables_kept [] on = tt
  tables_kept (c ∷ cs) on = (table_kept c.at.vol c.at.page on.0, tables_kept cs on.1)

  -- and the cell is on one
  pub at_on : Contains (table_of cells_now at.vol) at.page
  at_on = subst (λ (t : List ℕ). Contains t at.page) (sym (takes.taken.tables at.vol)) (⊎_elim
      (λ had. subst (λ (c : Cells). Contains (table_of c at.vol) at.page) (sym had.same_cells)
      (allocated.belong.on_table at (subst (λ (c : Cells). is_free c at ≡ true) had.same_cells free_between)))
      (λ none.
      let place = and_parts (same_home (home_of at) none.home) (nat_lt at.cell 28) none.on in
      let same = homes_same (home_of at) none.home place.0 in
      subst (λ (t : List ℕ). Contains t at.page) (sym (none.adds.joins.tables at.vol))
      (subst (λ (b : Bool). Contains (cond b (table_of cells at.vol ++ none.home.page ∷ []) (table_of cells at.vol)) at.page) (sym (eq-eqb at.vol none.home.vol (ap (λ (h : Home). h.vol) same)))
      (last (table_of cells at.vol) none.home.page (sym (ap (λ (h : Home). h.page) same)))))
      takes.before)
    where
      free_between : is_free takes.between at ≡ true
      free_between = (and_parts (is_free takes.between at) (not (is_closed takes.between at.vol)) takes.free).0

      last : (xs : List ℕ) (p : ℕ) → p ≡ at.page → Contains (xs ++ p ∷ []) at.page
      last [] p is = (0, omega arith, is)
      last (x ∷ xs) p is = let later = last xs p is in (suc later.0, omega (arith, later.1), later.2)

  -- each cell that is handed out then is this one, or was before
  pub handed_now : (q : CellAt) → IsHandedOut cells_now q → IsHandedOut cells q ⊎ (at ≡ q)
  handed_now q now = by_place (is_at at q) refl
    where
      free_then : is_free cells_now q ≡ (not (is_at at q) && is_free takes.between q)
      free_then = takes.taken.cells q

      on_between : Contains (table_of takes.between q.vol) q.page
      on_between = subst (λ (t : List ℕ). Contains t q.page) (takes.taken.tables q.vol) now.on

      was_handed : is_free takes.between q ≡ false → IsHandedOut cells q
      was_handed none = ⊎_elim
          (λ had. record {
            on = subst (λ (c : Cells). Contains (table_of c q.vol) q.page) had.same_cells on_between;
            within = now.within;
            taken = subst (λ (c : Cells). is_free c q ≡ false) had.same_cells none;
          })
          (λ no_cell. let parts = or_parts (is_free cells q) (is_on no_cell.home q) (sym (no_cell.adds.joins.cells q) ∙ none) in record {
            on = on_old no_cell.home parts.1 (subst (λ (t : List ℕ). Contains t q.page) (no_cell.adds.joins.tables q.vol) on_between);
            within = now.within;
            taken = parts.0;
          })
          takes.before
        where
          on_old : (home : Home) → is_on home q ≡ false → Contains (with_page_last home cells q.vol) q.page → Contains (table_of cells q.vol) q.page
          on_old home off = by_volume (nat_eq q.vol home.vol) refl
            where
              by_volume : (b : Bool) → nat_eq q.vol home.vol ≡ b → Contains (cond b (table_of cells q.vol ++ home.page ∷ []) (table_of cells q.vol)) q.page → Contains (table_of cells q.vol) q.page
              by_volume true same there = ⊎_elim (λ was. was)
                  (λ is. absurd (true≢false (sym (and_from (same_home (home_of q) home) (nat_lt q.cell 28)
                  (and_from (nat_eq q.vol home.vol) (nat_eq q.page home.page) same (eq-eqb q.page home.page (sym is))) (lt-ltb q.cell 28 now.within)) ∙ off)))
                  (Contains-push_cases (table_of cells q.vol) home.page q.page there)
              by_volume false same there = there

      by_place : (b : Bool) → is_at at q ≡ b → IsHandedOut cells q ⊎ (at ≡ q)
      by_place true is = inr (at_same at q is)
      by_place false other = inl (was_handed (sym (ap (λ b. not b && is_free takes.between q) other) ∙ sym free_then ∙ now.taken))

  pub taken_elsewhere : LeavesOffTables cells_now old between
  taken_elsewhere h out = ⊎_elim
      (λ had. ap (λ (pages : Pages). pages h) had.same_pages)
      (λ none.
      let place = and_parts (same_home (home_of at) none.home) (nat_lt at.cell 28) none.on in
      let same : home_of at ≡ none.home = homes_same (home_of at) none.home place.0 in
      let vol : at.vol ≡ none.home.vol = ap (λ (h : Home). h.vol) same in
      let table = table_of cells none.home.vol in
      let some = allocated.table none.home.vol none.home.page (omega (arith, low, vol)) none.adds.free in
      let last : Contains table (last_home cells none.home.vol).page
      = (length table - 1, omega (arith, some), there_is table (length table - 1) (last_home cells none.home.vol).page 0 (omega (arith, some))) in
      none.adds.elsewhere h
      (⊎_elim (λ is. absurd (out (subst (λ (h : Home). Contains (table_of cells_now h.vol) h.page) (same ∙ sym (homes_same h none.home is)) at_on))) (λ is. is) (cases_Bool (same_home h none.home)))
      (⊎_elim (λ is. absurd (out (subst (λ (h : Home). Contains (table_of cells_now h.vol) h.page) (sym (homes_same h (last_home cells none.home.vol) is)) (table_kept none.home.vol (last_home cells none.home.vol).page last)))) (λ is. is)
      (cases_Bool (same_home h (last_home cells none.home.vol)))))
      takes.before

  -- ---- the chain with it

  module _ (zeros : cell_at between at ≡ Some (zero_bytes 292)) (new : Pages) (start : CellAt) (cell : Cell) (value : Record) (page : ℕ) (place : PagePlace) (is_map : IsMapRecord value)
      (at_page : (p : ℕ) → places_in value p ≡ with_place page place (λ _. Absent) p) (version : Version) (kind : kind_of value ≡ chain_kind version)
      (front_stands : StandsAt new start (record cell { head = record cell.head { next = Some at } }))
      (back_stands : StandsAt new at (record { head = record cell.head { kind = Chain }; records = value ∷ [] }))
      (others : LeavesOthers (λ q. is_at at q || is_at start q) between new) where
    abbrev front : PlacedCell
    front = record { at = start; cell = record cell { head = record cell.head { next = Some at } } }

    abbrev back : PlacedCell
    back = record { at = at; cell = record { head = record cell.head { kind = Chain }; records = value ∷ [] } }

    not_there : (q : CellAt) (c : Cell) → Contains (table_of cells q.vol) q.page → StandsAt old q c → ¬ at ≡ q
    not_there q c on stands = not_zeros between at q c zeros (stands_taken q c on stands)

    pub stands_on : (q : CellAt) (c : Cell) → Contains (table_of cells q.vol) q.page → ¬ start ≡ q → StandsAt old q c → StandsAt new q c
    stands_on q c on other stands =
        stands_stays between new (λ q. is_at at q || is_at start q) others q c
        (ap (λ (b : Bool). b || is_at start q) (at_apart at q (not_there q c on stands)) ∙ at_apart start q other) (stands_taken q c on stands)

    follow_on : (head : CellHead) (cs : List PlacedCell) → Follow old head cs → AreOnTables cells cs → ¬ Contains (places cs) start → Follow new head cs
    follow_on head [] follow on apart = follow
    follow_on head (c ∷ cs) follow on apart = (
      follow.0,
      follow.1,
      stands_on c.at c.cell on.0 (λ same. apart (in_first start c cs (sym same))) follow.2,
      follow_on c.cell.head cs follow.3 on.1 (λ inside. apart (in_later start c cs inside)),
    )

    apart_all : (head : CellHead) (cs : List PlacedCell) → Follow old head cs → AreOnTables cells cs → AllByRecursion (λ (c : PlacedCell). ¬ at ≡ c.at) cs
    apart_all head [] follow on = tt
    apart_all head (c ∷ cs) follow on = (not_there c.at c.cell on.0 follow.2, apart_all c.cell.head cs follow.3 on.1)

    behind_same : (cs : List PlacedCell) → cell.head.kind ≡ Primary → Follow new cell.head cs → Follow new (record cell.head { kind = Chain }) cs
    behind_same [] primary follow = follow
    behind_same (c ∷ cs) primary follow = (
      follow.0,
      follows_chain c.cell.head.kind (subst (λ (k : CellKind). may_follow k c.cell.head.kind ≡ true) primary follow.1),
      follow.2,
      follow.3,
    )

    -- the records
    module _ (c0 : PlacedCell) (rest : List PlacedCell) (v0 : Record) (map : HasMap c0.cell v0) (same : c0.cell ≡ cell) (one : AreOneMap (map_records (records_of (c0 ∷ rest)))) (absent : places_of (c0 ∷ rest) page ≡ Absent) where
      abbrev later : List Record
      later = map_records (records_of rest)

      abbrev after : List PlacedCell
      after = front ∷ back ∷ rest

      none : Record
      none = Parent 0 0

      abbrev olds : List Record
      olds = v0 ∷ Parent 0 0 ∷ later

      before_list : map_records (records_of (c0 ∷ rest)) ≡ v0 ∷ later
      before_list = one_front c0 v0 rest map

      front_map : HasMap front.cell v0
      front_map = record { only = (subst (λ (c : Cell). HasMap c v0) same map).only; is_map = map.is_map }

      back_map : HasMap back.cell value
      back_map = record { only = one_map_record value is_map; is_map = is_map }

      after_list : map_records (records_of after) ≡ v0 ∷ value ∷ later
      after_list = one_front front v0 (back ∷ rest) front_map ∙ ap (λ (rs : List Record). v0 ∷ rs) (one_front back value rest back_map)

      one_olds : AreOneMap olds
      one_olds = let one_list = subst AreOneMap before_list one in record { placed = one_list.placed; once = one_list.once }

      chain_same : (p : ℕ) → places_of (c0 ∷ rest) p ≡ place_of (runs_of olds) p
      chain_same p = ap (λ rs. place_of rs p) (runs_by_map (records_of (c0 ∷ rest))) ∙ ap (λ (rs : List Record). place_of (runs_of rs) p) before_list

      follows : ChangesChain page place olds (v0 ∷ value ∷ later)
      follows = one_page_follows olds 1 (Parent 0 0) value page place (omega arith) refl one_olds is_map (sym (chain_same page) ∙ absent) at_page

      one_after : AreOneMap (records_of after)
      one_after = one_map_back (records_of after) (subst AreOneMap (sym after_list) follows.one_map)

      places_after : (p : ℕ) → places_of after p ≡ with_place page place (places_of (c0 ∷ rest)) p
      places_after p =
          ap (λ rs. place_of rs p) (runs_by_map (records_of after)) ∙ ap (λ (rs : List Record). place_of (runs_of rs) p) after_list ∙ follows.places p
          ∙ ap (λ x. cond (nat_eq p page) place x) (sym (chain_same p))

    pub added : (chain : List PlacedCell) → IsFile old start chain → AreOnTables cells chain → StandsAt old start cell → places_of chain page ≡ Absent → ChangesOnTables start page place chain version cells cells_now old new
    added [] is on stands absent = absurd is
    added (c0 ∷ rest) is on stands absent =
        let file = is.1 in
        let same : c0.cell ≡ cell = one_stands old start c0.cell cell (subst (λ (a : CellAt). StandsAt old a c0.cell) is.0 file.links.stands) stands in
        let one = one_map_file old start (c0 ∷ rest) is in
        let outside : ¬ Contains (places rest) start = subst (λ (a : CellAt). ¬ Contains (places rest) a) is.0 file.links.distinct.0 in
        let primary : cell.head.kind ≡ Primary = subst (λ (c : Cell). c.head.kind ≡ Primary) same file.primary in
        let follow : Follow old cell.head rest = subst (λ (c : Cell). Follow old c.head rest) same file.links.follow in
        let on_start : Contains (table_of cells start.vol) start.page = subst (λ (a : CellAt). Contains (table_of cells a.vol) a.page) is.0 on.0 in
        record {
          changes = record {
            after = front ∷ back ∷ rest;
            is_file = (
              refl,
              record {
                links = record {
                  stands = front_stands;
                  follow = (
                    refl,
                    subst (λ (k : CellKind). may_follow k Chain ≡ true) (sym primary) refl,
                    back_stands,
                    behind_same rest primary (follow_on cell.head rest follow on.1 outside),
                  );
                  distinct = (
                    fresh_start on_start outside,
                    ((λ inside. all_at (λ (q : CellAt). ¬ at ≡ q) rest at (apart_all cell.head rest follow on.1) inside refl), file.links.distinct.1),
                  );
                };
                primary = primary;
                attributes = subst (λ (c : Cell). IsSome (record_of 1 c.records)) same file.attributes;
                value = file.value;
                map = front_map c0 rest file.value file.map same one absent;
                others = (record { value = value; only = refl; is_map = is_map }, file.others);
                one_map = one_after c0 rest file.value file.map same one absent;
              },
            );
            first = (sym is.0, ap (λ (c : Cell). record c.head { next = Some at }) (sym same), ap (λ (c : Cell). other_records c.records) (sym same), ap (λ (c : Cell). map_kinds c.records) (sym same));
            at = places_after c0 rest file.value file.map same one absent;
          };
          on_tables = (table_kept start.vol start.page on_start, (at_on, tables_kept rest on.1));
          joined = joined is.0;
          kept = kept is.0;
          same_kinds = kinds_on c0 front rest (back ∷ rest) (sym is.0) (ap (λ (c : Cell). map_kinds c.records) (sym same)) file.links.distinct.0
              (subst (λ (a : CellAt). ¬ Contains (places (back ∷ rest)) a) (sym is.0) (fresh_start on_start outside))
              (kinds_more back rest rest (λ inside. all_at (λ (q : CellAt). ¬ at ≡ q) rest at (apart_all cell.head rest follow on.1) inside refl) (kinds_same rest file.links.distinct.1));
          handed = λ q now. ⊎_elim (λ was. inl was) (λ same. inr (1, omega arith, same)) (handed_now q now);
        }
      where
        kept : c0.at ≡ start → (q : CellAt) → Contains (places (c0 ∷ rest)) q → Contains (places (front ∷ back ∷ rest)) q
        kept place q (zero, within, there) = (0, omega arith, sym place ∙ there)
        kept place q (suc k, within, there) = (suc (suc k), omega (arith, within), there)

        joined : c0.at ≡ start → (c : PlacedCell) → Contains (front ∷ back ∷ rest) c → ¬ Contains (places (c0 ∷ rest)) c.at → Joins cells old version c
        joined place c (zero, within, there) apart = absurd (apart (in_first c.at c0 rest (place ∙ ap (λ (c : PlacedCell). c.at) there)))
        joined place c (suc zero, within, there) apart = subst (Joins cells old version) there (record {
          was_free = λ cell stands on. not_there at cell on stands refl;
          kind = ap (map kind_of) (rows_true value [] (value_has_rows value is_map)) ∙ ap (λ (k : ℕ). k ∷ []) kind;
        })
        joined place c (suc (suc k), within, there) apart = absurd (apart (in_later c.at c0 rest (inside_places rest c (k, omega (arith, within), there))))

        fresh_start : Contains (table_of cells start.vol) start.page → ¬ Contains (places rest) start → ¬ Contains (places (back ∷ rest)) start
        fresh_start on_start outside (zero, within, there) = not_there start cell on_start stands there
        fresh_start on_start outside (suc k, within, there) = outside (k, omega (arith, within), there)

    pub other_stay : (chain : List PlacedCell) → IsFile old start chain → LeavesOtherCells cells chain old new
    other_stay [] is q c stands on apart = absurd is
    other_stay (c0 ∷ rest) is q c stands on apart = stands_on q c on (λ same. apart (in_first q c0 rest (is.0 ∙ same))) stands

-- ---- a file's first cell

pub first_cell : (pages : Pages) (start : CellAt) (chain : List PlacedCell) → IsFile pages start chain → (cell : Cell) × StandsAt pages start cell
first_cell pages start [] is = absurd is
first_cell pages start (c ∷ rest) is = (c.cell, subst (λ (a : CellAt). StandsAt pages a c.cell) is.0 is.1.links.stands)

pub start_on : (pages : Pages) (cells : Cells) (start : CellAt) (chain : List PlacedCell) → IsFile pages start chain → AreOnTables cells chain → Contains (table_of cells start.vol) start.page
start_on pages cells start [] is on = absurd is
start_on pages cells start (c ∷ rest) is on = subst (λ (a : CellAt). Contains (table_of cells a.vol) a.page) is.0 on.0

-- a page off the tables is none of a cell's that stands on them
pub off_table : (cells : Cells) (q : CellAt) (h : Home) → Contains (table_of cells q.vol) q.page → ¬ Contains (table_of cells h.vol) h.page → same_home h (home_of q) ≡ false
off_table cells q h on out =
    ⊎_elim (λ is. absurd (out (subst (λ (h : Home). Contains (table_of cells h.vol) h.page) (sym (homes_same h (home_of q) is)) on))) (λ is. is) (cases_Bool (same_home h (home_of q)))

pub off_tables : (cells : Cells) (chain : List PlacedCell) (h : Home) → AreOnTables cells chain → ¬ Contains (table_of cells h.vol) h.page → AllByRecursion (λ (c : PlacedCell). same_home h (home_of c.at) ≡ false) chain
off_tables cells [] h on out = tt
off_tables cells (c ∷ cs) h on out = (off_table cells c.at h on.0 out, off_tables cells cs h on.1 out)
