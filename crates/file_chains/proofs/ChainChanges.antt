-- A chain with another record in one of its cells that says where pages stand.
use Rattle.std.proofs.Common.{◌≡◌, ◌∙◌, ℕ, zero, suc, ◌<◌, ◌&&◌, true, false, cond, nat_eq, List, [], ◌∷◌, ◌++◌, get_or, set, map, length, Some, IsSome, Contains, refl, sym, ap, subst, arith, ⊎_elim}
use Rattle.std.proofs.lemmas.Bool.{and_parts, cases_Bool, eqb-true}
use Rattle.std.specs.List.{AllByRecursion}
use Rattle.free_cells.specs.domain_base.declared.place.CellAt.{CellAt}
use Rattle.free_cells.specs.page_store.Pages.{Pages}
use Rattle.free_cells.specs.cell_records.declared.record.Record.{Record}
use Rattle.free_cells.specs.cell_records.Records.{kind_of}
use Rattle.free_cells.specs.metadata_cells.declared.head.CellHead.{CellHead}
use Rattle.free_cells.specs.metadata_cells.declared.head.CellKind.TheVariants.{Primary}
use Rattle.free_cells.specs.metadata_cells.Cell.{Cell, record_of}
use Rattle.free_cells.specs.metadata_cells.Chain.{AreDistinct, Follow, LeavesOthers, PlacedCell, StandsAt, is_at, may_follow, places, records_of}
use Rattle.free_cells.proofs.OfMetadataCells.Frames.{stands_stays}
use Rattle.extent_records.specs.extent_maps.declared.run.PagePlace.{PagePlace}
use Rattle.extent_records.specs.extent_maps.declared.run.PagePlace.TheVariants.{Absent, At, Hole}
use Rattle.extent_records.specs.extent_maps.Runs.{place_of, with_place}
use Rattle.extent_records.proofs.OfExtentMaps.EditLemmas.{over}
use Rattle.extent_records.specs.Rows.{AreOneMap, runs_of}
use Rattle.extent_records.specs.Chains.{CanTake, ChangesChain}
use Rattle.extent_records.specs.Writing.{places_in}
use Rattle.extent_records.proofs.ChainLemmas.{one_page_follows}
use Rattle.file_chains.specs.Changes.{with_record}
use Rattle.file_chains.specs.FileChanges.{ChangesPage, KeepKinds, SameFirst, map_kinds, other_records}
use Rattle.file_chains.specs.Files.{HasMap, IsFile, IsMapCell, map_records, places_of}
use Rattle.file_chains.specs.MapChanges.{ChangesInPlace, ChangesMap, LeavesApart}
use Rattle.file_chains.proofs.Gathers.{map_append, mapped_all, one_map_file, values, values_are}
use Rattle.file_chains.proofs.MapRecords.{one_map_back, rows_kind, runs_by_map, value_has_rows}
use Rattle.file_chains.proofs.OneRecord.{has_after, map_cell_after, only_after, others_same, still_found}
use Rattle.file_chains.proofs.Walks.{Mapped, cell_places, distinct_file, first_places}

-- ---- addresses

address : ℕ → ℕ → ℕ → CellAt
address vol page cell = record { vol = vol; page = page; cell = cell }

pub at_same : (a b : CellAt) → is_at a b ≡ true → a ≡ b
at_same a b same =
    let outer = and_parts (nat_eq a.vol b.vol) (nat_eq a.page b.page && nat_eq a.cell b.cell) same in
    let inner = and_parts (nat_eq a.page b.page) (nat_eq a.cell b.cell) outer.1 in
    let vol = eqb-true a.vol b.vol outer.0 in
    let page = eqb-true a.page b.page inner.0 in
    let cell = eqb-true a.cell b.cell inner.1 in
    (λ i. record { vol = vol i; page = page i; cell = cell i })

pub at_apart : (a b : CellAt) → ¬ a ≡ b → is_at a b ≡ false
at_apart a b other = ⊎_elim (λ same. absurd (other (at_same a b same))) (λ is. is) (cases_Bool (is_at a b))

pub in_later : (a : CellAt) (c : PlacedCell) (cs : List PlacedCell) → Contains (places cs) a → Contains (places (c ∷ cs)) a
in_later a c cs (k, within, is) = (suc k, omega (arith, within), is)

pub in_first : (a : CellAt) (c : PlacedCell) (cs : List PlacedCell) → c.at ≡ a → Contains (places (c ∷ cs)) a
in_first a c cs is = (0, omega arith, is)

-- a cell of a chain stands at one of its places
pub inside_places : (cs : List PlacedCell) (c : PlacedCell) → Contains cs c → Contains (places cs) c.at
inside_places [] c (k, within, is) = absurd (omega (arith, within))
inside_places (x ∷ xs) c (zero, within, is) = in_first c.at x xs (ap (λ (c : PlacedCell). c.at) is)
inside_places (x ∷ xs) c (suc k, within, is) = in_later c.at x xs (inside_places xs c (k, omega (arith, within), is))

-- ---- chains whose cells say where pages stand in records of the kinds that they had

-- chains that keep kinds, each after a cell that does
pub kinds_on : (c d : PlacedCell) (cs ds : List PlacedCell) → d.at ≡ c.at → map_kinds d.cell.records ≡ map_kinds c.cell.records → ¬ Contains (places cs) c.at → ¬ Contains (places ds) c.at → KeepKinds cs ds → KeepKinds (c ∷ cs) (d ∷ ds)
kinds_on c d cs ds same kinds apart apart_now keep was now (zero, within, is) (zero, within_now, is_now) at =
    ap (λ (p : PlacedCell). map_kinds p.cell.records) (sym is_now) ∙ kinds ∙ ap (λ (p : PlacedCell). map_kinds p.cell.records) is
kinds_on c d cs ds same kinds apart apart_now keep was now (zero, within, is) (suc k, within_now, is_now) at =
    absurd (apart_now (subst (Contains (places ds)) (at ∙ ap (λ (p : PlacedCell). p.at) (sym is)) (inside_places ds now (k, omega (arith, within_now), is_now))))
kinds_on c d cs ds same kinds apart apart_now keep was now (suc k, within, is) (zero, within_now, is_now) at =
    absurd (apart (subst (Contains (places cs)) (sym at ∙ ap (λ (p : PlacedCell). p.at) (sym is_now) ∙ same) (inside_places cs was (k, omega (arith, within), is))))
kinds_on c d cs ds same kinds apart apart_now keep was now (suc k, within, is) (suc j, within_now, is_now) at =
    keep was now (k, omega (arith, within), is) (j, omega (arith, within_now), is_now) at

-- with a cell more that was none of the chain
pub kinds_more : (d : PlacedCell) (cs ds : List PlacedCell) → ¬ Contains (places cs) d.at → KeepKinds cs ds → KeepKinds cs (d ∷ ds)
kinds_more d cs ds apart keep was now there (zero, within, is) at =
    absurd (apart (subst (Contains (places cs)) (sym at ∙ ap (λ (p : PlacedCell). p.at) (sym is)) (inside_places cs was there)))
kinds_more d cs ds apart keep was now there (suc k, within, is) at = keep was now there (k, omega (arith, within), is) at

pub kinds_same : (cs : List PlacedCell) → AreDistinct cs → KeepKinds cs cs
kinds_same [] distinct = λ was now there. absurd (omega (arith, there.1))
kinds_same (c ∷ cs) distinct = kinds_on c c cs cs refl refl distinct.0 distinct.0 (kinds_same cs distinct.1)

-- ---- the cell at a place of a chain

abbrev pub set_cell : ℕ → Cell → List PlacedCell → List PlacedCell
set_cell i cell [] = []
set_cell zero cell (c ∷ cs) = record { at = c.at; cell = cell } ∷ cs
set_cell (suc i) cell (c ∷ cs) = c ∷ set_cell i cell cs

pub places_set : (i : ℕ) (cell : Cell) (cs : List PlacedCell) → places (set_cell i cell cs) ≡ places cs
places_set i cell [] = refl
places_set zero cell (c ∷ cs) = refl
places_set (suc i) cell (c ∷ cs) = ap (λ (ps : List CellAt). c.at ∷ ps) (places_set i cell cs)

distinct_set : (i : ℕ) (cell : Cell) (cs : List PlacedCell) → AreDistinct cs → AreDistinct (set_cell i cell cs)
distinct_set i cell [] distinct = tt
distinct_set zero cell (c ∷ cs) distinct = distinct
distinct_set (suc i) cell (c ∷ cs) distinct = (
  (λ there. distinct.0 (subst (λ (ps : List CellAt). Contains ps c.at) (places_set i cell cs) there)),
  distinct_set i cell cs distinct.1,
)

abbrev pub IsThere : ℕ → List PlacedCell → CellAt → Cell → Type 0
IsThere i cs at cell = (i < length cs) × ((d : PlacedCell) → get_or cs i d ≡ record { at = at; cell = cell })

pub is_inside : (i : ℕ) (cs : List PlacedCell) (at : CellAt) (cell : Cell) → IsThere i cs at cell → Contains (places cs) at
is_inside i [] at cell there = absurd (omega (arith, there.0))
is_inside zero (c ∷ cs) at cell there = in_first at c cs (ap (λ (c : PlacedCell). c.at) (there.1 c))
is_inside (suc i) (c ∷ cs) at cell there = in_later at c cs (is_inside i cs at cell (omega (arith, there.0), there.1))

-- the cell at a place, which stands there
pub record Picks (pages : Pages) (i : ℕ) (at : CellAt) (value : Record) (cs : List PlacedCell) : Type 0 where
  pub cell : Cell
  pub is_there : IsThere i cs at cell
  pub stands : StandsAt pages at cell
  pub map : HasMap cell value
  pub inside : Contains (places cs) at
  pub within : i < length (map_records (records_of cs))
  pub there : get_or (map_records (records_of cs)) i value ≡ value
  pub others : (after : Cell) (v : Record) → HasMap after v → map_records (records_of (set_cell i after cs)) ≡ set (map_records (records_of cs)) i v

pub one_front : (c : PlacedCell) (value : Record) (cs : List PlacedCell) → HasMap c.cell value → map_records (records_of (c ∷ cs)) ≡ value ∷ map_records (records_of cs)
one_front c value cs map = map_append c.cell.records (records_of cs) ∙ ap (λ (rs : List Record). rs ++ map_records (records_of cs)) map.only

stand_all : (pages : Pages) (head : CellHead) (cs : List PlacedCell) → Follow pages head cs → AllByRecursion (λ (c : PlacedCell). StandsAt pages c.at c.cell) cs
stand_all pages head [] follow = tt
stand_all pages head (c ∷ cs) follow = (follow.2, stand_all pages c.cell.head cs follow.3)

pub stand_file : (pages : Pages) (start : CellAt) (cells : List PlacedCell) → IsFile pages start cells → AllByRecursion (λ (c : PlacedCell). StandsAt pages c.at c.cell) cells
stand_file pages start [] is = tt
stand_file pages start (first ∷ rest) is = (is.1.links.stands, stand_all pages first.cell.head rest is.1.links.follow)

-- what stands at a place of the list of addresses, and of records, is of one cell
pub picks : (pages : Pages) (i : ℕ) (at : CellAt) (value : Record) (cs : List PlacedCell) → AllByRecursion (λ (c : PlacedCell). StandsAt pages c.at c.cell) cs → (all : AllByRecursion Mapped cs) → i < length (values cs all) → get_or (places cs) i at ≡ at → get_or (values cs all) i value ≡ value → Picks pages i at value cs
picks pages i at value [] stand all within place there = absurd (omega (arith, within))
picks pages zero at value (c ∷ cs) stand all within place there =
    let map = subst (HasMap c.cell) there all.0.map in
    record {
      cell = c.cell;
      is_there = (omega arith, λ d. ap (λ (a : CellAt). record c { at = a }) place);
      stands = subst (λ (a : CellAt). StandsAt pages a c.cell) place stand.0;
      map = map;
      inside = in_first at c cs place;
      within = omega (arith, ap length (one_front c value cs map));
      there = ap (λ (rs : List Record). get_or rs 0 value) (one_front c value cs map);
      others = λ after v has. one_front (record { at = c.at; cell = after }) v cs has ∙ sym (ap (λ (rs : List Record). set rs 0 v) (one_front c value cs map));
    }
picks pages (suc i) at value (c ∷ cs) stand all within place there =
    let later = picks pages i at value cs stand.1 all.1 (omega (arith, within)) place there in
    let front = one_front c all.0.value cs all.0.map in
    record {
      cell = later.cell;
      is_there = (omega (arith, later.is_there.0), later.is_there.1);
      stands = later.stands;
      map = later.map;
      inside = in_later at c cs later.inside;
      within = omega (arith, ap length front, later.within);
      there = ap (λ (rs : List Record). get_or rs (suc i) value) front ∙ later.there;
      others = λ after v has. one_front c all.0.value (set_cell i after cs) all.0.map ∙ ap (λ (rs : List Record). all.0.value ∷ rs) (later.others after v has)
          ∙ sym (ap (λ (rs : List Record). set rs (suc i) v) front);
    }

-- ---- the chain then

-- cells apart from the one that is changed
apart_stands : (old new : Pages) (at : CellAt) → LeavesOthers (is_at at) old new → (c : PlacedCell) → ¬ at ≡ c.at → StandsAt old c.at c.cell → StandsAt new c.at c.cell
apart_stands old new at leaves c other stands = stands_stays old new (is_at at) leaves c.at c.cell (at_apart at c.at other) stands

pub follow_apart : (old new : Pages) (at : CellAt) → LeavesOthers (is_at at) old new → (head : CellHead) (cs : List PlacedCell) → ¬ Contains (places cs) at → Follow old head cs → Follow new head cs
follow_apart old new at leaves head [] apart follow = follow
follow_apart old new at leaves head (c ∷ cs) apart follow = (
  follow.0,
  follow.1,
  apart_stands old new at leaves c (λ same. apart (in_first at c cs (sym same))) follow.2,
  follow_apart old new at leaves c.cell.head cs (λ there. apart (in_later at c cs there)) follow.3,
)

module _ (old new : Pages) (at : CellAt) (value : Record) (page : ℕ) (place : PagePlace) (changes : ChangesMap at value page place old new) (leaves : LeavesOthers (is_at at) old new) where
  abbrev pub cell_after : Cell → Cell
  cell_after cell = with_record (kind_of value) (Some changes.after) cell

  -- after a cell that is not changed
  follow_set : (i : ℕ) (cell : Cell) (head : CellHead) (cs : List PlacedCell) → AreDistinct cs → IsThere i cs at cell → StandsAt old at cell → Follow old head cs → Follow new head (set_cell i (cell_after cell) cs)
  follow_set i cell head [] distinct there stands follow = absurd (omega (arith, there.0))
  follow_set zero cell head (x ∷ cs) distinct there stands follow =
      let place : x.at ≡ at = ap (λ (c : PlacedCell). c.at) (there.1 x) in
      let of : x.cell ≡ cell = ap (λ (c : PlacedCell). c.cell) (there.1 x) in (
        follow.0,
        subst (λ (c : Cell). may_follow head.kind c.head.kind ≡ true) of follow.1,
        subst (λ (a : CellAt). StandsAt new a (cell_after cell)) (sym place) (changes.cell cell stands),
        follow_apart old new at leaves cell.head cs (λ inside. distinct.0 (subst (Contains (places cs)) (sym place) inside)) (subst (λ (c : Cell). Follow old c.head cs) of follow.3),
      )
  follow_set (suc i) cell head (x ∷ cs) distinct there stands follow =
      let inside = is_inside i cs at cell (omega (arith, there.0), there.1) in (
        follow.0,
        follow.1,
        apart_stands old new at leaves x (λ same. distinct.0 (subst (Contains (places cs)) same inside)) follow.2,
        follow_set i cell x.cell.head cs distinct.1 (omega (arith, there.0), there.1) stands follow.3,
      )

  map_cells_set : (i : ℕ) (cell : Cell) (cs : List PlacedCell) → IsThere i cs at cell → HasMap cell value → AllByRecursion (λ (c : PlacedCell). IsMapCell c.cell) cs → AllByRecursion (λ (c : PlacedCell). IsMapCell c.cell) (set_cell i (cell_after cell) cs)
  map_cells_set i cell [] there map all = tt
  map_cells_set zero cell (c ∷ cs) there map all =
      (map_cell_after value changes.after changes.is_map changes.same_kind cell map (subst IsMapCell (ap (λ (c : PlacedCell). c.cell) (there.1 c)) all.0), all.1)
  map_cells_set (suc i) cell (c ∷ cs) there map all = (all.0, map_cells_set i cell cs (omega (arith, there.0), there.1) map all.1)

  -- its record is of the kind that it was
  kinds_after : (cell : Cell) → HasMap cell value → map_kinds (cell_after cell).records ≡ map_kinds cell.records
  kinds_after cell has =
      ap (map kind_of) (only_after value changes.after changes.is_map changes.same_kind cell.records has.only) ∙ ap (λ (k : ℕ). k ∷ []) changes.same_kind ∙ sym (ap (map kind_of) has.only)

  kinds_set : (i : ℕ) (cell : Cell) (cs : List PlacedCell) → AreDistinct cs → IsThere i cs at cell → HasMap cell value → KeepKinds cs (set_cell i (cell_after cell) cs)
  kinds_set i cell [] distinct there has = absurd (omega (arith, there.0))
  kinds_set zero cell (c ∷ cs) distinct there has =
      kinds_on c (record { at = c.at; cell = cell_after cell }) cs cs refl (kinds_after cell has ∙ ap (λ (c : PlacedCell). map_kinds c.cell.records) (sym (there.1 c))) distinct.0 distinct.0 (kinds_same cs distinct.1)
  kinds_set (suc i) cell (c ∷ cs) distinct there has =
      kinds_on c c cs (set_cell i (cell_after cell) cs) refl refl distinct.0 (distinct_set (suc i) (cell_after cell) (c ∷ cs) distinct).0 (kinds_set i cell cs distinct.1 (omega (arith, there.0), there.1) has)

  -- the file's map is changed at this page
  module _ (start : CellAt) (chain : List PlacedCell) (is : IsFile old start chain) (i : ℕ) (p : Picks old i at value chain) (there : places_of chain page ≡ places_in value page) where
    abbrev now : List PlacedCell
    now = set_cell i (cell_after p.cell) chain

    map_now : map_records (records_of now) ≡ set (map_records (records_of chain)) i changes.after
    map_now = p.others (cell_after p.cell) changes.after (has_after value changes.after changes.is_map changes.same_kind p.cell p.map)

    one_map_chain : AreOneMap (map_records (records_of chain))
    one_map_chain = one_map_file old start chain is

    follows : ChangesChain page place (map_records (records_of chain)) (map_records (records_of now))
    follows =
        subst (ChangesChain page place (map_records (records_of chain))) (sym map_now)
        (one_page_follows (map_records (records_of chain)) i value changes.after page place p.within p.there one_map_chain changes.is_map
        (ap (λ rs. place_of rs page) (sym (runs_by_map (records_of chain))) ∙ there) changes.at_page)

    one_map_now : AreOneMap (records_of now)
    one_map_now = one_map_back (records_of now) follows.one_map

    pub at_now : (q : ℕ) → places_of now q ≡ with_place page place (places_of chain) q
    at_now q =
        ap (λ rs. place_of rs q) (runs_by_map (records_of now)) ∙ follows.places q
        ∙ ap (λ x. cond (nat_eq q page) place x) (ap (λ rs. place_of rs q) (sym (runs_by_map (records_of chain))))

  -- and its chain is a file's still
  record Stays (start : CellAt) (chain after : List PlacedCell) : Type 0 where
    is_file : IsFile new start after
    first : SameFirst chain after

  stays : (start : CellAt) (chain : List PlacedCell) (is : IsFile old start chain) (i : ℕ) (p : Picks old i at value chain) → AreOneMap (records_of (set_cell i (cell_after p.cell) chain)) → Stays start chain (set_cell i (cell_after p.cell) chain)
  stays start [] is i p one = absurd is
  stays start (first ∷ rest) is zero p one =
      let place : first.at ≡ at = ap (λ (c : PlacedCell). c.at) (p.is_there.1 first) in
      let of : first.cell ≡ p.cell = ap (λ (c : PlacedCell). c.cell) (p.is_there.1 first) in
      record {
        is_file = (
          is.0,
          record {
            links = record {
              stands = subst (λ (a : CellAt). StandsAt new a (cell_after p.cell)) (sym place) (changes.cell p.cell p.stands);
              follow = follow_apart old new at leaves p.cell.head rest (λ inside. is.1.links.distinct.0 (subst (Contains (places rest)) (sym place) inside)) (subst (λ (c : Cell). Follow old c.head rest) of is.1.links.follow);
              distinct = is.1.links.distinct;
            };
            primary = subst (λ (c : Cell). c.head.kind ≡ Primary) of is.1.primary;
            attributes = still_found value changes.after changes.is_map changes.same_kind 1 p.cell.records (rows_kind value (value_has_rows value p.map.is_map))
                (subst (λ (c : Cell). IsSome (record_of 1 c.records)) of is.1.attributes);
            value = changes.after;
            map = has_after value changes.after changes.is_map changes.same_kind p.cell p.map;
            others = is.1.others;
            one_map = one;
          },
        );
        first = (
          refl,
          subst (λ (c : Cell). c.head ≡ record first.cell.head { next = c.head.next }) of refl,
          others_same value changes.after changes.is_map changes.same_kind p.cell.records p.stands.is.well_formed ∙ ap (λ (c : Cell). other_records c.records) (sym of),
          kinds_after p.cell p.map ∙ ap (λ (c : Cell). map_kinds c.records) (sym of),
        );
      }
  stays start (first ∷ rest) is (suc i) p one =
      let there : IsThere i rest at p.cell = (omega (arith, p.is_there.0), p.is_there.1) in
      let apart : ¬ at ≡ first.at = (λ same. is.1.links.distinct.0 (subst (Contains (places rest)) same (is_inside i rest at p.cell there))) in
      record {
        is_file = (
          is.0,
          record {
            links = record {
              stands = apart_stands old new at leaves first apart is.1.links.stands;
              follow = follow_set i p.cell first.cell.head rest is.1.links.distinct.1 there p.stands is.1.links.follow;
              distinct = distinct_set (suc i) (cell_after p.cell) (first ∷ rest) is.1.links.distinct;
            };
            primary = is.1.primary;
            attributes = is.1.attributes;
            value = is.1.value;
            map = is.1.map;
            others = map_cells_set i p.cell rest there p.map is.1.others;
            one_map = one;
          },
        );
        first = (refl, refl, refl, refl);
      }

  pub page_changes : (start : CellAt) (chain : List PlacedCell) (is : IsFile old start chain) (i : ℕ) (p : Picks old i at value chain) → places_of chain page ≡ places_in value page → ChangesPage start page place chain new
  page_changes start chain is i p there =
      let s = stays start chain is i p (one_map_now start chain is i p there) in
      record {
        after = set_cell i (cell_after p.cell) chain;
        is_file = s.is_file;
        first = s.first;
        at = at_now start chain is i p there;
      }

  pub in_place : (start : CellAt) (chain : List PlacedCell) (is : IsFile old start chain) (i : ℕ) (p : Picks old i at value chain) → places_of chain page ≡ places_in value page → ChangesInPlace start page place chain new
  unfolding page_changes
  in_place start chain is i p there = record {
    changes = page_changes start chain is i p there;
    same_cells = places_set i (cell_after p.cell) chain;
    same_kinds = kinds_set i p.cell chain (distinct_file old start chain is) p.is_there p.map;
  }

  -- where the cell is one of the chain, all but the chain stays
  pub apart_stays : (chain : List PlacedCell) → Contains (places chain) at → LeavesApart chain old new
  apart_stays chain inside q apart = leaves q (at_apart at q (λ same. apart (subst (Contains (places chain)) same inside)))

-- ---- which records can take a page

absent_both : (x y : PagePlace) → over x y ≡ Absent → (x ≡ Absent) × (y ≡ Absent)
absent_both Absent y is = (refl, is)
absent_both (At home) y is = absurd (not_absent is)
  where
    not_absent : At home ≡ Absent → ⊥
    not_absent is = cc
absent_both Hole y is = absurd (not_absent is)
  where
    not_absent : Hole ≡ Absent → ⊥
    not_absent is = cc

can_take_values : (page : ℕ) (cs : List PlacedCell) (all : AllByRecursion Mapped cs) → places_of cs page ≡ Absent → AllByRecursion (CanTake page) (values cs all)
can_take_values page [] all absent = tt
can_take_values page (c ∷ cs) all absent =
    let both = absent_both (place_of (runs_of c.cell.records) page) (places_of cs page) (sym (first_places c cs page) ∙ absent) in (
      record { is_map = λ _. all.0.map.is_map; absent = sym (cell_places c.cell all.0.value page all.0.map) ∙ both.0 },
      can_take_values page cs all.1 both.1,
    )

pub can_take_all : (pages : Pages) (start : CellAt) (page : ℕ) (cs : List PlacedCell) → IsFile pages start cs → places_of cs page ≡ Absent → AllByRecursion (CanTake page) (map_records (records_of cs))
can_take_all pages start page cs is absent =
    let all = mapped_all pages start cs is in
    subst (AllByRecursion (CanTake page)) (sym (values_are cs all)) (can_take_values page cs all absent)
