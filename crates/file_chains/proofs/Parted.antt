-- A file in which one cell's record is parted, and the second part stands in a cell right after it.
use Rattle.std.proofs.Common.{◌≡◌, ◌∙◌, ℕ, zero, suc, ◌<◌, ◌||◌, ◌⊎◌, Bool, true, cond, nat_eq, List, [], ◌∷◌, ◌++◌, map, take, drop, length, Some, IsSome, Contains, refl, sym, ap, subst, arith, ⊎_elim, inl, inr}
use Rattle.std.proofs.lemmas.Bool.{true≢false}
use Rattle.std.specs.List.{AllByRecursion}
use Rattle.free_cells.specs.domain_base.declared.place.CellAt.{CellAt}
use Rattle.free_cells.specs.domain_base.declared.version.Version.{Version}
use Rattle.free_cells.specs.page_store.Pages.{Pages}
use Rattle.free_cells.specs.cell_records.declared.record.Record.{Record}
use Rattle.free_cells.specs.cell_records.Records.{kind_of}
use Rattle.free_cells.specs.metadata_cells.declared.head.CellHead.{CellHead}
use Rattle.free_cells.specs.metadata_cells.declared.head.CellKind.{CellKind}
use Rattle.free_cells.specs.metadata_cells.declared.head.CellKind.TheVariants.{Primary, Chain, Quota, Volume}
use Rattle.free_cells.specs.metadata_cells.Cell.{Cell, record_of}
use Rattle.free_cells.specs.metadata_cells.Chain.{AreDistinct, Follow, PlacedCell, StandsAt, is_at, may_follow, places, records_of}
use Rattle.free_cells.proofs.OfMetadataCells.Frames.{stands_stays}
use Rattle.extent_records.specs.extent_maps.declared.run.PagePlace.{PagePlace}
use Rattle.extent_records.specs.extent_maps.Runs.{place_of, with_place}
use Rattle.extent_records.specs.Rows.{AreOneMap}
use Rattle.extent_records.specs.Chains.{ChangesChain}
use Rattle.extent_records.specs.Writing.{chain_kind, places_in}
use Rattle.extent_records.proofs.ChainLemmas.{parts_change}
use Rattle.free_cells.specs.Cells.{Cells, table_of}
use Rattle.free_cells.specs.free_space.Spaces.{Spaces}
use Rattle.file_chains.specs.Allocated.{AreAllocated}
use Rattle.file_chains.specs.FileChanges.{AreOnTables, KeepKinds, LeavesOtherCells, SameFirst, map_kinds, other_records}
use Rattle.file_chains.specs.Files.{HasMap, IsFile, IsMapCell, map_records, places_of}
use Rattle.file_chains.specs.MapChanges.{ChangesOnTables, Joins}
use Rattle.file_chains.specs.Moving.{PartsCell, front_cell, tail_cell}
use Rattle.file_chains.proofs.Added.{at_on, follows_chain, handed_now, not_zeros, stands_taken, table_kept, tables_kept}
use Rattle.file_chains.proofs.ChainChanges.{IsThere, Picks, at_apart, in_first, in_later, inside_places, is_inside, kinds_more, kinds_on, kinds_same, one_front, stand_file}
use Rattle.file_chains.proofs.Chosen.{all_at}
use Rattle.file_chains.proofs.Gathers.{mapped_all, one_map_file, values, values_are}
use Rattle.file_chains.proofs.MapRecords.{one_map_back, one_map_record, rows_kind, runs_by_map, value_has_rows}
use Rattle.file_chains.proofs.OneRecord.{map_cell_after, only_after, others_same, still_found}
use Rattle.file_chains.proofs.Walks.{Mapped, distinct_file}

-- ---- the cells, one of which is another, and one comes after it

abbrev pub part_at : ℕ → Cell → PlacedCell → List PlacedCell → List PlacedCell
part_at i cell back [] = []
part_at zero cell back (c ∷ cs) = record { at = c.at; cell = cell } ∷ back ∷ cs
part_at (suc i) cell back (c ∷ cs) = c ∷ part_at i cell back cs

module _ (cell : Cell) (back : PlacedCell) where
  part_in : (i : ℕ) (cs : List PlacedCell) (c : PlacedCell) → Contains (part_at i cell back cs) c → Contains (places cs) c.at ⊎ (back ≡ c)
  part_in i [] c inside = absurd (omega (arith, inside.1))
  part_in zero (x ∷ xs) c (zero, within, is) = inl (in_first c.at x xs (ap (λ (c : PlacedCell). c.at) is))
  part_in zero (x ∷ xs) c (suc zero, within, is) = inr is
  part_in zero (x ∷ xs) c (suc (suc k), within, is) = inl (in_later c.at x xs (inside_places xs c (k, omega (arith, within), is)))
  part_in (suc i) (x ∷ xs) c (zero, within, is) = inl (in_first c.at x xs (ap (λ (c : PlacedCell). c.at) is))
  part_in (suc i) (x ∷ xs) c (suc k, within, is) =
      ⊎_elim (λ inside. inl (in_later c.at x xs inside)) (λ same. inr same) (part_in i xs c (k, omega (arith, within), is))

  place_in : (i : ℕ) (cs : List PlacedCell) (at : CellAt) → Contains (places (part_at i cell back cs)) at → Contains (places cs) at ⊎ (back.at ≡ at)
  place_in i [] at inside = absurd (omega (arith, inside.1))
  place_in zero (x ∷ xs) at (zero, within, is) = inl (in_first at x xs is)
  place_in zero (x ∷ xs) at (suc zero, within, is) = inr is
  place_in zero (x ∷ xs) at (suc (suc k), within, is) = inl (in_later at x xs (k, omega (arith, within), is))
  place_in (suc i) (x ∷ xs) at (zero, within, is) = inl (in_first at x xs is)
  place_in (suc i) (x ∷ xs) at (suc k, within, is) =
      ⊎_elim (λ inside. inl (in_later at x xs inside)) (λ same. inr same) (place_in i xs at (k, omega (arith, within), is))

  -- all places stay, and the new one is there
  place_kept : (i : ℕ) (cs : List PlacedCell) (at : CellAt) → Contains (places cs) at → Contains (places (part_at i cell back cs)) at
  place_kept i [] at inside = absurd (omega (arith, inside.1))
  place_kept zero (x ∷ xs) at (zero, within, is) = (0, omega arith, is)
  place_kept zero (x ∷ xs) at (suc k, within, is) = (suc (suc k), omega (arith, within), is)
  place_kept (suc i) (x ∷ xs) at (zero, within, is) = (0, omega arith, is)
  place_kept (suc i) (x ∷ xs) at (suc k, within, is) = in_later at x (part_at i cell back xs) (place_kept i xs at (k, omega (arith, within), is))

  back_inside : (i : ℕ) (cs : List PlacedCell) → i < length cs → Contains (places (part_at i cell back cs)) back.at
  back_inside i [] within = absurd (omega (arith, within))
  back_inside zero (x ∷ xs) within = (1, omega arith, refl)
  back_inside (suc i) (x ∷ xs) within = in_later back.at x (part_at i cell back xs) (back_inside i xs (omega (arith, within)))

  distinct_part : (i : ℕ) (cs : List PlacedCell) → ¬ Contains (places cs) back.at → AreDistinct cs → AreDistinct (part_at i cell back cs)
  distinct_part i [] apart distinct = tt
  distinct_part zero (c ∷ cs) apart distinct = (first, ((λ inside. apart (in_later back.at c cs inside)), distinct.1))
    where
      first : ¬ Contains (places (back ∷ cs)) c.at
      first (zero, within, is) = apart (in_first back.at c cs (sym is))
      first (suc k, within, is) = distinct.0 (k, omega (arith, within), is)
  distinct_part (suc i) (c ∷ cs) apart distinct = (
    (λ inside. ⊎_elim (λ later. distinct.0 later) (λ same. apart (in_first back.at c cs (sym same))) (place_in i cs c.at inside)),
    distinct_part i cs (λ inside. apart (in_later back.at c cs inside)) distinct.1,
  )

-- ---- kinds of cells that may follow

chain_next : (k next : CellKind) → may_follow k Chain ≡ true → may_follow k next ≡ true → may_follow next Chain ≡ true
chain_next Primary Primary a b = absurd (true≢false (sym b))
chain_next Primary Chain a b = refl
chain_next Primary Quota a b = absurd (true≢false (sym b))
chain_next Primary Volume a b = absurd (true≢false (sym b))
chain_next Chain Primary a b = absurd (true≢false (sym b))
chain_next Chain Chain a b = refl
chain_next Chain Quota a b = absurd (true≢false (sym b))
chain_next Chain Volume a b = absurd (true≢false (sym b))
chain_next Quota next a b = absurd (true≢false (sym a))
chain_next Volume next a b = absurd (true≢false (sym a))

behind_chain : (k next : CellKind) → may_follow k Chain ≡ true → may_follow k next ≡ true → may_follow Chain next ≡ true
behind_chain Primary next a b = follows_chain next b
behind_chain Chain next a b = b
behind_chain Quota next a b = absurd (true≢false (sym a))
behind_chain Volume next a b = absurd (true≢false (sym a))

follow_behind : (pages : Pages) (head : CellHead) (cs : List PlacedCell) → may_follow head.kind Chain ≡ true → Follow pages head cs → Follow pages (record head { kind = Chain }) cs
follow_behind pages head [] chain follow = follow
follow_behind pages head (c ∷ cs) chain follow = (follow.0, behind_chain head.kind c.cell.head.kind chain follow.1, follow.2, follow.3)

-- ---- the chain then

module _ (at : CellAt) (value : Record) (page : ℕ) (place : PagePlace) (version : Version) (prefer : ℕ) (space space_now : Spaces) (cells cells_now : Cells) (old new : Pages)
    (allocated : AreAllocated space cells old) (parts : PartsCell at value page place version prefer space space_now cells cells_now old new) where
  not_there : (q : CellAt) (c : Cell) → Contains (table_of cells q.vol) q.page → StandsAt old q c → ¬ parts.behind ≡ q
  not_there q c on stands =
      not_zeros parts.between parts.behind q c parts.zeros
      (stands_taken prefer parts.behind space space_now cells cells_now old parts.between parts.volume allocated parts.takes q c on stands)

  stands_on : (q : CellAt) (c : Cell) → Contains (table_of cells q.vol) q.page → ¬ at ≡ q → StandsAt old q c → StandsAt new q c
  stands_on q c on other stands =
      stands_stays parts.between new (λ q. is_at parts.behind q || is_at at q) parts.others q c
      (ap (λ (b : Bool). b || is_at at q) (at_apart parts.behind q (not_there q c on stands)) ∙ at_apart at q other)
      (stands_taken prefer parts.behind space space_now cells cells_now old parts.between parts.volume allocated parts.takes q c on stands)

  follow_on : (head : CellHead) (cs : List PlacedCell) → Follow old head cs → AreOnTables cells cs → ¬ Contains (places cs) at → Follow new head cs
  follow_on head [] follow on apart = follow
  follow_on head (c ∷ cs) follow on apart = (
    follow.0,
    follow.1,
    stands_on c.at c.cell on.0 (λ same. apart (in_first at c cs (sym same))) follow.2,
    follow_on c.cell.head cs follow.3 on.1 (λ inside. apart (in_later at c cs inside)),
  )

  apart_all : (cs : List PlacedCell) → AllByRecursion (λ (c : PlacedCell). StandsAt old c.at c.cell) cs → AreOnTables cells cs → AllByRecursion (λ (c : PlacedCell). ¬ parts.behind ≡ c.at) cs
  apart_all [] stand on = tt
  apart_all (c ∷ cs) stand on = (not_there c.at c.cell on.0 stand.0, apart_all cs stand.1 on.1)

  fresh : (cs : List PlacedCell) → AllByRecursion (λ (c : PlacedCell). StandsAt old c.at c.cell) cs → AreOnTables cells cs → ¬ Contains (places cs) parts.behind
  fresh cs stand on inside = all_at (λ (q : CellAt). ¬ parts.behind ≡ q) cs parts.behind (apart_all cs stand on) inside refl

  kept : (c : PlacedCell) → Contains (table_of cells c.at.vol) c.at.page → Contains (table_of cells_now c.at.vol) c.at.page
  kept c on = table_kept prefer parts.behind space space_now cells cells_now old parts.between parts.volume allocated parts.takes c.at.vol c.at.page on

  all_kept : (cs : List PlacedCell) → AreOnTables cells cs → AreOnTables cells_now cs
  all_kept cs on = tables_kept prefer parts.behind space space_now cells cells_now old parts.between parts.volume allocated parts.takes cs on

  module _ (cell : Cell) (stands : StandsAt old at cell) (map_is : HasMap cell value) where
    abbrev front : Cell
    front = front_cell parts.behind (kind_of value) parts.front cell

    abbrev back : PlacedCell
    back = record { at = parts.behind; cell = tail_cell parts.tail cell }

    follow_part : (i : ℕ) (head : CellHead) (cs : List PlacedCell) → may_follow head.kind Chain ≡ true → AreDistinct cs → IsThere i cs at cell → Follow old head cs → AreOnTables cells cs → Follow new head (part_at i front back cs)
    follow_part i head [] chain distinct there follow on = absurd (omega (arith, there.0))
    follow_part zero head (x ∷ cs) chain distinct there follow on =
        let stood : x.at ≡ at = ap (λ (c : PlacedCell). c.at) (there.1 x) in
        let of : x.cell ≡ cell = ap (λ (c : PlacedCell). c.cell) (there.1 x) in
        let kind : may_follow head.kind cell.head.kind ≡ true = subst (λ (c : Cell). may_follow head.kind c.head.kind ≡ true) of follow.1 in
        let more : may_follow cell.head.kind Chain ≡ true = chain_next head.kind cell.head.kind chain kind in (
          follow.0,
          kind,
          subst (λ (a : CellAt). StandsAt new a front) (sym stood) (parts.here cell stands),
          (
            refl,
            more,
            parts.there cell stands,
            follow_behind new cell.head cs more
                (follow_on cell.head cs (subst (λ (c : Cell). Follow old c.head cs) of follow.3) on.1 (λ inside. distinct.0 (subst (Contains (places cs)) (sym stood) inside))),
          ),
        )
    follow_part (suc i) head (x ∷ cs) chain distinct there follow on =
        let inside = is_inside i cs at cell (omega (arith, there.0), there.1) in (
          follow.0,
          follow.1,
          stands_on x.at x.cell on.0 (λ same. distinct.0 (subst (Contains (places cs)) same inside)) follow.2,
          follow_part i x.cell.head cs (chain_next head.kind x.cell.head.kind chain follow.1) distinct.1 (omega (arith, there.0), there.1) follow.3 on.1,
        )

    on_part : (i : ℕ) (cs : List PlacedCell) → AreOnTables cells cs → AreOnTables cells_now (part_at i front back cs)
    on_part i [] on = tt
    on_part zero (c ∷ cs) on = (kept c on.0, (at_on prefer parts.behind space space_now cells cells_now old parts.between parts.volume allocated parts.takes, all_kept cs on.1))
    on_part (suc i) (c ∷ cs) on = (kept c on.0, on_part i cs on.1)

    -- ---- its records

    front_map : HasMap front parts.front
    front_map = record {
      only = only_after value parts.front parts.parts.front_map parts.parts.of_front cell.records map_is.only;
      is_map = parts.parts.front_map;
    }

    back_map : HasMap back.cell parts.tail
    back_map = record { only = one_map_record parts.tail parts.parts.tail_map; is_map = parts.parts.tail_map }

    -- the first part is of the kind that the record was
    kinds_front : map_kinds front.records ≡ map_kinds cell.records
    kinds_front = ap (map kind_of) front_map.only ∙ ap (λ (k : ℕ). k ∷ []) parts.parts.of_front ∙ sym (ap (map kind_of) map_is.only)

    kinds_part : (i : ℕ) (cs : List PlacedCell) → ¬ Contains (places cs) back.at → AreDistinct cs → IsThere i cs at cell → KeepKinds cs (part_at i front back cs)
    kinds_part i [] apart distinct there = absurd (omega (arith, there.0))
    kinds_part zero (c ∷ cs) apart distinct there =
        kinds_on c (record { at = c.at; cell = front }) cs (back ∷ cs) refl (kinds_front ∙ ap (λ (c : PlacedCell). map_kinds c.cell.records) (sym (there.1 c))) distinct.0
        (distinct_part front back zero (c ∷ cs) apart distinct).0 (kinds_more back cs cs (λ inside. apart (in_later back.at c cs inside)) (kinds_same cs distinct.1))
    kinds_part (suc i) (c ∷ cs) apart distinct there =
        kinds_on c c cs (part_at i front back cs) refl refl distinct.0 (distinct_part front back (suc i) (c ∷ cs) apart distinct).0
        (kinds_part i cs (λ inside. apart (in_later back.at c cs inside)) distinct.1 (omega (arith, there.0), there.1))

    maps_part : (i : ℕ) (cs : List PlacedCell) → IsThere i cs at cell → AllByRecursion (λ (c : PlacedCell). IsMapCell c.cell) cs → AllByRecursion (λ (c : PlacedCell). IsMapCell c.cell) (part_at i front back cs)
    maps_part i [] there all = tt
    maps_part zero (c ∷ cs) there all =
        let one = map_cell_after value parts.front parts.parts.front_map parts.parts.of_front cell map_is (subst IsMapCell (ap (λ (c : PlacedCell). c.cell) (there.1 c)) all.0) in (
          record { value = one.value; only = one.only; is_map = one.is_map },
          (record { value = parts.tail; only = refl; is_map = parts.parts.tail_map }, all.1),
        )
    maps_part (suc i) (c ∷ cs) there all = (all.0, maps_part i cs (omega (arith, there.0), there.1) all.1)

    records_part : (i : ℕ) (cs : List PlacedCell) (all : AllByRecursion Mapped cs) → i < length cs
        → map_records (records_of (part_at i front back cs)) ≡ take i (values cs all) ++ parts.front ∷ parts.tail ∷ drop (suc i) (values cs all)
    records_part i [] all within = absurd (omega (arith, within))
    records_part zero (c ∷ cs) all within =
        one_front (record { at = c.at; cell = front }) parts.front (back ∷ cs) front_map
        ∙ ap (λ (rs : List Record). parts.front ∷ rs) (one_front back parts.tail cs back_map)
        ∙ ap (λ (rs : List Record). parts.front ∷ parts.tail ∷ rs) (values_are cs all.1)
    records_part (suc i) (c ∷ cs) all within =
        one_front c all.0.value (part_at i front back cs) all.0.map
        ∙ ap (λ (rs : List Record). all.0.value ∷ rs) (records_part i cs all.1 (omega (arith, within)))

    module _ (start : CellAt) (chain : List PlacedCell) (is : IsFile old start chain) (i : ℕ) (p : Picks old i at value chain) (same : p.cell ≡ cell) (shown : places_of chain page ≡ places_in value page) where
      abbrev now : List PlacedCell
      now = part_at i front back chain

      abbrev records : List Record
      records = map_records (records_of chain)

      there : IsThere i chain at cell
      there = subst (λ (c : Cell). IsThere i chain at c) same p.is_there

      records_now : map_records (records_of now) ≡ take i records ++ parts.front ∷ parts.tail ∷ drop (suc i) records
      records_now =
          let all = mapped_all old start chain is in
          records_part i chain all there.0 ∙ ap (λ (rs : List Record). take i rs ++ parts.front ∷ parts.tail ∷ drop (suc i) rs) (sym (values_are chain all))

      follows : ChangesChain page place records (map_records (records_of now))
      follows = subst (ChangesChain page place records) (sym records_now)
          (parts_change records i value parts.front parts.tail (kind_of value) (chain_kind version) page place p.within p.there (one_map_file old start chain is)
          (ap (λ rs. place_of rs page) (sym (runs_by_map (records_of chain))) ∙ shown) parts.parts)

      one_map_now : AreOneMap (records_of now)
      one_map_now = one_map_back (records_of now) follows.one_map

      at_now : (q : ℕ) → places_of now q ≡ with_place page place (places_of chain) q
      at_now q =
          ap (λ rs. place_of rs q) (runs_by_map (records_of now)) ∙ follows.places q
          ∙ ap (λ x. cond (nat_eq q page) place x) (ap (λ rs. place_of rs q) (sym (runs_by_map (records_of chain))))

    -- ---- it is a file's still

    record Stays (start : CellAt) (chain after : List PlacedCell) : Type 0 where
      is_file : IsFile new start after
      first : SameFirst chain after

    stays : (start : CellAt) (i : ℕ) (chain : List PlacedCell) → IsFile old start chain → IsThere i chain at cell → AreOnTables cells chain → AreOneMap (records_of (part_at i front back chain)) → Stays start chain (part_at i front back chain)
    stays start i [] is there on one = absurd is
    stays start zero (first ∷ rest) is there on one =
        let stood : first.at ≡ at = ap (λ (c : PlacedCell). c.at) (there.1 first) in
        let of : first.cell ≡ cell = ap (λ (c : PlacedCell). c.cell) (there.1 first) in
        let primary : cell.head.kind ≡ Primary = subst (λ (c : Cell). c.head.kind ≡ Primary) of is.1.primary in
        let more : may_follow cell.head.kind Chain ≡ true = subst (λ (k : CellKind). may_follow k Chain ≡ true) (sym primary) refl in
        let outside : ¬ Contains (places rest) at = subst (λ (a : CellAt). ¬ Contains (places rest) a) stood is.1.links.distinct.0 in
        record {
          is_file = (
            is.0,
            record {
              links = record {
                stands = subst (λ (a : CellAt). StandsAt new a front) (sym stood) (parts.here cell stands);
                follow = (
                  refl,
                  more,
                  parts.there cell stands,
                  follow_behind new cell.head rest more (follow_on cell.head rest (subst (λ (c : Cell). Follow old c.head rest) of is.1.links.follow) on.1 outside),
                );
                distinct = distinct_part front back zero (first ∷ rest) (fresh (first ∷ rest) (stand_file old start (first ∷ rest) is) on) is.1.links.distinct;
              };
              primary = primary;
              attributes = still_found value parts.front parts.parts.front_map parts.parts.of_front 1 cell.records (rows_kind value (value_has_rows value map_is.is_map))
                  (subst (λ (c : Cell). IsSome (record_of 1 c.records)) of is.1.attributes);
              value = parts.front;
              map = front_map;
              others = (record { value = parts.tail; only = refl; is_map = parts.parts.tail_map }, is.1.others);
              one_map = one;
            },
          );
          first = (
            refl,
            ap (λ (c : Cell). record c.head { next = Some parts.behind }) (sym of),
            others_same value parts.front parts.parts.front_map parts.parts.of_front cell.records stands.is.well_formed ∙ ap (λ (c : Cell). other_records c.records) (sym of),
            kinds_front ∙ ap (λ (c : Cell). map_kinds c.records) (sym of),
          );
        }
    stays start (suc i) (first ∷ rest) is there on one =
        let later : IsThere i rest at cell = (omega (arith, there.0), there.1) in
        let apart : ¬ at ≡ first.at = (λ same. is.1.links.distinct.0 (subst (Contains (places rest)) same (is_inside i rest at cell later))) in
        record {
          is_file = (
            is.0,
            record {
              links = record {
                stands = stands_on first.at first.cell on.0 apart is.1.links.stands;
                follow = follow_part i first.cell.head rest (subst (λ (k : CellKind). may_follow k Chain ≡ true) (sym is.1.primary) refl) is.1.links.distinct.1 later is.1.links.follow on.1;
                distinct = distinct_part front back (suc i) (first ∷ rest) (fresh (first ∷ rest) (stand_file old start (first ∷ rest) is) on) is.1.links.distinct;
              };
              primary = is.1.primary;
              attributes = is.1.attributes;
              value = is.1.value;
              map = is.1.map;
              others = maps_part i rest later is.1.others;
              one_map = one;
            },
          );
          first = (refl, refl, refl, refl);
        }

  -- ---- all of it

  parted_cell : (cell : Cell) (stands : StandsAt old at cell) (has : HasMap cell value) (start : CellAt) (chain : List PlacedCell) (is : IsFile old start chain) (i : ℕ) (p : Picks old i at value chain) → p.cell ≡ cell
      → AreOnTables cells chain → places_of chain page ≡ places_in value page → ChangesOnTables start page place chain version cells cells_now old new
  parted_cell cell stands has start chain is i p same on shown =
      let one = one_map_now cell stands has start chain is i p same shown in
      let s = stays cell stands has start i chain is (there cell stands has start chain is i p same shown) on one in
      record {
        changes = record {
          after = now cell stands has start chain is i p same shown;
          is_file = s.is_file;
          first = s.first;
          at = at_now cell stands has start chain is i p same shown;
        };
        on_tables = on_part cell stands has i chain on;
        joined = λ c inside apart.
            ⊎_elim (λ was. absurd (apart was))
            (λ new_one. subst (Joins cells old version) new_one (record {
              was_free = λ other stood on_table. not_there parts.behind other on_table stood refl;
              kind = ap (map kind_of) (back_map cell stands has).only ∙ ap (λ (k : ℕ). k ∷ []) parts.parts.of_tail;
            }))
            (part_in (front cell stands has) (back cell stands has) i chain c inside);
        kept = λ q inside. place_kept (front cell stands has) (back cell stands has) i chain q inside;
        same_kinds = kinds_part cell stands has i chain (fresh chain (stand_file old start chain is) on) (distinct_file old start chain is) (there cell stands has start chain is i p same shown);
        handed = λ q now. ⊎_elim (λ was. inl was)
            (λ behind. inr (subst (Contains (places (part_at i (front cell stands has) (back cell stands has) chain))) behind (back_inside (front cell stands has) (back cell stands has) i chain p.is_there.0)))
            (handed_now prefer parts.behind space space_now cells cells_now old parts.between parts.volume allocated parts.takes q now);
      }

  pub parted : (start : CellAt) (chain : List PlacedCell) → IsFile old start chain → (i : ℕ) (p : Picks old i at value chain) → AreOnTables cells chain → places_of chain page ≡ places_in value page
      → ChangesOnTables start page place chain version cells cells_now old new
  parted start chain is i p on shown = parted_cell p.cell p.stands p.map start chain is i p refl on shown

  pub others_stay_parted : (chain : List PlacedCell) → Contains (places chain) at → LeavesOtherCells cells chain old new
  others_stay_parted chain inside q c stands on apart = stands_on q c on (λ same. apart (subst (Contains (places chain)) same inside)) stands
