-- Where no rule of tables and extents is broken, the chain of cells from the first cell of a file is that file's.
use Rattle.std.proofs.Common.{◌≡◌, ◌∙◌, inl, inr, ℕ, zero, suc, ◌+◌, ◌^◌, ◌≤◌, Bool, true, false, cond, not, ◌&&◌, ◌||◌, List, [], ◌∷◌, ◌++◌, Option, Some, None, Contains, refl, sym, ap, subst, arith, ⊎_elim}
use Rattle.std.proofs.lemmas.Bool.{and_parts, cases_Bool, cases_lt}
use Rattle.std.proofs.lemmas.Bool.{le-leb}
use Rattle.std.proofs.lemmas.Grind.{flat_map-append}
use Rattle.std.proofs.lemmas.List.{append-nil}
use Rattle.std.specs.List.{AllByRecursion, list_all}
use Rattle.domain_layout.specs.domain_base.declared.place.CellAt.{CellAt}
use Rattle.domain_layout.specs.domain_base.declared.place.Home.{Home}
use Rattle.domain_layout.specs.domain_base.declared.place.Tag.{Tag}
use Rattle.domain_layout.specs.log_ring.Homes.{IsMember, member_of}
use Rattle.domain_layout.specs.page_store.Pages.{Pages}
use Rattle.domain_layout.specs.cell_records.Fields.{number_at}
use Rattle.domain_layout.specs.cell_records.Records.{Allowed, kind_of}
use Rattle.domain_layout.specs.cell_records.declared.record.Record.{Record}
use Rattle.domain_layout.specs.metadata_cells.Cell.{Cell, IsFileset, record_of}
use Rattle.domain_layout.specs.metadata_cells.CellPage.{home_of}
use Rattle.domain_layout.specs.metadata_cells.Chain.{AreLinked, Follow, PlacedCell, StandsAt, may_follow, records_of}
use Rattle.domain_layout.specs.metadata_cells.declared.head.CellKind.{CellKind}
use Rattle.domain_layout.specs.metadata_cells.declared.head.CellKind.TheVariants as kinds
use Rattle.domain_layout.proofs.OfMetadataCells.Walk.{one_kind}
use Rattle.domain_layout.specs.extent_maps.declared.run.PagePlace.TheVariants.{Absent, At}
use Rattle.domain_layout.specs.extent_records.Rows.{IsPlaced, NoPageTwice, runs_in, runs_of, times}
use Rattle.domain_layout.specs.extent_records.Writing.{IsMapRecord, most_rows, places_in}
use Rattle.domain_layout.proofs.OfExtentRecords.PutLemmas.{times_append}
use Rattle.domain_layout.specs.file_chains.Files.{AreFile, HasMap, IsMapCell, map_records}
use Rattle.domain_layout.proofs.OfFileChains.MapRecords.{runs_by_map}
use Rattle.domain_layout.specs.fileset_files.Files.{HasFirstKinds, IsOf, is_first_kind}
use Rattle.domain_layout.specs.CellRules.{Follows, IsChainHead, IsUsed, Link, agree, begins, has_first_records, has_its_kinds, has_kind, is_chain_records, is_good_first, item_of, keeps_well, of_clone, of_original, say_removed}
use Rattle.std.specs.Option.{option_map_or}
use Rattle.domain_layout.specs.fileset_table.Table.{Table}
use Rattle.domain_layout.specs.Faults.{HasNoExtentFault, HasNoTablesFault}
use Rattle.domain_layout.specs.Layout.{IsLayout, Layout}
use Rattle.domain_layout.specs.Owners.{frame_of}
use Rattle.domain_layout.specs.Reached.{MayBe}
use Rattle.domain_layout.specs.TagRules.{IsFirstOf}
use Rattle.domain_layout.proofs.Named.{follows_on, last_link, link_of, link_to, no_cell}
use Rattle.domain_layout.proofs.OnePage.{some_same}
use Rattle.domain_layout.proofs.Reached.{may_be_by}
use Rattle.filesets_reading.proofs.FirstCells.{OneRecord, all_first, chain_record, one_record}
use Rattle.filesets_reading.proofs.MapRecords.{map_record, some_times}
use Rattle.filesets_reading.proofs.OnTables.{on_table}
use Rattle.filesets_reading.proofs.TagPlaces.{equal_by, most_by}

true_by : (b : Bool) → ¬ b ≡ false → b ≡ true
true_by b not = ⊎_elim (λ is. is) (λ wrong. absurd (not wrong)) (cases_Bool b)

allowed_in : (rs : List Record) (r : Record) → AllByRecursion Allowed rs → Contains rs r → Allowed r
allowed_in [] r all (k, within, is) = absurd (omega (arith, within))
allowed_in (x ∷ xs) r all (zero, within, is) = subst Allowed is all.0
allowed_in (x ∷ xs) r all (suc k, within, is) = allowed_in xs r all.1 (k, omega (arith, within), is)

no_bool : false ≡ true → ⊥
no_bool is = cc

-- a cell after one of a file is a chain cell
abbrev pub of_file : CellKind → Bool
of_file kinds.Primary = true
of_file kinds.Chain = true
of_file _ = false

pub later_kind : (a b : CellKind) → of_file a ≡ true → may_follow a b ≡ true → b ≡ kinds.Chain
later_kind kinds.Primary kinds.Primary file may = absurd (no_bool may)
later_kind kinds.Primary kinds.Chain file may = refl
later_kind kinds.Primary kinds.Quota file may = absurd (no_bool may)
later_kind kinds.Primary kinds.Volume file may = absurd (no_bool may)
later_kind kinds.Chain kinds.Primary file may = absurd (no_bool may)
later_kind kinds.Chain kinds.Chain file may = refl
later_kind kinds.Chain kinds.Quota file may = absurd (no_bool may)
later_kind kinds.Chain kinds.Volume file may = absurd (no_bool may)
later_kind kinds.Quota kinds.Primary file may = absurd (no_bool file)
later_kind kinds.Quota kinds.Chain file may = absurd (no_bool file)
later_kind kinds.Quota kinds.Quota file may = absurd (no_bool file)
later_kind kinds.Quota kinds.Volume file may = absurd (no_bool file)
later_kind kinds.Volume kinds.Primary file may = absurd (no_bool file)
later_kind kinds.Volume kinds.Chain file may = absurd (no_bool file)
later_kind kinds.Volume kinds.Quota file may = absurd (no_bool file)
later_kind kinds.Volume kinds.Volume file may = absurd (no_bool file)

in_front : (passed : List CellAt) (x at : CellAt) → Contains passed at → Contains (passed ++ x ∷ []) at
in_front [] x at (k, within, is) = absurd (omega (arith, within))
in_front (y ∷ ys) x at (zero, within, is) = (zero, omega arith, is)
in_front (y ∷ ys) x at (suc k, within, is) = let more = in_front ys x at (k, omega (arith, within), is) in (suc more.0, omega (arith, more.1), more.2)

at_end : (passed : List CellAt) (x : CellAt) → Contains (passed ++ x ∷ []) x
at_end [] x = (0, omega arith, refl)
at_end (y ∷ ys) x = let more = at_end ys x in (suc more.0, omega (arith, more.1), more.2)

-- the cells of a list are all used, and none has a page of a file that another has
abbrev pub Apart : Cell → Cell → Type 0
Apart c d = (p : ℕ) (one other : Record) → Contains c.records one → Contains d.records other → ¬ places_in one p ≡ Absent → ¬ places_in other p ≡ Absent → ⊥

abbrev pub AllApart : List PlacedCell → Type 0
AllApart [] = Unit {0}
AllApart (c ∷ cs) = AllByRecursion (λ (d : PlacedCell). Apart c.cell d.cell) cs × AllApart cs

-- ---- times

in_one : (rs : List Record) (p : ℕ) → 1 ≤ times (runs_of rs) p → (r : Record) × Contains rs r × (1 ≤ times (runs_in r) p)
in_one [] p some = absurd (omega (arith, some))
in_one (r ∷ rs) p some =
    ⊎_elim (λ none.
    let later : 1 ≤ times (runs_of rs) p = omega (arith, some, none, times_append (runs_in r) (runs_of rs) p) in
    let found = in_one rs p later in
    (found.0, (suc found.1.0, omega (arith, found.1.1), found.1.2), found.2))
    (λ here. (r, (0, omega arith, refl), here)) (cases_lt (times (runs_in r) p) 1)

sum_is : (d : PlacedCell) (cs : List PlacedCell) (p : ℕ) → times (runs_of (records_of (d ∷ cs))) p ≡ times (runs_of d.cell.records) p + times (runs_of (records_of cs)) p
sum_is d cs p = ap (λ runs. times runs p) (flat_map-append runs_in d.cell.records (records_of cs)) ∙ times_append (runs_of d.cell.records) (runs_of (records_of cs)) p

-- a page that two cells have
none_of : (c : Cell) (cs : List PlacedCell) (p : ℕ) → AllByRecursion (λ (d : PlacedCell). Apart c d.cell) cs → 1 ≤ times (runs_of c.records) p → times (runs_of (records_of cs)) p ≡ 0
none_of c [] p apart some = refl
none_of c (d ∷ cs) p apart some =
    let later : times (runs_of (records_of cs)) p ≡ 0 = none_of c cs p apart.1 some in
    let here : times (runs_of d.cell.records) p ≡ 0 =
    ⊎_elim (λ none. omega (arith, none))
    (λ also.
    let one = in_one c.records p some in
    let other = in_one d.cell.records p also in
    absurd (apart.0 p one.0 other.0 one.1 other.1 (some_times (runs_in one.0) p one.2) (some_times (runs_in other.0) p other.2)))
    (cases_lt (times (runs_of d.cell.records) p) 1) in
    sum_is d cs p ∙ omega (arith, here, later)

-- each cell has one record of a map
abbrev HaveMaps : List PlacedCell → Type 0
HaveMaps cs = AllByRecursion (λ (c : PlacedCell). (value : Record) × HasMap c.cell value) cs

cell_once : (c : Cell) (value : Record) → HasMap c value → NoPageTwice (runs_of c.records)
cell_once c value map = subst NoPageTwice (sym (runs_by_map c.records ∙ ap runs_of map.only ∙ append-nil (runs_in value))) map.is_map.once

cell_placed : (c : Cell) (value : Record) → HasMap c value → AllByRecursion IsPlaced (runs_of c.records)
cell_placed c value map = subst (AllByRecursion IsPlaced) (sym (runs_by_map c.records ∙ ap runs_of map.only ∙ append-nil (runs_in value))) map.is_map.placed

all_once : (cs : List PlacedCell) → HaveMaps cs → AllApart cs → NoPageTwice (runs_of (records_of cs))
all_once [] maps apart p = omega arith
all_once (c ∷ cs) maps apart p =
    let sum = sum_is c cs p in
    let first : times (runs_of c.cell.records) p ≤ 1 = cell_once c.cell maps.0.0 maps.0.1 p in
    let later : times (runs_of (records_of cs)) p ≤ 1 = all_once cs maps.1 apart.1 p in
    ⊎_elim (λ none. omega (arith, none, later, sum))
    (λ some. let rest = none_of c.cell cs p apart.0 some in omega (arith, rest, first, sum)) (cases_lt (times (runs_of c.cell.records) p) 1)

all_both : {X : Type 0} (P : X → Type 0) (xs ys : List X) → AllByRecursion P xs → AllByRecursion P ys → AllByRecursion P (xs ++ ys)
all_both P [] ys first second = second
all_both P (x ∷ xs) ys first second = (first.0, all_both P xs ys first.1 second)

all_placed : (cs : List PlacedCell) → HaveMaps cs → AllByRecursion IsPlaced (runs_of (records_of cs))
all_placed [] maps = tt
all_placed (c ∷ cs) maps =
    subst (AllByRecursion IsPlaced) (sym (flat_map-append runs_in c.cell.records (records_of cs)))
    (all_both IsPlaced (runs_of c.cell.records) (runs_of (records_of cs)) (cell_placed c.cell maps.0.0 maps.0.1) (all_placed cs maps.1))

-- ---- the cells of a chain

module _ (pages : Pages) (layout : Layout) (laid : IsLayout pages layout) (fault : HasNoExtentFault pages (frame_of layout)) (small : (vol : ℕ) → IsMember layout.anchor vol → (member_of layout.anchor vol).pages ≤ 2 ^ 32) where
  none : HasNoTablesFault pages (frame_of layout)
  none = fault.tables

  -- what a cell in use says of pages
  may_stand : (at : CellAt) (cell : Cell) → ¬ ¬ IsUsed pages (frame_of layout) at cell → (value : Record) → Contains cell.records value → (p : ℕ) (home : Home) → places_in value p ≡ At home → MayBe (frame_of layout) home
  may_stand at cell used value among p home stands =
      may_be_by (frame_of layout) home
      (λ wrong. used (λ is.
      fault.extents layout (home_of at) refl laid
      (at, refl, record { page = p; home = home; has = record { cell = cell; on = on_table pages layout laid at cell is.place is.stands; value = value; among = among; place = stands }; wrong = inl wrong })))

  map_of : (at : CellAt) (cell : Cell) → StandsAt pages at cell → ¬ ¬ IsUsed pages (frame_of layout) at cell → (value : Record) → Contains cell.records value → 1 ≤ most_rows (kind_of value) → IsMapRecord value
  map_of at cell stands used value among rows =
      map_record (frame_of layout) small value (allowed_in cell.records value stands.is.well_formed.allowed among) rows (may_stand at cell used value among)

  module _ (start : CellAt) (first : Link) (head : ¬ ¬ IsChainHead pages (frame_of layout) start first) where
    used_on : (passed : List CellAt) (c : PlacedCell) → ¬ ¬ Follows pages (frame_of layout) start passed c.at (link_to c.cell) → StandsAt pages c.at c.cell → ¬ ¬ IsUsed pages (frame_of layout) c.at c.cell
    used_on passed c on stands unused = on (λ follows. unused (record { place = (last_link pages layout start passed c.at (link_to c.cell) follows).place; stands = stands }))

    next_on : (passed : List CellAt) (c d : PlacedCell) → ¬ ¬ Follows pages (frame_of layout) start passed c.at (link_to c.cell) → c.cell.head.next ≡ Some d.at → StandsAt pages d.at d.cell
        → ¬ ¬ Follows pages (frame_of layout) start (passed ++ c.at ∷ []) d.at (link_to d.cell)
    next_on passed c d on leads stands alone =
        head (λ h. on (λ follows. follows_on pages layout laid none start first h passed c.at d.at c.cell d.cell follows leads stands alone))

    map_cell : (d : PlacedCell) → StandsAt pages d.at d.cell → ¬ ¬ IsUsed pages (frame_of layout) d.at d.cell → d.cell.head.kind ≡ kinds.Chain → IsMapCell d.cell
    map_cell d stands used kind =
        let right : is_chain_records d.cell.records ≡ true = true_by (is_chain_records d.cell.records) (λ wrong. used (λ u. no_cell pages layout laid none d.at (inr (inr (inl (record { cell = d.cell; used = u; wrong = inl (kind, wrong) })))))) in
        let one = chain_record d.cell.records right in
        record { value = one.value; only = one.only; is_map = map_of d.at d.cell stands used one.value (subst (λ rs. Contains rs one.value) (sym one.only) (0, omega arith, refl)) one.rows }

    -- chain cells are as they should be
    later_cells : (passed : List CellAt) (c : PlacedCell) → ¬ ¬ Follows pages (frame_of layout) start passed c.at (link_to c.cell) → of_file c.cell.head.kind ≡ true
        → (cs : List PlacedCell) → Follow pages c.cell.head cs → AllByRecursion (λ (d : PlacedCell). IsMapCell d.cell) cs
    later_cells passed c on file [] follow = tt
    later_cells passed c on file (d ∷ ds) (leads, may, stands, more) =
        let on_d = next_on passed c d on leads stands in
        let kind : d.cell.head.kind ≡ kinds.Chain = later_kind c.cell.head.kind d.cell.head.kind file may in
        (map_cell d stands (used_on (passed ++ c.at ∷ []) d on_d stands) kind, later_cells (passed ++ c.at ∷ []) d on_d (ap of_file kind) ds more)

    -- and have pages of their own
    apart_from : (e : PlacedCell) → ¬ ¬ IsUsed pages (frame_of layout) e.at e.cell → (passed : List CellAt) (c : PlacedCell) → ¬ ¬ Follows pages (frame_of layout) start passed c.at (link_to c.cell)
        → Contains (passed ++ c.at ∷ []) e.at → (cs : List PlacedCell) → Follow pages c.cell.head cs → AllByRecursion (λ (d : PlacedCell). Apart e.cell d.cell) cs
    apart_from e used passed c on among [] follow = tt
    apart_from e used passed c on among (d ∷ ds) (leads, may, stands, more) =
        let on_d = next_on passed c d on leads stands in
        let used_d = used_on (passed ++ c.at ∷ []) d on_d stands in (
          (λ p one other in_e in_d here there.
              used (λ early. used_d (λ late. head (λ h. on_d (λ follows.
              no_cell pages layout laid none d.at (inr (inr (inr (inr (inr (inl (record {
                first = first;
                early = e.cell;
                late = d.cell;
                chain = record { start = start; is_head = h; passed = passed ++ c.at ∷ []; link = link_to d.cell; follows = follows; late_is = late; before = e.at; among = among; early_is = early };
                one = one;
                other = other;
                in_early = in_e;
                in_late = in_d;
                page = p;
                there = here;
                again = there;
              })))))))))))),
          apart_from e used (passed ++ c.at ∷ []) d on_d (in_front (passed ++ c.at ∷ []) d.at e.at among) ds more,
        )

    all_apart : (passed : List CellAt) (c : PlacedCell) → ¬ ¬ Follows pages (frame_of layout) start passed c.at (link_to c.cell) → StandsAt pages c.at c.cell → (cs : List PlacedCell) → Follow pages c.cell.head cs → AllApart (c ∷ cs)
    all_apart passed c on stands [] follow = (tt, tt)
    all_apart passed c on stands (d ∷ ds) (leads, may, here, more) = (
      apart_from c (used_on passed c on stands) passed c on (at_end passed c.at) (d ∷ ds) (leads, may, here, more),
      all_apart (passed ++ c.at ∷ []) d (next_on passed c d on leads here) here ds more,
    )

  -- ---- a file

  -- the cells of a file or directory
  pub record FirstFile (first : PlacedCell) (rest : List PlacedCell) : Type 0 where
    pub is : AreFile pages first rest
    pub kinds : HasFirstKinds (first ∷ rest)

  -- the cells of a file of a tag
  pub record FileThere (number : ℕ) (tag : Tag) (first : PlacedCell) (rest : List PlacedCell) : Type 0 where
    pub is : AreFile pages first rest
    pub of : IsOf number tag (first ∷ rest)
    pub kinds : HasFirstKinds (first ∷ rest)

  has_map : (d : PlacedCell) → IsMapCell d.cell → (value : Record) × HasMap d.cell value
  has_map d is = (is.value, record { only = ap map_records is.only ∙ ap (λ b. cond b (is.value ∷ []) []) (le-leb 1 (most_rows (kind_of is.value)) is.is_map.has_rows); is_map = is.is_map })

  have_maps : (cs : List PlacedCell) → AllByRecursion (λ (d : PlacedCell). IsMapCell d.cell) cs → HaveMaps cs
  have_maps [] all = tt
  have_maps (d ∷ ds) all = (has_map d all.0, have_maps ds all.1)

  fileset_is : (n number : ℕ) (o : Option ℕ) → IsFileset n o → IsFileset n (Some number) → o ≡ Some number
  fileset_is n number None is also = absurd (omega (arith, is, also.0))
  fileset_is n number (Some f) is also = ap Some (omega (arith, is.0, also.0))

  -- what a good first cell has
  good_records : (table : Table) (cell : Cell) → is_good_first table cell ≡ true → has_first_records cell.records ≡ true
  good_records table cell good =
      (and_parts (has_first_records cell.records)
      (say_removed cell.records || ((not (of_original (item_of table cell.head)) || (has_its_kinds false cell.records
      && option_map_or (λ r. keeps_well r (has_kind 6 cell.records)) (record_of 1 cell.records) false))
      && (not (of_clone (item_of table cell.head)) || has_its_kinds true cell.records))) good).0

  -- the cells from a first cell on, whether a tag names it or not
  pub first_file : (first : PlacedCell) (rest : List PlacedCell) → ¬ ¬ IsUsed pages (frame_of layout) first.at first.cell → first.cell.head.kind ≡ kinds.Primary → AreLinked pages first rest → FirstFile first rest
  first_file first rest used primary links = record { is = is; kinds = firsts }
    where
      good : is_good_first layout.table first.cell ≡ true
      good = true_by (is_good_first layout.table first.cell) (λ wrong. used (λ u. no_cell pages layout laid none first.at (inr (inl (record { cell = first.cell; used = u; kind = primary; wrong = wrong })))))

      records : has_first_records first.cell.records ≡ true
      records = good_records layout.table first.cell good

      front : (has_kind 1 first.cell.records && not (agree (has_kind 4 first.cell.records) (has_kind 14 first.cell.records))) ≡ true
      front = (and_parts (has_kind 1 first.cell.records && not (agree (has_kind 4 first.cell.records) (has_kind 14 first.cell.records))) (list_all (λ r. is_first_kind (kind_of r)) first.cell.records) records).0

      attributes : has_kind 1 first.cell.records ≡ true
      attributes = (and_parts (has_kind 1 first.cell.records) (not (agree (has_kind 4 first.cell.records) (has_kind 14 first.cell.records))) front).0

      firsts : AllByRecursion (λ (r : Record). is_first_kind (kind_of r) ≡ true) first.cell.records
      firsts = all_first first.cell.records (and_parts (has_kind 1 first.cell.records && not (agree (has_kind 4 first.cell.records) (has_kind 14 first.cell.records))) (list_all (λ r. is_first_kind (kind_of r)) first.cell.records) records).1

      one : OneRecord first.cell.records
      one = one_record 0 first.cell.records links.stands.is.well_formed.rising firsts (and_parts (has_kind 1 first.cell.records) (not (agree (has_kind 4 first.cell.records) (has_kind 14 first.cell.records))) front).1

      map : HasMap first.cell one.value
      map = record { only = one.only; is_map = map_of first.at first.cell links.stands used one.value one.among one.rows }

      head : ¬ ¬ IsChainHead pages (frame_of layout) first.at (link_to first.cell)
      head unheaded = used (λ u. unheaded (link_of pages layout laid none first.at first.cell u.place u.stands, inl primary))

      on : ¬ ¬ Follows pages (frame_of layout) first.at [] first.at (link_to first.cell)
      on alone = used (λ u. alone (begins (link_to first.cell) (link_of pages layout laid none first.at first.cell u.place u.stands)))

      chain_cells : AllByRecursion (λ (d : PlacedCell). IsMapCell d.cell) rest
      chain_cells = later_cells first.at (link_to first.cell) head [] first on (ap of_file primary) rest links.follow

      maps : HaveMaps (first ∷ rest)
      maps = ((one.value, map), have_maps rest chain_cells)

      is : AreFile pages first rest
      is = record {
        links = links;
        primary = primary;
        attributes = attributes;
        value = one.value;
        map = map;
        others = chain_cells;
        one_map = record {
          placed = all_placed (first ∷ rest) maps;
          once = all_once (first ∷ rest) maps (all_apart first.at (link_to first.cell) head [] first on links.stands rest links.follow);
        };
      }

  pub file_there : (number : ℕ) (tag : Tag) (first : PlacedCell) (rest : List PlacedCell) → ¬ ¬ IsFirstOf pages (frame_of layout) number tag first.at → AreLinked pages first rest → FileThere number tag first rest
  file_there number tag first rest named links = record { is = there.is; of = (slot, seq, fileset); kinds = there.kinds }
    where
      same : (f : IsFirstOf pages (frame_of layout) number tag first.at) → f.bytes ≡ links.stands.bytes
      same f = some_same f.bytes links.stands.bytes (sym f.there ∙ links.stands.there)

      primary : first.cell.head.kind ≡ kinds.Primary
      primary = one_kind first.cell.head.kind kinds.Primary (sym links.stands.is.head.kind
          ∙ equal_by (number_at 1 15 links.stands.bytes) 1 (λ other. named (λ f. other (ap (number_at 1 15) (sym (same f)) ∙ f.kind))))

      slot : first.cell.head.slot ≡ tag.slot
      slot = equal_by first.cell.head.slot tag.slot (λ other. named (λ f. other (links.stands.is.head.slot ∙ ap (number_at 4 8) (sym (same f)) ∙ f.slot)))

      seq : first.cell.head.seq ≡ tag.seq
      seq = equal_by first.cell.head.seq tag.seq (λ other. named (λ f. other (links.stands.is.head.seq ∙ ap (number_at 2 12) (sym (same f)) ∙ f.seq)))

      fileset : first.cell.head.fileset ≡ Some number
      fileset = fileset_is (number_at 1 14 links.stands.bytes) number first.cell.head.fileset links.stands.is.head.fileset (
        equal_by (number_at 1 14 links.stands.bytes) (number + 1) (λ other. named (λ f. other ((subst (λ b. IsFileset (number_at 1 14 b) (Some number)) (same f) f.fileset).0))),
        most_by (number_at 1 14 links.stands.bytes) 32 (λ other. named (λ f. other ((subst (λ b. IsFileset (number_at 1 14 b) (Some number)) (same f) f.fileset).1))),
      )

      used : ¬ ¬ IsUsed pages (frame_of layout) first.at first.cell
      used unused = named (λ f. unused (record { place = f.place; stands = links.stands }))

      there : FirstFile first rest
      there = first_file first rest used primary links
