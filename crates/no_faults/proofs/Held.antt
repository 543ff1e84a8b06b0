-- Each page of a domain that was read is held for one thing alone, or is free.
use Rattle.std.proofs.Common.{◌≡◌, ◌∙◌, ◌⊎◌, inl, inr, ℕ, zero, suc, ◌≤◌, nat_eq, nat_le, Bool, true, false, cond, List, [], ◌∷◌, ◌++◌, Option, Some, None, IsSomeAnd, Contains, slice_get, refl, sym, ap, subst, arith, ⊎_elim}
use Rattle.std.proofs.lemmas.Bool.{cases_Bool, eqb-true, le-leb, true≢false}
use Rattle.std.specs.List.{AllByRecursion, filter}
use Rattle.std.specs.Option.{option_and_then, option_map_or}
use Rattle.domain_memory.specs.domain_base.declared.place.CellAt.{CellAt}
use Rattle.domain_memory.specs.domain_base.declared.place.Home.{Home}
use Rattle.domain_memory.specs.cell_records.Records.{kind_of}
use Rattle.domain_memory.specs.cell_records.declared.record.Record.{Record}
use Rattle.domain_memory.specs.cell_records.declared.record.Record.TheVariants as written
use Rattle.domain_memory.specs.metadata_cells.Cell.{Cell, record_of}
use Rattle.domain_memory.specs.metadata_cells.Chain.{PlacedCell, StandsAt, places, records_of}
use Rattle.domain_memory.specs.metadata_cells.declared.head.CellKind.{CellKind}
use Rattle.domain_memory.specs.metadata_cells.declared.head.CellKind.TheVariants as kinds
use Rattle.domain_memory.proofs.OfMetadataCells.Unique.{one_stands}
use Rattle.domain_memory.specs.tag_dirs.Directory.{has_home}
use Rattle.domain_memory.specs.tag_dirs.declared.dir.TagPlace.{TagPlace}
use Rattle.domain_memory.specs.extent_maps.declared.run.PagePlace.TheVariants.{Absent, At}
use Rattle.domain_memory.specs.extent_records.Rows.{AreOneMap}
use Rattle.domain_memory.specs.extent_records.Writing.{most_rows, places_in}
use Rattle.domain_memory.specs.domain_base.Version.{bitmap_pages}
use Rattle.domain_memory.specs.log_ring.Homes.{member_of}
use Rattle.domain_memory.specs.free_space.Spaces.{volume_of}
use Rattle.domain_memory.specs.free_space.VolumeSpace.{VolumeSpace, is_among, is_waiting}
use Rattle.domain_memory.specs.file_chains.Files.{HasMap, IsFile, IsMapCell, has_rows, map_records, places_of}
use Rattle.domain_memory.specs.fileset_files.Shown.{index_in, index_of}
use Rattle.domain_memory.proofs.OfFileRelease.Once.{file_map, shown_value}
use Rattle.domain_memory.proofs.OfReleaseList.Standings.{no_record}
use Rattle.domain_memory.specs.release_list.Standing.{IsQuotaCell, IsQuotas, place_in}
use Rattle.domain_memory.specs.fileset_table.declared.slot.SlotItem.{SlotItem}
use Rattle.domain_memory.specs.domain_standing.Space.{IsSpaceAt, IsVolumeSpace}
use Rattle.domain_memory.proofs.OfDomainStanding.Indexes.{few}
use Rattle.domain_memory.specs.domain_layout.CellRules.{IsFirstPlace, is_chain_records}
use Rattle.domain_memory.specs.domain_layout.Owners.{BelongsTo, HasExtent, HasIndexPage, IsOnTable, IsOwned, Owner, frame_of}
use Rattle.domain_memory.proofs.OfDomainLayout.Named.{no_cell}
use Rattle.domain_memory.proofs.OfDomainLayout.OwnedOnce.{used_on}
use Rattle.domain_memory.specs.domain_standing.Domain.{DomainNow, layout_of}
use Rattle.domain_memory.specs.domain_standing.Tables.{first_place}
use Rattle.domain_memory.proofs.OfFilesetsReading.FirstCells.{chain_record}
use Rattle.domain_memory.proofs.OfFilesetsReading.OnTables.{on_table}
use Rattle.domain_memory.specs.domain_standing.Holders.{AreHeldAt, AreHeldOn, Holder, Holds, HoldsOwned, IsUnheld}
use Rattle.no_faults.specs.Attached.{IsReadFrom}
use Rattle.no_faults.proofs.Begun.{nowhere}
use Rattle.no_faults.proofs.Domain.{chain_at, chain_there, fault, files, quotas, small, tables}
use Rattle.no_faults.proofs.InUse.{first_place as first_place_of, inside, inside_or_not, placed_in, used}
use Rattle.no_faults.proofs.Indexed.{good_all, indexes, indexes_are, indexes_none, names_index, pages_of, read_all}
use Rattle.no_faults.proofs.IndexPages.{ComesAt, from_first, stands_in}
use Rattle.no_faults.proofs.Listed.{first_is}
use Rattle.no_faults.proofs.OnTables.{in_all}
use Rattle.no_faults.proofs.ListPages.{IsOfChain, all_at, not_placed, of_chain, one_chain, one_owner}
use Rattle.no_faults.proofs.Searched.{in_front}
use Rattle.no_faults.proofs.Standing.{is_as, quota_cell}
use Rattle.no_faults.proofs.Walked.{IsOnWay}

-- ---- what records say

-- a record that says a place has rows
has_places : (r : Record) (page : ℕ) (home : Home) → places_in r page ≡ At home → has_rows r ≡ true
has_places (written.Extents rows) page home is = refl
has_places (written.ShortExtents rows) page home is = refl
has_places (written.Holes rows) page home is = refl
has_places (written.DenseExtents rows) page home is = refl
has_places (written.ShortDense rows) page home is = refl
has_places r page home is = not_placed home is

no_rows : (r : Record) (kind : ℕ) → kind_of r ≡ kind → nat_le 1 (most_rows kind) ≡ false → (page : ℕ) (home : Home) → ¬ places_in r page ≡ At home
no_rows r kind is none page home placed = true≢false (sym (has_places r page home placed) ∙ ap (λ k. nat_le 1 (most_rows k)) is ∙ none)

-- the records of a map cell that have rows are one
in_filter : (rs : List Record) (r : Record) → Contains rs r → has_rows r ≡ true → Contains (filter has_rows rs) r
in_filter [] r (k, within, is) has = absurd (omega (arith, within))
in_filter (x ∷ xs) r (zero, within, is) has = subst (λ b. Contains (cond b (x ∷ filter has_rows xs) (filter has_rows xs)) r) (sym (ap has_rows is ∙ has)) (0, omega arith, is)
in_filter (x ∷ xs) r (suc k, within, is) has = by_test (in_filter xs r (k, omega (arith, within), is) has) (has_rows x)
  where
    by_test : Contains (filter has_rows xs) r → (b : Bool) → Contains (cond b (x ∷ filter has_rows xs) (filter has_rows xs)) r
    by_test more true = in_front x r (filter has_rows xs) more
    by_test more false = more

only_one : (v r : Record) → Contains (v ∷ []) r → v ≡ r
only_one v r (zero, within, is) = is
only_one v r (suc k, within, is) = absurd (omega (arith, within))

one_value : (c : Cell) (v r : Record) → HasMap c v → Contains c.records r → has_rows r ≡ true → v ≡ r
one_value c v r map among has = only_one v r (subst (λ rs. Contains rs r) map.only (in_filter c.records r among has))

-- the record of a chain cell names no index
chain_index : (rs : List Record) → is_chain_records rs ≡ true → record_of 9 rs ≡ None
chain_index rs is =
    let one = chain_record rs is in
    ap (record_of 9) one.only ∙ by_test one.value one.rows (nat_eq (kind_of one.value) 9) refl
  where
    by_test : (r : Record) → 1 ≤ most_rows (kind_of r) → (b : Bool) → nat_eq (kind_of r) 9 ≡ b → cond b (Some r) None ≡ None
    by_test r rows true nine = let few : 1 ≤ 0 = subst (λ k. 1 ≤ most_rows k) (eqb-true (kind_of r) 9 nine) rows in absurd (omega (arith, few))
    by_test r rows false other = refl

-- ---- cells of a list

pub record Parted (cells : List PlacedCell) (c : PlacedCell) : Type 0 where
  pub front : List PlacedCell
  pub rest : List PlacedCell
  pub all : cells ≡ front ++ c ∷ rest

parted_at : (cells : List PlacedCell) (c : PlacedCell) → Contains cells c → Parted cells c
parted_at [] c (k, within, is) = absurd (omega (arith, within))
parted_at (d ∷ ds) c (zero, within, is) = record { front = []; rest = ds; all = ap (λ (x : PlacedCell). x ∷ ds) is }
parted_at (d ∷ ds) c (suc k, within, is) =
    let more = parted_at ds c (k, omega (arith, within), is) in
    record { front = d ∷ more.front; rest = more.rest; all = ap (λ (cs : List PlacedCell). d ∷ cs) more.all }

module _ (d : DomainNow) (is : IsReadFrom d) where
  -- ---- in which chain a cell stands

  abbrev starts_by : (at : CellAt) → ((start : CellAt) × inside d is at start) ⊎ ((start : CellAt) → (cell : Cell) × IsOnTable d.pages (layout_of d) start cell → ¬ inside d is at start) → CellAt
  starts_by at (inl found) = found.0
  starts_by at (inr none) = at

  abbrev starts : CellAt → CellAt
  starts at = starts_by at (in_all d.pages (layout_of d) is.tables.laid (inside d is at) (inside_or_not d is at))

  start_by : (at start : CellAt) (chain : List PlacedCell) → files d is start ≡ Some chain → Contains (places chain) at
      → (found : ((start : CellAt) × inside d is at start) ⊎ ((start : CellAt) → (cell : Cell) × IsOnTable d.pages (layout_of d) start cell → ¬ inside d is at start)) → starts_by at found ≡ start
  start_by at start chain there among (inl (other, also)) = by_chain (files d is other) refl also
    where
      by_chain : (o : Option (List PlacedCell)) → files d is other ≡ o → IsSomeAnd o (λ cs. Contains (places cs) at) → other ≡ start
      by_chain None there_also inside_also = absurd inside_also
      by_chain (Some cs) there_also inside_also = one_chain d is other start at cs chain there_also there inside_also among
  start_by at start chain there among (inr none) =
      let c = chain_at d is start chain there in
      absurd (none start (subst (λ a. (cell : Cell) × IsOnTable d.pages (layout_of d) a cell) c.at_is (c.begun.cell, c.begun.on))
      (subst (λ o. IsSomeAnd o (λ cs. Contains (places cs) at)) (sym there) among))

  start_is : (at start : CellAt) (chain : List PlacedCell) → files d is start ≡ Some chain → Contains (places chain) at → starts at ≡ start
  start_is at start chain there among = start_by at start chain there among (in_all d.pages (layout_of d) is.tables.laid (inside d is at) (inside_or_not d is at))

  abbrev holder_of : Owner → Holder
  holder_of Owner.of_volume = Holder.of_volume
  holder_of Owner.of_log = Holder.of_log
  holder_of Owner.of_table = Holder.of_table
  holder_of Owner.of_cells = Holder.of_cells
  holder_of (Owner.of_tags number) = Holder.of_tags number
  holder_of (Owner.of_index at place) = Holder.of_index at place
  holder_of (Owner.of_file at page) = Holder.of_file (starts at) page

  -- ---- what is held belongs to an owner

  record IsOwnedAs (holder : Holder) (home : Home) : Type 0 where
    owner : Owner
    belongs : BelongsTo d.pages (layout_of d) owner home
    back : holder_of owner ≡ holder

  of_tags_page : (number : ℕ) (home : Home) → has_home (d.tags number) home ≡ true → IsOwnedAs (Holder.of_tags number) home
  of_tags_page number home has = by_item (slice_get d.table.slots number) refl
    where
      by_item : (o : Option SlotItem) → slice_get d.table.slots number ≡ o → IsOwnedAs (Holder.of_tags number) home
      by_item None there = absurd (true≢false (sym has ∙ ap (λ (ps : List TagPlace). has_home ps home) (is.tags number there)))
      by_item (Some item) there = record { owner = Owner.of_tags number; belongs = record { item = item; there = there; has = has }; back = refl }

  index_named : (at : CellAt) (place : ℕ) (home : Home) → slice_get (indexes d is at) place ≡ Some home → (o : Option Home) → option_and_then index_of (files d is at) ≡ o → HasIndexPage d.pages (layout_of d) at place home
  index_named at place home there None named = nowhere home (sym (ap (λ (hs : List Home). slice_get hs place) (indexes_none d is at named)) ∙ there)
  index_named at place home there (Some first) named =
      let names = names_index d is at first named in
      let pages = indexes_are d is at first named in
      let come : ComesAt d.pages (frame_of (layout_of d)) (small d is) first (read_all d is at first names) (good_all d is at first names) place home =
      from_first d.pages (frame_of (layout_of d)) (small d is) first (read_all d is at first names) (good_all d is at first names) 9437185 place home
      (sym (ap (λ (hs : List Home). slice_get hs place) pages) ∙ there) in
      record {
        cell = names.cell;
        on = on_table d.pages (layout_of d) is.tables.laid at names.cell names.is.place names.is.stands;
        value = names.value;
        there = names.there;
        first = first;
        begins = names.begins;
        passed = come.passed;
        is = come.reached;
        behind = come.behind;
      }

  of_file_page : (at : CellAt) (page : ℕ) (home : Home) → place_in (files d is) at page ≡ At home → IsOwnedAs (Holder.of_file at page) home
  of_file_page at page home placed =
      let x : IsOfChain d is at page home = of_chain d is at page home placed in
      record { owner = Owner.of_file x.at page; belongs = x.extent; back = ap (λ a. Holder.of_file a page) (start_is x.at at x.chain x.there x.among) }

  owned_as : (holder : Holder) (home : Home) → Holds d (files d is) (indexes d is) holder home → IsOwnedAs holder home
  owned_as Holder.of_volume home held = record { owner = Owner.of_volume; belongs = held; back = refl }
  owned_as Holder.of_log home held = record { owner = Owner.of_log; belongs = held; back = refl }
  owned_as Holder.of_table home held = record { owner = Owner.of_table; belongs = held; back = refl }
  owned_as Holder.of_cells home held = record { owner = Owner.of_cells; belongs = held; back = refl }
  owned_as (Holder.of_tags number) home held = of_tags_page number home held
  owned_as (Holder.of_index at place) home held = record { owner = Owner.of_index at place; belongs = index_named at place home held (option_and_then index_of (files d is at)) refl; back = refl }
  owned_as (Holder.of_file at page) home held = of_file_page at page home held

  -- ---- what belongs to an owner is held

  -- the first cell of a volume says the volume alone
  volume_records : (at : CellAt) (cell : Cell) → IsOnTable d.pages (layout_of d) at cell → IsFirstPlace d.frame at → (vol pages bits : ℕ) × (cell.records ≡ written.Volume vol pages bits ∷ [])
  volume_records at cell on first =
      let volume = is.tables.volumes at.vol on.member in
      let place : first_place d.frame at.vol ≡ at = (λ i. record { vol = at.vol; page = sym first.0 i; cell = sym first.1 i }) in
      let same : volume.cell ≡ cell = one_stands d.pages at volume.cell cell (subst (λ a. StandsAt d.pages a volume.cell) place volume.stands) on.stands in
      let count = (member_of d.frame.anchor at.vol).pages in
      (at.vol, count, bitmap_pages d.frame.version count, ap (λ (x : Cell). x.records) (sym same) ∙ volume.says.says)

  -- a cell that names an index is the first of a file
  is_first : (at : CellAt) (cell : Cell) → IsOnTable d.pages (layout_of d) at cell → (value : Record) → record_of 9 cell.records ≡ Some value → cell.head.kind ≡ kinds.Primary
  is_first at cell on value there = by_kind cell.head.kind refl
    where
      not_chain : ¬ cell.head.kind ≡ kinds.Chain
      not_chain kind = ⊎_elim (λ right. nowhere value (sym (chain_index cell.records right) ∙ there))
          (λ wrong. no_cell d.pages (layout_of d) is.tables.laid (tables d is) at (inr (inr (inl (record { cell = cell; used = used_on d.pages (layout_of d) is.tables.laid (tables d is) at cell on; wrong = inl (kind, wrong) })))))
          (cases_Bool (is_chain_records cell.records))

      not_quota : ¬ cell.head.kind ≡ kinds.Quota
      not_quota kind = nowhere value (sym (no_record 9 (λ e. omega (arith, e)) (λ e. omega (arith, e)) cell.records
          (quota_cell d.pages (layout_of d) is.tables.laid (fault d is) (small d is) (quotas d is) at cell on kind).limits) ∙ there)

      not_volume : ¬ cell.head.kind ≡ kinds.Volume
      not_volume kind =
          let volume = volume_records at cell on (first_place_of d is at cell on kind) in
          nowhere value (sym (ap (record_of 9) volume.3) ∙ there)

      by_kind : (kind : CellKind) → cell.head.kind ≡ kind → cell.head.kind ≡ kinds.Primary
      by_kind kinds.Primary kind = kind
      by_kind kinds.Chain kind = absurd (not_chain kind)
      by_kind kinds.Quota kind = absurd (not_quota kind)
      by_kind kinds.Volume kind = absurd (not_volume kind)

  index_held : (at : CellAt) (place : ℕ) (home : Home) → HasIndexPage d.pages (layout_of d) at place home → slice_get (indexes d is at) place ≡ Some home
  index_held at place home has =
      let found = chain_there d is at (record { cell = has.cell; on = has.on; kind = inl (is_first at has.cell has.on has.value has.there) }) in
      let named : option_and_then index_of (files d is at) ≡ Some has.first =
      ap (option_and_then index_of) found.1 ∙ ap (option_and_then index_in) (first_is d is at found.0 found.1 has.cell has.on 9 ∙ has.there) ∙ has.begins in
      let names = names_index d is at has.first named in
      let short = few d.pages (frame_of (layout_of d)) (small d is) has.first (read_all d is at has.first names) (good_all d is at has.first names) has.passed home has.is in
      ap (λ (hs : List Home). slice_get hs place) (indexes_are d is at has.first named)
      ∙ subst (λ k. slice_get (pages_of d is at has.first names) k ≡ Some home) has.behind
      (stands_in d.pages (frame_of (layout_of d)) (small d is) has.first (read_all d is at has.first names) (good_all d is at has.first names) has.passed home has.is 9437185 (omega (arith, short)))

  -- each cell of a file has one record that says places
  has_map : (c : PlacedCell) → IsMapCell c.cell → (value : Record) × HasMap c.cell value
  has_map c map = (map.value, record { only = ap map_records map.only ∙ ap (λ b. cond b (map.value ∷ []) []) (le-leb 1 (most_rows (kind_of map.value)) map.is_map.has_rows); is_map = map.is_map })

  file_map_at : (at : CellAt) (chain : List PlacedCell) → IsFile d.pages at chain → (c : PlacedCell) → Contains chain c → (value : Record) × HasMap c.cell value
  file_map_at at [] file c among = absurd file
  file_map_at at (first ∷ rest) file c (zero, within, same) = subst (λ (x : PlacedCell). (value : Record) × HasMap x.cell value) same (file.1.value, file.1.map)
  file_map_at at (first ∷ rest) file c (suc k, within, same) = has_map c (all_at (λ (x : PlacedCell). IsMapCell x.cell) rest c file.1.others (k, omega (arith, within), same))

  quotas_at : (at : CellAt) (chain : List PlacedCell) → IsQuotas d.pages at chain → (c : PlacedCell) → Contains chain c → IsQuotaCell c.cell
  quotas_at at [] quota c among = absurd quota
  quotas_at at (first ∷ rest) quota c among = all_at (λ (x : PlacedCell). IsQuotaCell x.cell) (first ∷ rest) c quota.1.cells among

  limits_at : (rs : List Record) (r : Record) → AllByRecursion (λ r. (kind_of r ≡ 7) ⊎ (kind_of r ≡ 8)) rs → Contains rs r → (kind_of r ≡ 7) ⊎ (kind_of r ≡ 8)
  limits_at rs r all among = all_at (λ r. (kind_of r ≡ 7) ⊎ (kind_of r ≡ 8)) rs r all among

  module _ (at : CellAt) (page : ℕ) (home : Home) (has : HasExtent d.pages (layout_of d) at page home) where
    -- the cell as one of the chain
    record InChain (start : CellAt) (chain : List PlacedCell) : Type 0 where
      c : PlacedCell
      among : Contains chain c
      same : c.cell ≡ has.cell

    in_chain : (start : CellAt) (chain : List PlacedCell) → files d is start ≡ Some chain → Contains (places chain) at → InChain start chain
    in_chain start chain there within =
        let c = chain_at d is start chain there in
        let x = placed_in chain at within in
        let way : IsOnWay d.pages (layout_of d) c.first.at x.0 = all_at (IsOnWay d.pages (layout_of d) c.first.at) (c.first ∷ c.rest) x.0 c.on_way (subst (λ cs. Contains cs x.0) c.all x.1) in
        record { c = x.0; among = x.1; same = one_stands d.pages at x.0.cell has.cell (subst (λ a. IsOnTable d.pages (layout_of d) a x.0.cell) x.2 way.on).stands has.on.stands }

    by_file : (start : CellAt) (chain : List PlacedCell) → InChain start chain → IsFile d.pages start chain → places_of chain page ≡ At home
    by_file start chain x file =
        let map = file_map_at start chain file x.c x.among in
        let parts = parted_at chain x.c x.among in
        let value : map.0 ≡ has.value = one_value x.c.cell map.0 has.value map.1 (subst (λ (y : Cell). Contains y.records has.value) (sym x.same) has.among) (has_places has.value page home has.place) in
        let placed : places_in map.0 page ≡ At home = ap (λ r. places_in r page) value ∙ has.place in
        ap (λ cs. places_of cs page) parts.all
        ∙ shown_value parts.front x.c parts.rest map.0 map.1 (subst (λ cs. AreOneMap (records_of cs)) parts.all (file_map d.pages start chain file)) page (λ none. not_placed home (sym none ∙ placed))
        ∙ placed

    by_quotas : (start : CellAt) (chain : List PlacedCell) → InChain start chain → IsQuotas d.pages start chain → ⊥
    by_quotas start chain x quota =
        ⊎_elim (λ users. no_rows has.value 7 users refl page home has.place) (λ groups. no_rows has.value 8 groups refl page home has.place)
        (limits_at has.cell.records has.value (subst (λ (y : Cell). AllByRecursion (λ r. (kind_of r ≡ 7) ⊎ (kind_of r ≡ 8)) y.records) x.same (quotas_at start chain quota x.c x.among).limits) has.among)

    by_volume : IsFirstPlace d.frame at → ⊥
    by_volume first =
        let volume = volume_records at has.cell has.on first in
        let value = only_one (written.Volume volume.0 volume.1 volume.2) has.value (subst (λ rs. Contains rs has.value) volume.3 has.among) in
        no_rows has.value 12 (ap kind_of (sym value)) refl page home has.place

    of_start : (start : CellAt) (chain : List PlacedCell) → files d is start ≡ Some chain → Contains (places chain) at → place_in (files d is) (starts at) page ≡ At home
    of_start start chain there within =
        let x = in_chain start chain there within in
        let placed : places_of chain page ≡ At home =
        ⊎_elim (λ file. by_file start chain x file.0) (λ quota. absurd (by_quotas start chain x quota.0))
        (is_as d.pages (layout_of d) is.tables.laid (fault d is) (small d is) (quotas d is) start chain there).is in
        ap (λ a. place_in (files d is) a page) (start_is at start chain there within) ∙ ap (λ o. option_map_or (λ cs. places_of cs page) o Absent) there ∙ placed

    file_held : place_in (files d is) (starts at) page ≡ At home
    file_held = ⊎_elim (λ first. absurd (by_volume first)) (λ chained. by_chain chained.0 (files d is chained.0) refl chained.1) (used d is at has.cell has.on)
      where
        by_chain : (start : CellAt) (o : Option (List PlacedCell)) → files d is start ≡ o → IsSomeAnd o (λ chain. Contains (places chain) at) → place_in (files d is) (starts at) page ≡ At home
        by_chain start None there within = absurd within
        by_chain start (Some chain) there within = of_start start chain there within

  held_for : (owner : Owner) (home : Home) → BelongsTo d.pages (layout_of d) owner home → Holds d (files d is) (indexes d is) (holder_of owner) home
  held_for Owner.of_volume home belongs = belongs
  held_for Owner.of_log home belongs = belongs
  held_for Owner.of_table home belongs = belongs
  held_for Owner.of_cells home belongs = belongs
  held_for (Owner.of_tags number) home belongs = belongs.has
  held_for (Owner.of_index at place) home belongs = index_held at place home belongs
  held_for (Owner.of_file at page) home belongs = file_held at page home belongs

  -- ---- all pages

  unheld : (home : Home) → ¬ IsOwned d.pages (layout_of d) home → IsUnheld d (files d is) (indexes d is) home
  unheld home none holder held = let owned = owned_as holder home held in none (owned.owner, owned.belongs)

  unowned : (home : Home) → IsUnheld d (files d is) (indexes d is) home → ¬ IsOwned d.pages (layout_of d) home
  unowned home none (owner, belongs) = none (holder_of owner) (held_for owner home belongs)

  none_waits : (space : VolumeSpace) (page : ℕ) → space.waiting ≡ [] → is_waiting space page ≡ false
  none_waits space page settled = ap (λ waiting. is_among waiting page) settled

  held_on : (vol : ℕ) (space : VolumeSpace) → IsVolumeSpace d.pages (layout_of d) vol space → AreHeldOn d (files d is) (indexes d is) vol space
  held_on vol space of = record {
    count = of.count;
    opened = of.opened;
    free = λ page within. (
      (λ unused. (unheld (record { vol = vol; page = page }) ((of.free page within).0 unused), none_waits space page of.settled)),
      (λ none. (of.free page within).1 (unowned (record { vol = vol; page = page }) none.0)),
    );
    waits = λ page waits. absurd (true≢false (sym waits ∙ none_waits space page of.settled));
  }

  held_at : (vol : ℕ) (o : Option VolumeSpace) → IsSpaceAt d.pages (layout_of d) vol o → AreHeldAt d (files d is) (indexes d is) vol o
  held_at vol None of = of
  held_at vol (Some space) of = (of.0, held_on vol space of.1)

  once : (home : Home) (one other : Holder) → Holds d (files d is) (indexes d is) one home → Holds d (files d is) (indexes d is) other home → one ≡ other
  once home one other in_one in_other =
      let a = owned_as one home in_one in
      let b = owned_as other home in_other in
      sym a.back ∙ ap holder_of (one_owner d is home a.owner b.owner a.belongs b.belongs) ∙ b.back

  pub holds_owned : HoldsOwned d (files d is) (indexes d is)
  holds_owned = record { once = once; spaces = λ vol first. held_at vol (volume_of d.space vol) (is.space vol first) }
