-- Where a domain stands, pages of cells are those of tables: each cell in use has a place, and what is read of a place is a cell in use.
use Rattle.std.proofs.Common.{◌≡◌, ◌∙◌, ℕ, zero, suc, ◌+◌, ◌<◌, true, false, cond, nat_eq, nat_le, ◌&&◌, List, [], ◌∷◌, length, map, Option, Some, None, IsSomeAnd, slice_get, slice_index, refl, sym, ap, subst, arith, ⊎_elim}
use Rattle.std.proofs.lemmas.Bool.{cases_Bool, eq-eqb, eqb-true, le-leb}
use Rattle.std.specs.Option.{option_map}
use Rattle.std.specs.Prelude.{slice_index_or, unwrap_or}
use Rattle.domain_memory.specs.domain_base.declared.place.CellAt.{CellAt}
use Rattle.domain_memory.specs.domain_base.declared.place.Home.{Home}
use Rattle.domain_memory.specs.page_store.Pages.{Pages}
use Rattle.domain_memory.specs.cell_records.Fields.{number_at}
use Rattle.domain_memory.specs.log_ring.Homes.{IsMember}
use Rattle.domain_memory.specs.metadata_cells.Cell.{Cell, HasHead, IsAddress}
use Rattle.domain_memory.specs.metadata_cells.CellPage.{home_of, next_of}
use Rattle.domain_memory.specs.metadata_cells.Chain.{StandsAt}
use Rattle.domain_memory.specs.metadata_cells.declared.head.CellHead.{CellHead}
use Rattle.domain_memory.proofs.OfMetadataCells.CellKinds.{used_not_zeros}
use Rattle.domain_memory.proofs.OfMetadataCells.Walk.{one_kind}
use Rattle.domain_memory.specs.fileset_model.Filesets.{FilesetMap}
use Rattle.domain_memory.specs.domain_layout.CellRules.{IsLink, IsPlace, IsUsed, Link, next_in}
use Rattle.domain_memory.specs.domain_layout.Layout.{IsCellTable, IsPageAt}
use Rattle.domain_memory.specs.domain_layout.Owners.{IsOnTable}
use Rattle.domain_memory.specs.domain_layout.Reached.{MayBe, cells_way}
use Rattle.domain_memory.proofs.OfDomainLayout.Named.{link_to}
use Rattle.domain_memory.proofs.OfDomainLayout.OnePage.{HasOne, one_of, some_same}
use Rattle.domain_memory.proofs.OfDomainLayout.OneTable.{within_page}
use Rattle.domain_memory.proofs.OfFilesetsReading.OnTables.{is_there, on_table}
use Rattle.domain_memory.proofs.OfFilesetsReading.Ways.{get_map, within_of}
use Rattle.domain_memory.specs.domain_standing.Domain.{DomainNow, layout_of}
use Rattle.domain_memory.specs.domain_standing.Holders.{Holder, Holds}
use Rattle.domain_memory.specs.domain_standing.Standing.{StandsDomain}
use Rattle.no_faults.proofs.OnTables.{HasPlaceOf, some_kind, used_or_zeros}
use Rattle.domain_memory.specs.standing_laws.Sound.{StandsSound}
use Rattle.no_faults.proofs.Ways.{AreWay, IsOnWay, at_of, contains_of, is_read, map_at, nothing}

-- ---- addresses

address_in : (z v c p : ℕ) (o : Option CellAt) → z ≡ 0 → IsAddress v c p o
    → o ≡ cond (nat_eq z 0 && (nat_le 1 v && (nat_le v 8 && nat_le c 27))) (Some (record { vol = v; page = p; cell = c })) None
address_in z v c p None zero_there is =
    sym (λ i. cond (nat_eq (zero_there i) 0 && (nat_le 1 (is.0 i) && (nat_le (is.0 i) 8 && nat_le c 27))) (Some (record { vol = v; page = p; cell = c })) None)
address_in z v c p (Some at) zero_there is =
    let test : (nat_eq z 0 && (nat_le 1 v && (nat_le v 8 && nat_le c 27))) ≡ true =
    (λ i. eq-eqb z 0 zero_there i && (le-leb 1 v is.0.0 i && (le-leb v 8 is.0.1 i && le-leb c 27 is.0.2 i))) in
    ap Some is.1 ∙ sym (ap (λ b. cond b (Some (record { vol = v; page = p; cell = c })) None) test)

-- a head leads where its cell does
next_same : (bytes : List ℕ) (head : CellHead) (size : ℕ) → HasHead bytes head size → head.next ≡ next_in bytes
next_same bytes head size is = address_in (number_at 2 0 bytes) (number_at 1 2 bytes) (number_at 1 3 bytes) (number_at 4 4 bytes) head.next is.zero is.next

-- ---- tables of cells

index_at : (xs : List ℕ) (k x : ℕ) → slice_get xs k ≡ Some x → slice_index xs k ≡ x
index_at [] k x is = nothing x is
index_at (y ∷ ys) zero x is = some_same y x is
index_at (y ∷ ys) (suc k) x is = index_at ys k x is

index_or : (xs : List ℕ) (k d : ℕ) → slice_index_or xs k d ≡ unwrap_or (slice_get xs k) d
index_or [] k d = refl
index_or (x ∷ xs) zero d = refl
index_or (x ∷ xs) (suc k) d = index_or xs k d

abbrev pub homes_on : ℕ → List ℕ → List Home
homes_on vol table = map (λ page. record { vol = vol; page = page }) table

-- the page at a place of a table
page_on : (pages : Pages) (vol first : ℕ) (table : List ℕ) → IsCellTable pages vol first table → (k p : ℕ) → slice_get table k ≡ Some p → HasOne (pages (record { vol = vol; page = p })) (IsPageAt table k)
page_on pages vol first table is k p at =
    one_of (pages (record { vol = vol; page = p })) (IsPageAt table k)
    (subst (λ n. IsSomeAnd (pages (record { vol = vol; page = n })) (IsPageAt table k)) (index_at table k p at) (is.each k (within_of table k p at)))

leads_by : (vol : ℕ) (table : List ℕ) (k : ℕ) (page : List ℕ) → next_of page ≡ slice_index_or table (k + 1) 0 → ((place : ℕ) → place < length table → ¬ slice_index table place ≡ 0)
    → cond (nat_eq (next_of page) 0) None (Some (record { vol = vol; page = next_of page })) ≡ slice_get (homes_on vol table) (suc k)
leads_by vol table k page linked some = by_next (slice_get table (suc k)) refl
  where
    next : next_of page ≡ unwrap_or (slice_get table (suc k)) 0
    next = let e : k + 1 ≡ suc k = omega arith in linked ∙ ap (λ n. slice_index_or table n 0) e ∙ index_or table (suc k) 0

    by_next : (o : Option ℕ) → slice_get table (suc k) ≡ o
        → cond (nat_eq (next_of page) 0) None (Some (record { vol = vol; page = next_of page })) ≡ slice_get (homes_on vol table) (suc k)
    by_next None at =
        ap (λ b. cond b None (Some (record { vol = vol; page = next_of page }))) (eq-eqb (next_of page) 0 (next ∙ ap (λ o. unwrap_or o 0) at))
        ∙ sym (get_map (λ p. record { vol = vol; page = p }) table (suc k) ∙ ap (option_map (λ p. record { vol = vol; page = p })) at)
    by_next (Some p) at =
        let same : next_of page ≡ p = next ∙ ap (λ o. unwrap_or o 0) at in
        let not_zero : nat_eq (next_of page) 0 ≡ false =
        ⊎_elim (λ zero_there. absurd (some (suc k) (within_of table (suc k) p at) (index_at table (suc k) p at ∙ sym same ∙ eqb-true (next_of page) 0 zero_there))) (λ other. other) (cases_Bool (nat_eq (next_of page) 0)) in
        ap (λ b. cond b None (Some (record { vol = vol; page = next_of page }))) not_zero
        ∙ ap (λ n. Some (record { vol = vol; page = n })) same
        ∙ sym (get_map (λ n. record { vol = vol; page = n }) table (suc k) ∙ ap (option_map (λ n. record { vol = vol; page = n })) at)

-- ---- what is read of a cell

pub links_same : (pages : Pages) (d : DomainNow) (at : CellAt) (cell : Cell) (link : Link) → IsLink pages d.frame at link → StandsAt pages at cell → link_to cell ≡ link
links_same pages d at cell link is stands =
    let bytes : stands.bytes ≡ is.bytes = some_same stands.bytes is.bytes (sym stands.there ∙ is.there) in
    let kind : cell.head.kind ≡ link.kind = one_kind cell.head.kind link.kind (sym stands.is.head.kind ∙ ap (number_at 1 15) bytes ∙ is.kind) in
    let next : cell.head.next ≡ link.next = next_same stands.bytes cell.head _ stands.is.head ∙ ap next_in bytes ∙ sym is.next in
    (λ i. record { kind = kind i; next = next i })

module _ (d : DomainNow) (all : FilesetMap) (stands : StandsDomain d all) (sound : StandsSound d stands.files stands.indexes) where
  abbrev Held : Holder → Home → Type 0
  Held holder home = Holds d stands.files stands.indexes holder home

  -- a page that is held for something, but for the first pages of a volume and the log, is one that tables and files may have
  pub may_be : (holder : Holder) (home : Home) → Held holder home → ¬ holder ≡ Holder.of_volume → ¬ holder ≡ Holder.of_log → MayBe d.frame home
  may_be holder home held no_volume no_log =
      let inside = sound.within home holder no_volume no_log held in
      (inside, (λ reserved. ⊎_elim (λ low. no_volume (stands.owned.once home holder Holder.of_volume held (inside.0, low))) (λ log. no_log (stands.owned.once home holder Holder.of_log held log)) reserved))

  cells_may_be : (vol p k : ℕ) → IsMember d.frame.anchor vol → slice_get ((layout_of d).cells vol) k ≡ Some p → MayBe d.frame (record { vol = vol; page = p })
  cells_may_be vol p k member at =
      may_be Holder.of_cells (record { vol = vol; page = p }) (member, contains_of ((layout_of d).cells vol) k p at) (λ same. cc) (λ same. cc)

  -- ---- pages of cells

  module _ (vol : ℕ) (member : IsMember d.frame.anchor vol) where
    abbrev table : List ℕ
    table = (layout_of d).cells vol

    pub page_of_cells : (k p : ℕ) → slice_get ((layout_of d).cells vol) k ≡ Some p → HasOne (d.pages (record { vol = vol; page = p })) (IsPageAt ((layout_of d).cells vol) k)
    page_of_cells k p at = page_on d.pages vol _ ((layout_of d).cells vol) (stands.tables.laid.cells vol member) k p at

    on_way : (k : ℕ) (home : Home) → slice_get (homes_on vol ((layout_of d).cells vol)) k ≡ Some home → IsOnWay d.pages d.frame (cells_way d.frame vol) (homes_on vol ((layout_of d).cells vol)) k home
    on_way k home at =
        let p = map_at (λ n. record { vol = vol; page = n }) ((layout_of d).cells vol) k home at in
        let one = page_of_cells k p.0 p.1 in
        subst (IsOnWay d.pages d.frame (cells_way d.frame vol) (homes_on vol ((layout_of d).cells vol)) k) p.2 (record {
          page = one.value;
          there = one.there;
          so = one.is.good.magic;
          next = leads_by vol ((layout_of d).cells vol) k one.value one.is.linked (stands.tables.laid.cells vol member).some;
          may = cells_may_be vol p.0 k member p.1;
        })

    pub cells_are_way : AreWay d.pages d.frame (cells_way d.frame vol) (homes_on vol ((layout_of d).cells vol))
    cells_are_way = record {
      first = get_map (λ n. record { vol = vol; page = n }) ((layout_of d).cells vol) 0 ∙ ap (option_map (λ n. record { vol = vol; page = n })) (stands.tables.laid.cells vol member).begins;
      each = on_way;
      once = λ j k home one other.
          let p = map_at (λ n. record { vol = vol; page = n }) ((layout_of d).cells vol) j home one in
          let q = map_at (λ n. record { vol = vol; page = n }) ((layout_of d).cells vol) k home other in
          let x = page_of_cells j p.0 p.1 in
          let y = page_of_cells k q.0 q.1 in
          let same : x.value ≡ y.value = some_same x.value y.value (sym x.there ∙ ap d.pages (p.2 ∙ sym q.2) ∙ y.there) in
          sym x.is.indexed ∙ ap (λ page. number_at 4 4 page) same ∙ y.is.indexed;
    }

  -- ---- cells in use

  pub place_there : (at : CellAt) (cell : Cell) → IsOnTable d.pages (layout_of d) at cell → IsPlace d.pages d.frame at
  place_there at cell on =
      let k = at_of ((layout_of d).cells at.vol) at.page on.table in
      let one = page_of_cells at.vol on.member k.0 at.page k.1 in
      let home_at : slice_get (homes_on at.vol ((layout_of d).cells at.vol)) k.0 ≡ Some (home_of at) =
      get_map (λ n. record { vol = at.vol; page = n }) ((layout_of d).cells at.vol) k.0 ∙ ap (option_map (λ n. record { vol = at.vol; page = n })) k.1 in
      record {
        place = k.0;
        page = one.value;
        is = record { member = on.member; read = is_read d.pages d.frame (cells_way d.frame at.vol) (homes_on at.vol ((layout_of d).cells at.vol)) (cells_are_way at.vol on.member) k.0 (home_of at) one.value home_at one.there };
        within = within_page (d.pages (home_of at)) at.cell on.stands.bytes on.stands.there;
      }

  pub link_there : (at : CellAt) (cell : Cell) → IsOnTable d.pages (layout_of d) at cell → IsLink d.pages d.frame at (link_to cell)
  link_there at cell on = record {
    place = place_there at cell on;
    bytes = on.stands.bytes;
    there = on.stands.there;
    kind = on.stands.is.head.kind;
    next = next_same on.stands.bytes cell.head _ on.stands.is.head;
  }

  pub on_table_of : (at : CellAt) (cell : Cell) → IsUsed d.pages d.frame at cell → IsOnTable d.pages (layout_of d) at cell
  on_table_of at cell used = on_table d.pages (layout_of d) stands.tables.laid at cell used.place used.stands

  pub has_place : (at : CellAt) → IsPlace d.pages d.frame at → HasPlaceOf d.pages (layout_of d) stands.tables.laid at
  has_place at place =
      let there = is_there d.pages (layout_of d) stands.tables.laid at.vol place.is.member place.is.read.passed (home_of at) place.is.read.reached in
      record { member = place.is.member; table = contains_of ((layout_of d).cells at.vol) (length place.is.read.passed) at.page there.there; within = place.within }

  -- what is read of a cell that has a place is read of one in use
  pub record LinkOf (at : CellAt) (link : Link) : Type 0 where
    pub cell : Cell
    pub on : IsOnTable d.pages (layout_of d) at cell
    pub same : link_to cell ≡ link

  pub link_used : (at : CellAt) (link : Link) → IsLink d.pages d.frame at link → LinkOf at link
  link_used at link is =
      ⊎_elim (λ used. record { cell = used.0; on = used.1; same = links_same d.pages d at used.0 link is used.1.stands })
      (λ zeros. absurd (used_not_zeros d.pages at (subst (λ o. IsSomeAnd o (λ bytes. ¬ number_at 1 15 bytes ≡ 0)) (sym is.there) (λ zero_there. some_kind link.kind (sym is.kind ∙ zero_there))) zeros))
      (used_or_zeros d.pages (layout_of d) stands.tables.laid at (has_place at is.place))
