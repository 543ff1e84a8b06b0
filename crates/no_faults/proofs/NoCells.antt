-- Where a domain stands, no rule of cells is broken.
use Rattle.std.proofs.Common.{◌≡◌, ◌∙◌, ◌⊎◌, inl, inr, ℕ, suc, ◌<◌, true, false, nat_eq, ◌||◌, List, [], ◌∷◌, ◌++◌, length, Some, IsSomeAnd, Contains, slice_get, refl, sym, ap, subst, arith, ⊎_elim}
use Rattle.std.proofs.lemmas.Bool.{and_from, eq-eqb, or_left, or_right, true≢false}
use Rattle.std.specs.List.{AllByRecursion, list_all}
use Rattle.std.specs.Option.{option_and_then, option_map}
use Rattle.domain_memory.specs.domain_base.declared.place.CellAt.{CellAt}
use Rattle.domain_memory.specs.domain_base.declared.place.Home.{Home}
use Rattle.domain_memory.specs.domain_base.declared.place.Tag.{Tag}
use Rattle.domain_memory.specs.cell_records.Records.{kind_of}
use Rattle.domain_memory.specs.cell_records.declared.record.Leftover.TheVariants.{Remove}
use Rattle.domain_memory.specs.cell_records.declared.record.Record.{Record}
use Rattle.domain_memory.specs.metadata_cells.Cell.{Cell, IsFreeCell}
use Rattle.domain_memory.specs.metadata_cells.CellPage.{cell_at, cell_of}
use Rattle.domain_memory.specs.metadata_cells.Chain.{PlacedCell, StandsAt, may_follow, places, records_of}
use Rattle.domain_memory.specs.metadata_cells.declared.head.CellKind.TheVariants as kinds
use Rattle.domain_memory.proofs.OfMetadataCells.Unique.{one_stands}
use Rattle.domain_memory.specs.tag_dirs.Directory.{cell_of as cell_by}
use Rattle.domain_memory.specs.file_chains.Files.{IsFile}
use Rattle.domain_memory.specs.quota_book.QuotaCells.{AreOnce, said_by}
use Rattle.domain_memory.specs.release_list.Listed.{left_of, leftover_in}
use Rattle.domain_memory.specs.release_list.Standing.{IsQuotaCell, IsQuotas}
use Rattle.domain_memory.proofs.OfReleaseList.Standings.{no_record}
use Rattle.domain_memory.specs.fileset_model.Filesets.{FilesetMap}
use Rattle.domain_memory.specs.domain_layout.CellRules.{AreHolesOfOriginal, AreInChain, AreLimitsTwice, Follows, HasWrongCell, HasWrongHeader, IsCellFault, IsCellsFault, IsCellsPage, IsChainHead, IsFirstPlace, IsLedTo, IsLink, IsNoCellsPage, IsPageTwice, IsPlace, IsUnchained, IsWrongFirst, IsWrongLater, IsWrongVolumeCell, LeadsTo, LeadsWrong, Link, SaysVolume, are_limits, has_kind, item_of, of_original, say_removed}
use Rattle.domain_memory.specs.domain_layout.Layout.{IsPageAt}
use Rattle.domain_memory.specs.domain_layout.Owners.{IsOnTable}
use Rattle.domain_memory.proofs.OfDomainLayout.Named.{link_to}
use Rattle.domain_memory.proofs.OfDomainLayout.OnePage.{some_same}
use Rattle.domain_memory.proofs.OfFilesetsReading.CellTables.{there_at}
use Rattle.domain_memory.proofs.OfFilesetsReading.Ways.{get_map, within_of}
use Rattle.domain_memory.specs.domain_standing.Chains.{AreQuotasOf, IsQuotaOf}
use Rattle.domain_memory.specs.domain_standing.Domain.{DomainNow, layout_of}
use Rattle.domain_memory.specs.domain_standing.Rest.{HasNoHoles}
use Rattle.domain_memory.specs.domain_standing.Standing.{StandsDomain}
use Rattle.domain_memory.specs.domain_standing.Tables.{first_place}
use Rattle.domain_memory.specs.standing_laws.Sound.{StandsSound}
use Rattle.no_faults.proofs.Following.{FollowsIn, IsHead, NextIn, comes_to, follows_in, head_is, next_in, next_there, not_passed}
use Rattle.no_faults.proofs.InChains.{BeginsFile, all_get, begins_file, chain_is, distinct_at, in_some_chain, is_found, leads_next, may_next, no_volume, of_quotas, one_chain}
use Rattle.no_faults.proofs.FaultNamed.{names_chain}
use Rattle.no_faults.proofs.FaultOnTables.{cells_are_way, homes_on, link_there, link_used, on_table_of, page_of_cells}
use Rattle.no_faults.proofs.Twice.{limits_place, no_owner_twice, no_page_twice}
use Rattle.no_faults.proofs.Ways.{at_of, contains_of, map_at, none_unread, nothing, read_at}

quota_volume : ¬ kinds.Quota ≡ kinds.Volume
quota_volume same = cc

chain_volume : ¬ kinds.Chain ≡ kinds.Volume
chain_volume same = cc

primary_quota : ¬ kinds.Primary ≡ kinds.Quota
primary_quota same = cc

primary_volume : ¬ kinds.Primary ≡ kinds.Volume
primary_volume same = cc

-- limits alone
limits_true : (rs : List Record) → AllByRecursion (λ r. (kind_of r ≡ 7) ⊎ (kind_of r ≡ 8)) rs → are_limits rs ≡ true
limits_true [] all = refl
limits_true (r ∷ rs) all =
    and_from (nat_eq (kind_of r) 7 || nat_eq (kind_of r) 8) (list_all (λ s. nat_eq (kind_of s) 7 || nat_eq (kind_of s) 8) rs)
    (⊎_elim (λ users. or_left (nat_eq (kind_of r) 7) (nat_eq (kind_of r) 8) (eq-eqb (kind_of r) 7 users)) (λ groups. or_right (nat_eq (kind_of r) 7) (nat_eq (kind_of r) 8) (eq-eqb (kind_of r) 8 groups)) all.0)
    (limits_true rs all.1)

pub in_all : (P : Record → Type 0) (rs : List Record) → AllByRecursion P rs → (r : Record) → Contains rs r → P r
in_all P rs all r among = let k = at_of rs r among in all_get P rs all k.0 r k.1

module _ (d : DomainNow) (all : FilesetMap) (stands : StandsDomain d all) (sound : StandsSound d stands.files stands.indexes) where
  -- ---- pages of cells

  no_page : (home : Home) → ¬ IsNoCellsPage d.pages d.frame home
  no_page home wrong = none_unread d.pages d.frame _ (homes_on wrong.vol ((layout_of d).cells wrong.vol)) (cells_are_way d all stands sound wrong.vol wrong.member) home wrong.unread

  -- a page that is read is that of its place
  record IsOfTable (place : ℕ) (home : Home) (page : List ℕ) : Type 0 where
    there : slice_get ((layout_of d).cells home.vol) place ≡ Some home.page
    is : IsPageAt ((layout_of d).cells home.vol) place page

  of_table : (place : ℕ) (home : Home) (page : List ℕ) → IsCellsPage d.pages d.frame place home page → IsOfTable place home page
  of_table place home page is =
      let table = (layout_of d).cells home.vol in
      let at = read_at d.pages d.frame _ (homes_on home.vol table) (cells_are_way d all stands sound home.vol is.member) place home page is.read in
      let p = map_at (λ n. record { vol = home.vol; page = n }) table place home at in
      let one = page_of_cells d all stands sound home.vol is.member place p.0 p.1 in
      record {
        there = p.1 ∙ ap (λ (h : Home). Some h.page) p.2;
        is = subst (IsPageAt table place) (some_same one.value page (sym one.there ∙ ap d.pages p.2 ∙ is.read.there)) one.is;
      }

  no_header : (home : Home) → ¬ HasWrongHeader d.pages d.frame home
  no_header home wrong =
      let at = (of_table wrong.place home wrong.page wrong.is).is in
      ⊎_elim (λ index. index at.indexed) (λ more. ⊎_elim (λ free. free at.good.free) (λ end. end at.good.end) more) wrong.wrong

  no_cell : (home : Home) → ¬ HasWrongCell d.pages d.frame home
  no_cell home wrong = ⊎_elim (λ (free : IsFreeCell (cell_of wrong.page wrong.cell)). wrong.used free) (λ used. wrong.wrong used.0 (record { is = used.1; known = stands.rest.kinds (record { vol = home.vol; page = home.page; cell = wrong.cell }) used.0 (on used.0 (record { bytes = cell_of wrong.page wrong.cell; there = there; is = used.1 })) })) (page.is.good.cells wrong.cell wrong.within)
    where
      page : IsOfTable wrong.place home wrong.page
      page = of_table wrong.place home wrong.page wrong.is

      there : cell_at d.pages (record { vol = home.vol; page = home.page; cell = wrong.cell }) ≡ Some (cell_of wrong.page wrong.cell)
      there = there_at d.pages home wrong.page wrong.is.read.there page.is.good.magic wrong.cell wrong.within

      on : (cell : Cell) → StandsAt d.pages (record { vol = home.vol; page = home.page; cell = wrong.cell }) cell → IsOnTable d.pages (layout_of d) (record { vol = home.vol; page = home.page; cell = wrong.cell }) cell
      on cell stand = record { member = wrong.is.member; table = contains_of ((layout_of d).cells home.vol) wrong.place home.page page.there; stands = stand }

  -- ---- single cells

  no_volume_cell : (at : CellAt) → ¬ IsWrongVolumeCell d.pages d.frame at
  no_volume_cell at wrong = ⊎_elim (λ w. silent w.0 w.1 w.2) (λ w. elsewhere w.0 w.1 w.2 w.3) wrong
    where
      silent : IsPlace d.pages d.frame at → IsFirstPlace d.frame at → ((cell : Cell) → StandsAt d.pages at cell → ¬ SaysVolume d.frame at.vol cell) → ⊥
      silent place first none =
          let volume = stands.tables.volumes at.vol place.is.member in
          let same : first_place d.frame at.vol ≡ at = (λ i. record { vol = at.vol; page = sym first.0 i; cell = sym first.1 i }) in
          none volume.cell (subst (λ a. StandsAt d.pages a volume.cell) same volume.stands) volume.says

      elsewhere : (link : Link) → IsLink d.pages d.frame at link → link.kind ≡ kinds.Volume → ¬ IsFirstPlace d.frame at → ⊥
      elsewhere link is volume other =
          let used = link_used d all stands sound at link is in
          ⊎_elim other (λ x. no_volume d all stands at used.cell x (ap (λ (l : Link). l.kind) used.same ∙ volume)) (is_found d all stands at used.cell used.on)

  no_first : (at : CellAt) → ¬ IsWrongFirst d.pages d.frame d.table at
  no_first at wrong = true≢false (sym (stands.rest.firsts at wrong.cell (on_table_of d all stands sound at wrong.cell wrong.used) wrong.kind) ∙ wrong.wrong)

  -- the records of a quota cell
  pub limits_of : (at : CellAt) (cell : Cell) → IsOnTable d.pages (layout_of d) at cell → cell.head.kind ≡ kinds.Quota → AllByRecursion (λ r. (kind_of r ≡ 7) ⊎ (kind_of r ≡ 8)) cell.records
  limits_of at cell on quota =
      let x = in_some_chain d all stands at cell on (λ volume. quota_volume (sym quota ∙ volume)) in
      let quotas = of_quotas d all stands at cell x quota in
      subst (λ (c : Cell). AllByRecursion (λ r. (kind_of r ≡ 7) ⊎ (kind_of r ≡ 8)) c.records) x.cell_is (all_get (λ (c : PlacedCell). IsQuotaCell c.cell) (x.first ∷ x.rest) quotas.1.cells x.k x.c x.in_chain).limits

  no_later : (at : CellAt) → ¬ IsWrongLater d.pages d.frame at
  no_later at wrong =
      let on = on_table_of d all stands sound at wrong.cell wrong.used in
      ⊎_elim (λ chain. true≢false (sym (sound.laters at wrong.cell on chain.0) ∙ chain.1))
      (λ quota. true≢false (sym (limits_true wrong.cell.records (limits_of at wrong.cell on quota.0)) ∙ quota.1)) wrong.wrong

  -- ---- chains

  no_lead : (at : CellAt) → ¬ LeadsWrong d.pages d.frame at
  no_lead at wrong =
      ⊎_elim (λ none. true≢false (sym may ∙ none (link_to y.c.cell) (subst (λ a. IsLink d.pages d.frame a (link_to y.c.cell)) y.at_is (link_there d all stands sound y.c.at y.c.cell y.on))))
      (λ more. ⊎_elim (λ back. not_passed d all stands sound wrong.start head.first head.rest head.there wrong.is.passed at wrong.link f y.c y.there (subst (Contains (wrong.is.passed ++ at ∷ [])) (sym y.at_is) back))
      (λ other. two_lead other.0 other.1) more) wrong.wrong
    where
      head : IsHead d all stands sound wrong.start wrong.is.first
      head = head_is d all stands sound wrong.start wrong.is.first wrong.is.begins

      f : FollowsIn d all stands sound (head.first ∷ head.rest) wrong.is.passed at wrong.link
      f = follows_in d all stands sound wrong.start head.first head.rest head.there wrong.is.passed at wrong.link wrong.is.follows

      y : NextIn d all stands sound wrong.start head.first head.rest head.there wrong.is.passed wrong.onto
      y = next_in d all stands sound wrong.start head.first head.rest head.there wrong.is.passed at wrong.onto wrong.link f wrong.leads

      may : may_follow wrong.link.kind y.c.cell.head.kind ≡ true
      may = subst (λ (l : Link). may_follow l.kind y.c.cell.head.kind ≡ true) f.same
          (may_next d.pages head.first head.rest (chain_is d all stands wrong.start head.first head.rest head.there).links.follow (length wrong.is.passed) f.c y.c f.there y.there)

      two_lead : (other : CellAt) → IsLedTo d.pages d.frame wrong.start other wrong.onto → ⊥
      two_lead other led =
          let also = head_is d all stands sound led.chain led.is.first led.is.begins in
          let g = follows_in d all stands sound led.chain also.first also.rest also.there led.is.passed other led.link led.is.follows in
          let z = next_in d all stands sound led.chain also.first also.rest also.there led.is.passed other wrong.onto led.link g led.leads in
          led.another (one_chain d all stands led.chain wrong.start wrong.onto (also.first ∷ also.rest) (head.first ∷ head.rest) also.there head.there
          (place_of_next also.first also.rest (length led.is.passed) z.c wrong.onto z.there z.at_is) (place_of_next head.first head.rest (length wrong.is.passed) y.c wrong.onto y.there y.at_is))
        where
          place_of_next : (first : PlacedCell) (rest : List PlacedCell) (k : ℕ) (c : PlacedCell) (onto : CellAt) → slice_get rest k ≡ Some c → c.at ≡ onto → Contains (places (first ∷ rest)) onto
          place_of_next first rest k c onto at_k same =
              contains_of (places (first ∷ rest)) (suc k) onto (get_map (λ (z : PlacedCell). z.at) rest k ∙ ap (option_map (λ (z : PlacedCell). z.at)) at_k ∙ ap Some same)

  -- what begins a chain does so by the rules
  pub no_lead_to : (start : CellAt) (first : PlacedCell) (rest : List PlacedCell) → stands.files start ≡ Some (first ∷ rest) → (other : CellAt) → ¬ LeadsTo d.pages d.frame other start
  no_lead_to start first rest there other (link, is, quota, leads) =
      let used = link_used d all stands sound other link is in
      let kind : used.cell.head.kind ≡ kinds.Quota = ap (λ (l : Link). l.kind) used.same ∙ quota in
      let x = in_some_chain d all stands other used.cell used.on (λ volume. quota_volume (sym kind ∙ volume)) in
      let chain = chain_is d all stands x.start x.first x.rest x.there in
      let to : option_map (λ (y : PlacedCell). y.at) (slice_get x.rest x.k) ≡ Some start =
      sym (leads_next d.pages x.first x.rest chain.links.follow x.k x.c x.in_chain) ∙ ap (λ (c : Cell). c.head.next) x.cell_is ∙ ap (λ (l : Link). l.next) used.same ∙ leads in
      let y = next_there (slice_get x.rest x.k) start to in
      let own = chain_is d all stands start first rest there in
      let in_x : Contains (places (x.first ∷ x.rest)) start =
      contains_of (places (x.first ∷ x.rest)) (suc x.k) start (get_map (λ (z : PlacedCell). z.at) x.rest x.k ∙ ap (option_map (λ (z : PlacedCell). z.at)) y.1 ∙ ap Some y.2) in
      let same : x.start ≡ start = one_chain d all stands x.start start start (x.first ∷ x.rest) (first ∷ rest) x.there there in_x (0, omega arith, own.begins) in
      let begins : x.first.at ≡ y.0.at = chain.begins ∙ same ∙ sym y.2 in
      let wrong : 0 ≡ suc x.k = distinct_at (x.first ∷ x.rest) chain.links.distinct 0 (suc x.k) x.first y.0 refl y.1 begins in
      omega (arith, wrong)

  heads : (start : CellAt) (first : PlacedCell) (rest : List PlacedCell) → stands.files start ≡ Some (first ∷ rest) → IsChainHead d.pages d.frame start (link_to first.cell)
  heads start first rest there =
      let own = chain_is d all stands start first rest there in
      let link = subst (λ a. IsLink d.pages d.frame a (link_to first.cell)) own.begins (link_there d all stands sound first.at first.cell (own.tables 0 first refl)) in
      ⊎_elim (λ file. (link, inl file.1.primary)) (λ quotas. (link, inr (quotas.1.cells.0.kind, no_lead_to start first rest there))) own.of

  no_unchained : (at : CellAt) → ¬ IsUnchained d.pages d.frame at
  no_unchained at wrong =
      let used = link_used d all stands sound at wrong.link wrong.is in
      let kind = ap (λ (l : Link). l.kind) used.same in
      let x = in_some_chain d all stands at used.cell used.on (λ volume. ⊎_elim (λ chain. chain_volume (sym chain ∙ sym kind ∙ volume)) (λ quota. quota_volume (sym quota ∙ sym kind ∙ volume)) wrong.kind) in
      let come = comes_to d all stands sound x.start x.first x.rest x.there x.k x.c x.in_chain in
      let link : link_to x.c.cell ≡ wrong.link = ap link_to x.cell_is ∙ used.same in
      wrong.alone x.start (record {
        first = link_to x.first.cell;
        begins = heads x.start x.first x.rest x.there;
        passed = come.passed;
        follows = subst (Follows d.pages d.frame x.start come.passed at) link (subst (λ a. Follows d.pages d.frame x.start come.passed a (link_to x.c.cell)) x.at_is come.follows);
      })

  -- ---- two cells of a chain

  -- they stand in it, one behind the other
  record AreBoth (start : CellAt) (early late : Cell) : Type 0 where
    first : PlacedCell
    rest : List PlacedCell
    there : stands.files start ≡ Some (first ∷ rest)
    j : ℕ
    k : ℕ
    less : j < k
    b : PlacedCell
    c : PlacedCell
    at_j : slice_get (first ∷ rest) j ≡ Some b
    at_k : slice_get (first ∷ rest) k ≡ Some c
    early_is : b.cell ≡ early
    late_is : c.cell ≡ late

  both : (first : Link) (early late : Cell) (at : CellAt) (chain : AreInChain d.pages d.frame first early late at) → AreBoth chain.start early late
  both first early late at chain =
      let head = head_is d all stands sound chain.start first chain.is_head in
      let own = chain_is d all stands chain.start head.first head.rest head.there in
      let f = follows_in d all stands sound chain.start head.first head.rest head.there chain.passed at chain.link chain.follows in
      let j = at_of chain.passed chain.before chain.among in
      let b = f.front j.0 chain.before j.1 in
      record {
        first = head.first;
        rest = head.rest;
        there = head.there;
        j = j.0;
        k = length chain.passed;
        less = within_of chain.passed j.0 chain.before j.1;
        b = b.0;
        c = f.c;
        at_j = b.1;
        at_k = f.there;
        early_is = one_stands d.pages chain.before b.0.cell early (subst (λ a. StandsAt d.pages a b.0.cell) b.2 (own.tables j.0 b.0 b.1).stands) chain.early_is.stands;
        late_is = one_stands d.pages at f.c.cell late (subst (λ a. StandsAt d.pages a f.c.cell) f.at_is (own.tables (length chain.passed) f.c f.there).stands) chain.late_is.stands;
      }

  no_twice : (at : CellAt) → ¬ IsPageTwice d.pages d.frame at
  no_twice at wrong = ⊎_elim of_a_file of_some_quotas (chain_is d all stands wrong.chain.start x.first x.rest x.there).of
    where
      x : AreBoth wrong.chain.start wrong.early wrong.late
      x = both wrong.first wrong.early wrong.late at wrong.chain

      in_b : Contains x.b.cell.records wrong.one
      in_b = subst (λ (c : Cell). Contains c.records wrong.one) (sym x.early_is) wrong.in_early

      in_c : Contains x.c.cell.records wrong.other
      in_c = subst (λ (c : Cell). Contains c.records wrong.other) (sym x.late_is) wrong.in_late

      of_a_file : IsFile d.pages wrong.chain.start (x.first ∷ x.rest) → ⊥
      of_a_file file = no_page_twice (x.first ∷ x.rest) wrong.page (file.1.one_map.once wrong.page) x.j x.k x.b x.c wrong.one wrong.other x.at_j x.at_k x.less in_b in_c wrong.there wrong.again

      of_some_quotas : IsQuotas d.pages wrong.chain.start (x.first ∷ x.rest) → ⊥
      of_some_quotas quotas =
          let limits = (all_get (λ (c : PlacedCell). IsQuotaCell c.cell) (x.first ∷ x.rest) quotas.1.cells x.j x.b x.at_j).limits in
          wrong.there (limits_place wrong.one wrong.page (in_all (λ r. (kind_of r ≡ 7) ⊎ (kind_of r ≡ 8)) x.b.cell.records limits wrong.one in_b))

  -- ---- quota cells of slots

  -- the chain of quota cells that begins there is that of a slot
  pub quotas_named : (start : CellAt) (first : PlacedCell) (rest : List PlacedCell) → stands.files start ≡ Some (first ∷ rest) → IsQuotas d.pages start (first ∷ rest) → (number : ℕ) × IsQuotaOf d number start
  quotas_named start first rest there quotas = ⊎_elim (λ tagged. absurd (not_tagged tagged.0 tagged.1 tagged.2)) (λ more. ⊎_elim (λ left. absurd (not_left left)) (λ named. named) more) (stands.chains.named start (first ∷ rest) there)
    where
      not_left : ¬ left_of (first ∷ rest) ≡ Some Remove
      not_left left = nothing Remove (sym (ap (option_and_then leftover_in) (no_record 6 (λ e. omega (arith, e)) (λ e. omega (arith, e)) first.cell.records quotas.1.cells.0.limits)) ∙ left)

      not_tagged : (number : ℕ) (tag : Tag) → cell_by d.pages (d.tags number) tag ≡ Some start → ⊥
      not_tagged number tag leads =
          let named = names_chain d all stands number tag start leads in
          let same : named.first ∷ named.rest ≡ first ∷ rest = some_same (named.first ∷ named.rest) (first ∷ rest) (sym named.there ∙ there) in
          primary_quota (sym named.file.1.primary ∙ ap (λ (c : PlacedCell). c.cell.head.kind) (some_same named.first first (ap (λ cs. slice_get cs 0) same)) ∙ quotas.1.cells.0.kind)

  no_limits_twice : (at : CellAt) → ¬ AreLimitsTwice d.pages d.frame at
  no_limits_twice at wrong =
      no_owner_twice (x.first ∷ x.rest) once x.j x.k x.b x.c wrong.one wrong.other x.at_j x.at_k x.less in_b in_c
      (of_limits x.j x.b x.at_j wrong.one in_b) (of_limits x.k x.c x.at_k wrong.other in_c) wrong.kinds wrong.ids
    where
      x : AreBoth wrong.chain.start wrong.early wrong.late
      x = both wrong.first wrong.early wrong.late at wrong.chain

      in_b : Contains x.b.cell.records wrong.one
      in_b = subst (λ (c : Cell). Contains c.records wrong.one) (sym x.early_is) wrong.in_early

      in_c : Contains x.c.cell.records wrong.other
      in_c = subst (λ (c : Cell). Contains c.records wrong.other) (sym x.late_is) wrong.in_late

      head : IsHead d all stands sound wrong.chain.start wrong.first
      head = head_is d all stands sound wrong.chain.start wrong.first wrong.chain.is_head

      first_kind : x.first.cell.head.kind ≡ kinds.Quota
      first_kind =
          let same : head.first ∷ head.rest ≡ x.first ∷ x.rest = some_same (head.first ∷ head.rest) (x.first ∷ x.rest) (sym head.there ∙ x.there) in
          sym (some_kinds same) ∙ ap (λ (l : Link). l.kind) head.same ∙ wrong.quotas
        where
          some_kinds : head.first ∷ head.rest ≡ x.first ∷ x.rest → head.first.cell.head.kind ≡ x.first.cell.head.kind
          some_kinds same = ap (λ (c : PlacedCell). c.cell.head.kind) (some_same head.first x.first (ap (λ cs. slice_get cs 0) same))

      quotas : IsQuotas d.pages wrong.chain.start (x.first ∷ x.rest)
      quotas = ⊎_elim (λ file. absurd (primary_quota (sym file.1.primary ∙ first_kind))) (λ quotas. quotas) (chain_is d all stands wrong.chain.start x.first x.rest x.there).of

      once : AreOnce (said_by (records_of (x.first ∷ x.rest)))
      once =
          let named = quotas_named wrong.chain.start x.first x.rest x.there quotas in
          (subst (λ o. IsSomeAnd o (AreQuotasOf d named.0 wrong.chain.start)) x.there (stands.chains.quotas named.0 wrong.chain.start named.1)).once

      of_limits : (k : ℕ) (c : PlacedCell) → slice_get (x.first ∷ x.rest) k ≡ Some c → (r : Record) → Contains c.cell.records r → (kind_of r ≡ 7) ⊎ (kind_of r ≡ 8)
      of_limits k c at_k r among =
          in_all (λ s. (kind_of s ≡ 7) ⊎ (kind_of s ≡ 8)) c.cell.records (all_get (λ (z : PlacedCell). IsQuotaCell z.cell) (x.first ∷ x.rest) quotas.1.cells k c at_k).limits r among

  -- ---- holes

  no_holes : (at : CellAt) → ¬ AreHolesOfOriginal d.pages d.frame d.table at
  no_holes at wrong = true≢false (sym wrong.holes ∙ ap (λ (c : Cell). has_kind 5 c.records) (sym cell_is) ∙ none)
    where
      on : IsOnTable d.pages (layout_of d) wrong.start wrong.first
      on = on_table_of d all stands sound wrong.start wrong.first wrong.first_is

      b : BeginsFile d all stands wrong.start wrong.first
      b = begins_file d all stands wrong.start wrong.first (in_some_chain d all stands wrong.start wrong.first on (λ volume. primary_volume (sym wrong.kind ∙ volume))) wrong.kind

      f : FollowsIn d all stands sound (b.first ∷ b.rest) wrong.passed at wrong.link
      f = follows_in d all stands sound wrong.start b.first b.rest b.there wrong.passed at wrong.link wrong.follows

      cell_is : f.c.cell ≡ wrong.cell
      cell_is = one_stands d.pages at f.c.cell wrong.cell
          (subst (λ a. StandsAt d.pages a f.c.cell) f.at_is ((chain_is d all stands wrong.start b.first b.rest b.there).tables (length wrong.passed) f.c f.there).stands) wrong.is.stands

      none : has_kind 5 f.c.cell.records ≡ false
      none = all_get HasNoHoles (b.first ∷ b.rest)
          (stands.rest.holes wrong.start (b.first ∷ b.rest) b.there
          (ap (λ (c : Cell). of_original (item_of d.table c.head)) b.same ∙ wrong.original, ap (λ (c : Cell). say_removed c.records) b.same ∙ wrong.live))
          (length wrong.passed) f.c f.there

  -- ---- all of them

  no_cell_fault : (at : CellAt) → ¬ IsCellFault d.pages d.frame d.table at
  no_cell_fault at fault =
      ⊎_elim (no_volume_cell at) (λ a. ⊎_elim (no_first at) (λ b. ⊎_elim (no_later at) (λ c. ⊎_elim (no_lead at) (λ e. ⊎_elim (no_unchained at)
      (λ f. ⊎_elim (no_twice at) (λ g. ⊎_elim (no_limits_twice at) (no_holes at) g) f) e) c) b) a) fault

  pub no_cells : (home : Home) → ¬ IsCellsFault d.pages d.frame d.table home
  no_cells home fault = ⊎_elim (no_page home) (λ a. ⊎_elim (no_header home) (λ b. ⊎_elim (no_cell home) (λ w. no_cell_fault w.0 w.2) b) a) fault
