-- Where a domain stands, each cell in use is the first of its volume, or stands in one of its chains, each of which is a file's or one of quota cells.
use Rattle.std.proofs.Common.{◌≡◌, ◌∙◌, ◌⊎◌, inl, inr, ℕ, zero, suc, true, false, List, [], ◌∷◌, Option, Some, None, IfSome, IsSomeAnd, Contains, slice_get, refl, sym, ap, subst, arith, ⊎_elim}
use Rattle.std.specs.List.{AllByRecursion}
use Rattle.std.specs.Option.{option_map}
use Rattle.domain_memory.specs.domain_base.declared.place.CellAt.{CellAt}
use Rattle.domain_memory.specs.page_store.Pages.{Pages}
use Rattle.domain_memory.specs.log_ring.Homes.{IsMember}
use Rattle.domain_memory.specs.metadata_cells.Cell.{Cell}
use Rattle.domain_memory.specs.metadata_cells.Chain.{AreDistinct, AreLinked, Follow, PlacedCell, StandsAt, is_at, may_follow, places}
use Rattle.domain_memory.specs.metadata_cells.declared.head.CellKind.{CellKind}
use Rattle.domain_memory.specs.metadata_cells.declared.head.CellKind.TheVariants as kinds
use Rattle.domain_memory.proofs.OfMetadataCells.Unique.{one_stands}
use Rattle.domain_memory.specs.free_cells.Cells.{table_of}
use Rattle.domain_memory.specs.file_chains.Files.{IsFile}
use Rattle.domain_memory.proofs.OfFileChains.ChainChanges.{at_apart}
use Rattle.domain_memory.specs.fileset_files.Files.{AreApart}
use Rattle.domain_memory.specs.release_list.Standing.{IsFileOrQuotas, IsQuotaCell, IsQuotas, IsStanding}
use Rattle.domain_memory.proofs.OfReleaseList.Standings.{linked_at, not_nil, same_or_not}
use Rattle.domain_memory.specs.fileset_model.Filesets.{FilesetMap}
use Rattle.domain_memory.specs.domain_layout.CellRules.{IsFirstPlace, SaysVolume}
use Rattle.domain_memory.specs.domain_layout.Owners.{IsOnTable}
use Rattle.domain_memory.proofs.OfDomainLayout.OnePage.{some_same}
use Rattle.domain_memory.proofs.OfDomainLayout.Reached.{member_or_none}
use Rattle.domain_memory.proofs.OfFilesetsReading.Ways.{get_map}
use Rattle.domain_memory.proofs.OfFilesetsReading.ChainsThere.{later_kind, of_file}
use Rattle.domain_memory.specs.domain_standing.Chains.{IsInChain}
use Rattle.domain_memory.specs.domain_standing.Domain.{DomainNow, layout_of}
use Rattle.domain_memory.specs.domain_standing.Standing.{StandsDomain}
use Rattle.domain_memory.specs.domain_standing.Tables.{first_place}
use Rattle.no_faults.proofs.Ways.{at_of, contains_of, map_at, nothing}

-- ---- cells of a chain, one behind the other

at_place : List PlacedCell → ℕ → Option CellAt
at_place cells k = option_map (λ (c : PlacedCell). c.at) (slice_get cells k)

-- where a cell of it leads
pub leads_next : (pages : Pages) (c : PlacedCell) (cs : List PlacedCell) → Follow pages c.cell.head cs → (k : ℕ) (x : PlacedCell) → slice_get (c ∷ cs) k ≡ Some x
    → x.cell.head.next ≡ option_map (λ (y : PlacedCell). y.at) (slice_get cs k)
leads_next pages c [] follow zero x is = ap (λ (y : PlacedCell). y.cell.head.next) (sym (some_same c x is)) ∙ follow
leads_next pages c [] follow (suc k) x is = nothing x is
leads_next pages c (d ∷ ds) follow zero x is = ap (λ (y : PlacedCell). y.cell.head.next) (sym (some_same c x is)) ∙ follow.0
leads_next pages c (d ∷ ds) follow (suc k) x is = leads_next pages d ds follow.3 k x is

-- the cell that comes next may follow it
pub may_next : (pages : Pages) (c : PlacedCell) (cs : List PlacedCell) → Follow pages c.cell.head cs → (k : ℕ) (x y : PlacedCell) → slice_get (c ∷ cs) k ≡ Some x → slice_get cs k ≡ Some y
    → may_follow x.cell.head.kind y.cell.head.kind ≡ true
may_next pages c [] follow k x y is next = nothing y next
may_next pages c (d ∷ ds) follow zero x y is next =
    subst (λ (z : PlacedCell). may_follow z.cell.head.kind y.cell.head.kind ≡ true) (some_same c x is)
    (subst (λ (z : PlacedCell). may_follow c.cell.head.kind z.cell.head.kind ≡ true) (some_same d y next) follow.1)
may_next pages c (d ∷ ds) follow (suc k) x y is next = may_next pages d ds follow.3 k x y is next

stand_next : (pages : Pages) (c : PlacedCell) (cs : List PlacedCell) → Follow pages c.cell.head cs → (k : ℕ) (y : PlacedCell) → slice_get cs k ≡ Some y → StandsAt pages y.at y.cell
stand_next pages c [] follow k y next = nothing y next
stand_next pages c (d ∷ ds) follow zero y next = subst (λ (z : PlacedCell). StandsAt pages z.at z.cell) (some_same d y next) follow.2
stand_next pages c (d ∷ ds) follow (suc k) y next = stand_next pages d ds follow.3 k y next

-- no cell stands in it twice
pub distinct_at : (cs : List PlacedCell) → AreDistinct cs → (j k : ℕ) (x y : PlacedCell) → slice_get cs j ≡ Some x → slice_get cs k ≡ Some y → x.at ≡ y.at → j ≡ k
distinct_at [] distinct j k x y one other same = nothing x one
distinct_at (c ∷ cs) distinct zero zero x y one other same = refl
distinct_at (c ∷ cs) distinct zero (suc k) x y one other same =
    absurd (distinct.0 (subst (Contains (places cs)) (sym same ∙ ap (λ (z : PlacedCell). z.at) (sym (some_same c x one)))
    (contains_of (places cs) k y.at (get_map (λ (z : PlacedCell). z.at) cs k ∙ ap (option_map (λ (z : PlacedCell). z.at)) other))))
distinct_at (c ∷ cs) distinct (suc j) zero x y one other same =
    absurd (distinct.0 (subst (Contains (places cs)) (same ∙ ap (λ (z : PlacedCell). z.at) (sym (some_same c y other)))
    (contains_of (places cs) j x.at (get_map (λ (z : PlacedCell). z.at) cs j ∙ ap (option_map (λ (z : PlacedCell). z.at)) one))))
distinct_at (c ∷ cs) distinct (suc j) (suc k) x y one other same = ap suc (distinct_at cs distinct.1 j k x y one other same)

pub all_get : {X : Type 0} (P : X → Type 0) (xs : List X) → AllByRecursion P xs → (k : ℕ) (x : X) → slice_get xs k ≡ Some x → P x
all_get P [] all k x is = nothing x is
all_get P (y ∷ ys) all zero x is = subst P (some_same y x is) all.0
all_get P (y ∷ ys) all (suc k) x is = all_get P ys all.1 k x is

-- a cell behind the first of a file is a chain cell
chain_kinds : (pages : Pages) (c : PlacedCell) (cs : List PlacedCell) → of_file c.cell.head.kind ≡ true → Follow pages c.cell.head cs → (k : ℕ) (x : PlacedCell) → slice_get cs k ≡ Some x
    → x.cell.head.kind ≡ kinds.Chain
chain_kinds pages c [] file follow k x is = nothing x is
chain_kinds pages c (d ∷ ds) file follow zero x is = ap (λ (z : PlacedCell). z.cell.head.kind) (sym (some_same d x is)) ∙ later_kind c.cell.head.kind d.cell.head.kind file follow.1
chain_kinds pages c (d ∷ ds) file follow (suc k) x is =
    chain_kinds pages d ds (ap of_file (later_kind c.cell.head.kind d.cell.head.kind file follow.1)) follow.3 k x is

-- ---- the chains of a domain

-- a chain of a domain: linked cells on tables, of a file or of quotas
pub record IsChainOf (d : DomainNow) (start : CellAt) (first : PlacedCell) (rest : List PlacedCell) : Type 0 where
  pub begins : first.at ≡ start
  pub links : AreLinked d.pages first rest
  pub of : IsFileOrQuotas d.pages start (first ∷ rest)
  pub tables : (k : ℕ) (c : PlacedCell) → slice_get (first ∷ rest) k ≡ Some c → IsOnTable d.pages (layout_of d) c.at c.cell

pub record HasChain (d : DomainNow) (start : CellAt) (chain : List PlacedCell) : Type 0 where
  pub first : PlacedCell
  pub rest : List PlacedCell
  pub all : chain ≡ first ∷ rest
  pub is : IsChainOf d start first rest

-- a cell of a chain, by its place there
pub record InChainAt (d : DomainNow) (all : FilesetMap) (stands : StandsDomain d all) (at : CellAt) (cell : Cell) : Type 0 where
  pub start : CellAt
  pub first : PlacedCell
  pub rest : List PlacedCell
  pub there : stands.files start ≡ Some (first ∷ rest)
  pub k : ℕ
  pub c : PlacedCell
  pub in_chain : slice_get (first ∷ rest) k ≡ Some c
  pub at_is : c.at ≡ at
  pub cell_is : c.cell ≡ cell

module _ (d : DomainNow) (all : FilesetMap) (stands : StandsDomain d all) where
  member_by : (vol page : ℕ) → Contains (table_of d.cells vol) page → IsMember d.frame.anchor vol
  member_by vol page among =
      ⊎_elim (λ member. member) (λ none. absurd (empty (subst (λ t. Contains t page) (stands.tables.cells.others vol none) among))) (member_or_none d.frame.anchor vol)
    where
      empty : ¬ Contains [] page
      empty there = omega (arith, there.1)

  stand_all : (first : PlacedCell) (rest : List PlacedCell) → AreLinked d.pages first rest → (k : ℕ) (c : PlacedCell) → slice_get (first ∷ rest) k ≡ Some c → StandsAt d.pages c.at c.cell
  stand_all first rest links zero c is = subst (λ (z : PlacedCell). StandsAt d.pages z.at z.cell) (some_same first c is) links.stands
  stand_all first rest links (suc k) c is = stand_next d.pages first rest links.follow k c is

  is_chain : (start : CellAt) (first : PlacedCell) (rest : List PlacedCell) → IsStanding d.cells d.pages start (first ∷ rest) → IsChainOf d start first rest
  is_chain start first rest is =
      let linked = linked_at d.pages start first rest is.stands in
      record {
        begins = linked.0;
        links = linked.1;
        of = is.stands;
        tables = λ k c at.
            let on = all_get (λ (z : PlacedCell). Contains (table_of d.cells z.at.vol) z.at.page) (first ∷ rest) is.on_tables k c at in
            record { member = member_by c.at.vol c.at.page on; table = on; stands = stand_all first rest linked.1 k c at };
      }

  -- what stands at a cell at which a chain begins
  pub chain_of : (start : CellAt) (chain : List PlacedCell) → stands.files start ≡ Some chain → HasChain d start chain
  chain_of start chain there = by_chain chain (subst (λ o. IfSome o (IsStanding d.cells d.pages start)) there (stands.chains.well.together.each start))
    where
      by_chain : (chain : List PlacedCell) → IsStanding d.cells d.pages start chain → HasChain d start chain
      by_chain [] is = absurd (not_nil d.pages start is.stands)
      by_chain (first ∷ rest) is = record { first = first; rest = rest; all = refl; is = is_chain start first rest is }

  pub chain_is : (start : CellAt) (first : PlacedCell) (rest : List PlacedCell) → stands.files start ≡ Some (first ∷ rest) → IsChainOf d start first rest
  chain_is start first rest there = is_chain start first rest (subst (λ o. IfSome o (IsStanding d.cells d.pages start)) there (stands.chains.well.together.each start))

  -- a cell stands in one chain alone
  pub one_chain : (a b at : CellAt) (xs ys : List PlacedCell) → stands.files a ≡ Some xs → stands.files b ≡ Some ys → Contains (places xs) at → Contains (places ys) at → a ≡ b
  one_chain a b at xs ys one other in_one in_other = ⊎_elim (λ same. same) (λ apart. absurd (apart_at (at_apart a b apart))) (same_or_not a b)
    where
      apart_at : is_at a b ≡ false → ⊥
      apart_at apart =
          subst (λ o. IfSome o (AreApart xs)) other (subst (λ o. IfSome o (λ cs. IfSome (stands.files b) (AreApart cs))) one (stands.chains.well.together.apart a b apart)) at in_one in_other

  -- ---- what a cell of a chain is

  -- the first cell of a file is of that kind, and each other one a chain cell
  abbrev pub IsOfFile : ℕ → CellKind → Type 0
  IsOfFile k kind = ((k ≡ 0) × (kind ≡ kinds.Primary)) ⊎ ((¬ k ≡ 0) × (kind ≡ kinds.Chain))

  abbrev pub IsOneOf : CellAt → List PlacedCell → ℕ → CellKind → Type 0
  IsOneOf start chain k kind = (IsFile d.pages start chain × IsOfFile k kind) ⊎ (IsQuotas d.pages start chain × (kind ≡ kinds.Quota))

  pub kind_in : (start : CellAt) (first : PlacedCell) (rest : List PlacedCell) → IsChainOf d start first rest → (k : ℕ) (c : PlacedCell) → slice_get (first ∷ rest) k ≡ Some c
      → IsOneOf start (first ∷ rest) k c.cell.head.kind
  kind_in start first rest is k c at = ⊎_elim (λ file. inl (file, of_a_file file k at)) (λ quotas. inr (quotas, (all_get (λ (z : PlacedCell). IsQuotaCell z.cell) (first ∷ rest) quotas.1.cells k c at).kind)) is.of
    where
      of_a_file : IsFile d.pages start (first ∷ rest) → (k : ℕ) → slice_get (first ∷ rest) k ≡ Some c → IsOfFile k c.cell.head.kind
      of_a_file file zero at = inl (refl, ap (λ (z : PlacedCell). z.cell.head.kind) (sym (some_same first c at)) ∙ file.1.primary)
      of_a_file file (suc k) at = inr (
        (λ is. omega (arith, is)),
        chain_kinds d.pages first rest (ap of_file file.1.primary) is.links.follow k c at,
      )

  abbrev pub Found : CellAt → Cell → Type 0
  Found at cell = InChainAt d all stands at cell

  pub kind_at : (at : CellAt) (cell : Cell) (x : Found at cell) → IsOneOf x.start (x.first ∷ x.rest) x.k cell.head.kind
  kind_at at cell x = subst (λ (z : Cell). IsOneOf x.start (x.first ∷ x.rest) x.k z.head.kind) x.cell_is (kind_in x.start x.first x.rest (chain_is x.start x.first x.rest x.there) x.k x.c x.in_chain)

  pub among_places : (at : CellAt) (cell : Cell) (x : Found at cell) → Contains (places (x.first ∷ x.rest)) at
  among_places at cell x =
      contains_of (places (x.first ∷ x.rest)) x.k at
      (get_map (λ (z : PlacedCell). z.at) (x.first ∷ x.rest) x.k ∙ ap (option_map (λ (z : PlacedCell). z.at)) x.in_chain ∙ ap Some x.at_is)

  -- the first cell of a chain stands where that begins
  pub first_at : (at : CellAt) (cell : Cell) (x : Found at cell) → x.k ≡ 0 → (x.start ≡ at) × (x.first.cell ≡ cell)
  first_at at cell x zero_there =
      let same : x.first ≡ x.c = some_same x.first x.c (ap (slice_get (x.first ∷ x.rest)) (sym zero_there) ∙ x.in_chain) in
      (sym (chain_is x.start x.first x.rest x.there).begins ∙ ap (λ (z : PlacedCell). z.at) same ∙ x.at_is, ap (λ (z : PlacedCell). z.cell) same ∙ x.cell_is)

  -- ---- each cell in use

  found_in : (at : CellAt) (cell : Cell) → IsOnTable d.pages (layout_of d) at cell → IsInChain stands.files at → Found at cell
  found_in at cell on (start, among) = by_chain (stands.files start) refl among
    where
      by_cells : (chain : List PlacedCell) → stands.files start ≡ Some chain → HasChain d start chain → Contains (places chain) at → Found at cell
      by_cells chain there has among =
          let k = at_of (places chain) at among in
          let c = map_at (λ (z : PlacedCell). z.at) chain k.0 at k.1 in
          let there_so : stands.files start ≡ Some (has.first ∷ has.rest) = there ∙ ap Some has.all in
          let c_in : slice_get (has.first ∷ has.rest) k.0 ≡ Some c.0 = ap (λ cs. slice_get cs k.0) (sym has.all) ∙ c.1 in
          let stand : IsOnTable d.pages (layout_of d) c.0.at c.0.cell = has.is.tables k.0 c.0 c_in in
          record {
            start = start;
            first = has.first;
            rest = has.rest;
            there = there_so;
            k = k.0;
            c = c.0;
            in_chain = c_in;
            at_is = c.2;
            cell_is = one_stands d.pages at c.0.cell cell (subst (λ a. StandsAt d.pages a c.0.cell) c.2 stand.stands) on.stands;
          }

      by_chain : (o : Option (List PlacedCell)) → stands.files start ≡ o → IsSomeAnd o (λ chain. Contains (places chain) at) → Found at cell
      by_chain None there among = absurd among
      by_chain (Some chain) there among = by_cells chain there (chain_of start chain there) among

  pub is_found : (at : CellAt) (cell : Cell) → IsOnTable d.pages (layout_of d) at cell → IsFirstPlace d.frame at ⊎ Found at cell
  is_found at cell on = ⊎_elim (λ first. inl first) (λ chained. inr (found_in at cell on chained)) (stands.chains.used at cell on)

  -- the first cell of a volume says the volume
  pub first_says : (at : CellAt) (cell : Cell) → IsOnTable d.pages (layout_of d) at cell → IsFirstPlace d.frame at → SaysVolume d.frame at.vol cell
  first_says at cell on first =
      let volume = stands.tables.volumes at.vol on.member in
      let place : first_place d.frame at.vol ≡ at = (λ i. record { vol = at.vol; page = sym first.0 i; cell = sym first.1 i }) in
      subst (SaysVolume d.frame at.vol) (one_stands d.pages at volume.cell cell (subst (λ a. StandsAt d.pages a volume.cell) place volume.stands) on.stands) volume.says

  -- so a cell of another kind stands in a chain
  pub in_some_chain : (at : CellAt) (cell : Cell) → IsOnTable d.pages (layout_of d) at cell → ¬ cell.head.kind ≡ kinds.Volume → Found at cell
  in_some_chain at cell on other = ⊎_elim (λ first. absurd (other (first_says at cell on first).kind)) (λ found. found) (is_found at cell on)

  pub no_volume : (at : CellAt) (cell : Cell) → Found at cell → ¬ cell.head.kind ≡ kinds.Volume
  no_volume at cell x volume =
      ⊎_elim (λ file. ⊎_elim (λ first. primary_volume (sym first.1 ∙ volume)) (λ later. chain_volume (sym later.1 ∙ volume)) file.1)
      (λ quotas. quota_volume (sym quotas.1 ∙ volume)) (kind_at at cell x)
    where
      primary_volume : ¬ kinds.Primary ≡ kinds.Volume
      primary_volume same = cc

      chain_volume : ¬ kinds.Chain ≡ kinds.Volume
      chain_volume same = cc

      quota_volume : ¬ kinds.Quota ≡ kinds.Volume
      quota_volume same = cc

  -- a file's first cell begins its chain
  pub record BeginsFile (at : CellAt) (cell : Cell) : Type 0 where
    pub first : PlacedCell
    pub rest : List PlacedCell
    pub there : stands.files at ≡ Some (first ∷ rest)
    pub same : first.cell ≡ cell
    pub file : IsFile d.pages at (first ∷ rest)

  pub begins_file : (at : CellAt) (cell : Cell) → Found at cell → cell.head.kind ≡ kinds.Primary → BeginsFile at cell
  begins_file at cell x primary =
      ⊎_elim (λ file. ⊎_elim (λ first. so file.0 first.0) (λ later. absurd (chain_primary (sym later.1 ∙ primary))) file.1)
      (λ quotas. absurd (quota_primary (sym quotas.1 ∙ primary))) (kind_at at cell x)
    where
      chain_primary : ¬ kinds.Chain ≡ kinds.Primary
      chain_primary same = cc

      quota_primary : ¬ kinds.Quota ≡ kinds.Primary
      quota_primary same = cc

      so : IsFile d.pages x.start (x.first ∷ x.rest) → x.k ≡ 0 → BeginsFile at cell
      so file zero_there =
          let at_first = first_at at cell x zero_there in
          record {
            first = x.first;
            rest = x.rest;
            there = subst (λ a. stands.files a ≡ Some (x.first ∷ x.rest)) at_first.0 x.there;
            same = at_first.1;
            file = subst (λ a. IsFile d.pages a (x.first ∷ x.rest)) at_first.0 file;
          }

  -- a cell of quotas stands in a chain of them
  pub of_quotas : (at : CellAt) (cell : Cell) (x : Found at cell) → cell.head.kind ≡ kinds.Quota → IsQuotas d.pages x.start (x.first ∷ x.rest)
  of_quotas at cell x quota =
      ⊎_elim (λ file. ⊎_elim (λ first. absurd (primary_quota (sym first.1 ∙ quota))) (λ later. absurd (chain_quota (sym later.1 ∙ quota))) file.1) (λ quotas. quotas.0) (kind_at at cell x)
    where
      primary_quota : ¬ kinds.Primary ≡ kinds.Quota
      primary_quota same = cc

      chain_quota : ¬ kinds.Chain ≡ kinds.Quota
      chain_quota same = cc
