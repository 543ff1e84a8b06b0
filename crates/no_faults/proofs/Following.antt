-- Where a domain stands: what begins a chain by the rules begins one of its chains, and what follows from there on stands in it.
use Rattle.std.proofs.Common.{◌≡◌, ◌∙◌, ℕ, zero, suc, List, [], ◌∷◌, ◌++◌, length, Option, Some, None, Contains, slice_get, refl, sym, ap, subst, arith, ⊎_elim}
use Rattle.std.specs.Option.{option_map}
use Rattle.domain_memory.specs.domain_base.declared.place.CellAt.{CellAt}
use Rattle.domain_memory.specs.metadata_cells.Cell.{Cell}
use Rattle.domain_memory.specs.metadata_cells.Chain.{PlacedCell, StandsAt}
use Rattle.domain_memory.specs.metadata_cells.declared.head.CellKind.TheVariants as kinds
use Rattle.domain_memory.specs.release_list.Standing.{IsQuotaCell}
use Rattle.domain_memory.specs.fileset_model.Filesets.{FilesetMap}
use Rattle.domain_memory.specs.domain_layout.CellRules.{Follows, IsChainHead, IsLink, LeadsTo, Link, begins, goes_on}
use Rattle.domain_memory.specs.domain_layout.Owners.{IsOnTable}
use Rattle.domain_memory.proofs.OfDomainLayout.Named.{link_to}
use Rattle.domain_memory.proofs.OfDomainLayout.OnePage.{some_same}
use Rattle.domain_memory.proofs.OfFilesetsReading.Ways.{get_pushed, pushed, within_of}
use Rattle.domain_memory.specs.domain_standing.Domain.{DomainNow, layout_of}
use Rattle.domain_memory.specs.domain_standing.Standing.{StandsDomain}
use Rattle.domain_memory.specs.standing_laws.Sound.{StandsSound}
use Rattle.no_faults.proofs.InChains.{Found, IsChainOf, all_get, begins_file, chain_is, distinct_at, first_at, in_some_chain, leads_next, may_next, of_quotas}
use Rattle.no_faults.proofs.FaultOnTables.{LinkOf, link_there, link_used, links_same}
use Rattle.no_faults.proofs.Ways.{at_of, before_of, nothing}

pub next_there : (o : Option PlacedCell) (onto : CellAt) → option_map (λ (y : PlacedCell). y.at) o ≡ Some onto → (y : PlacedCell) × (o ≡ Some y) × (y.at ≡ onto)
next_there None onto is = nothing onto is
next_there (Some y) onto is = (y, refl, some_same y.at onto is)

primary_volume : ¬ kinds.Primary ≡ kinds.Volume
primary_volume same = cc

quota_volume : ¬ kinds.Quota ≡ kinds.Volume
quota_volume same = cc

module _ (d : DomainNow) (all : FilesetMap) (stands : StandsDomain d all) (sound : StandsSound d stands.files stands.indexes) where
  -- the chain that begins where one does by the rules
  pub record IsHead (start : CellAt) (link : Link) : Type 0 where
    pub first : PlacedCell
    pub rest : List PlacedCell
    pub there : stands.files start ≡ Some (first ∷ rest)
    pub same : link_to first.cell ≡ link

  -- a cell behind the first of a chain is led to by one of the chain
  pub led_by : (start : CellAt) (first : PlacedCell) (rest : List PlacedCell) → stands.files start ≡ Some (first ∷ rest) → (k : ℕ) (c : PlacedCell) → slice_get (first ∷ rest) (suc k) ≡ Some c
      → (b : PlacedCell) × (slice_get (first ∷ rest) k ≡ Some b) × (b.cell.head.next ≡ Some c.at)
  led_by start first rest there k c is =
      let b = before_of (first ∷ rest) k c is in
      (b.0, b.1, leads_next d.pages first rest (chain_is d all stands start first rest there).links.follow k b.0 b.1 ∙ ap (option_map (λ (y : PlacedCell). y.at)) is)

  head_of_file : (start : CellAt) (cell : Cell) → Found d all stands start cell → cell.head.kind ≡ kinds.Primary → IsHead start (link_to cell)
  head_of_file start cell x primary =
      let b = begins_file d all stands start cell x primary in
      record { first = b.first; rest = b.rest; there = b.there; same = ap link_to b.same }

  head_of_quotas : (start : CellAt) (cell : Cell) → Found d all stands start cell → cell.head.kind ≡ kinds.Quota → ((other : CellAt) → ¬ LeadsTo d.pages d.frame other start) → IsHead start (link_to cell)
  head_of_quotas start cell x quota none = by_place x.k refl
    where
      of_first : x.k ≡ 0 → IsHead start (link_to cell)
      of_first zero_there =
          let at_first = first_at d all stands start cell x zero_there in
          record { first = x.first; rest = x.rest; there = subst (λ a. stands.files a ≡ Some (x.first ∷ x.rest)) at_first.0 x.there; same = ap link_to at_first.1 }

      led : (k : ℕ) → x.k ≡ suc k → ⊥
      led k is =
          let chain = chain_is d all stands x.start x.first x.rest x.there in
          let b = led_by x.start x.first x.rest x.there k x.c (ap (slice_get (x.first ∷ x.rest)) (sym is) ∙ x.in_chain) in
          let on = chain.tables k b.0 b.1 in
          let quotas = of_quotas d all stands start cell x quota in
          none b.0.at (
            link_to b.0.cell,
            link_there d all stands sound b.0.at b.0.cell on,
            (all_get (λ (z : PlacedCell). IsQuotaCell z.cell) (x.first ∷ x.rest) quotas.1.cells k b.0 b.1).kind,
            b.2 ∙ ap Some x.at_is,
          )

      by_place : (k : ℕ) → x.k ≡ k → IsHead start (link_to cell)
      by_place zero is = of_first is
      by_place (suc k) is = absurd (led k is)

  pub head_is : (start : CellAt) (link : Link) → IsChainHead d.pages d.frame start link → IsHead start link
  head_is start link head =
      let used : LinkOf d all stands sound start link = link_used d all stands sound start link head.0 in
      let kind : used.cell.head.kind ≡ link.kind = ap (λ (l : Link). l.kind) used.same in
      subst (IsHead start) used.same (⊎_elim (λ primary. of_file used.cell used.on (kind ∙ primary)) (λ quota. of_quota used.cell used.on (kind ∙ quota.0) quota.1) head.1)
    where
      of_file : (cell : Cell) → IsOnTable d.pages (layout_of d) start cell → cell.head.kind ≡ kinds.Primary → IsHead start (link_to cell)
      of_file cell on primary = head_of_file start cell (in_some_chain d all stands start cell on (λ volume. primary_volume (sym primary ∙ volume))) primary

      of_quota : (cell : Cell) → IsOnTable d.pages (layout_of d) start cell → cell.head.kind ≡ kinds.Quota → ((other : CellAt) → ¬ LeadsTo d.pages d.frame other start) → IsHead start (link_to cell)
      of_quota cell on quota none = head_of_quotas start cell (in_some_chain d all stands start cell on (λ volume. quota_volume (sym quota ∙ volume))) quota none

  -- ---- what follows

  -- the cell that is come to by the rules is one of the chain
  pub record FollowsIn (chain : List PlacedCell) (passed : List CellAt) (at : CellAt) (link : Link) : Type 0 where
    pub c : PlacedCell
    pub there : slice_get chain (length passed) ≡ Some c
    pub at_is : c.at ≡ at
    pub same : link_to c.cell ≡ link
    pub front : (j : ℕ) (a : CellAt) → slice_get passed j ≡ Some a → (b : PlacedCell) × (slice_get chain j ≡ Some b) × (b.at ≡ a)

  front_more : {chain : List PlacedCell} (passed : List CellAt) (at onto : CellAt) (link : Link) → FollowsIn chain passed at link → (j : ℕ) (a : CellAt) → slice_get (passed ++ at ∷ []) j ≡ Some a
      → (b : PlacedCell) × (slice_get chain j ≡ Some b) × (b.at ≡ a)
  front_more {chain} passed at onto link f j a among =
      ⊎_elim (λ low. f.front j a low.1) (λ last. (f.c, ap (slice_get chain) last.0 ∙ f.there, f.at_is ∙ last.1)) (get_pushed passed at j a among)

  module _ (start : CellAt) (first : PlacedCell) (rest : List PlacedCell) (has : stands.files start ≡ Some (first ∷ rest)) where
    chain : IsChainOf d start first rest
    chain = chain_is d all stands start first rest has

    -- the cell to which one that is come to leads
    pub record NextIn (passed : List CellAt) (onto : CellAt) : Type 0 where
      pub c : PlacedCell
      pub there : slice_get rest (length passed) ≡ Some c
      pub at_is : c.at ≡ onto
      pub on : IsOnTable d.pages (layout_of d) c.at c.cell

    pub next_in : (passed : List CellAt) (at onto : CellAt) (link : Link) → FollowsIn (first ∷ rest) passed at link → link.next ≡ Some onto → NextIn passed onto
    next_in passed at onto link f leads =
        let leads_to : option_map (λ (y : PlacedCell). y.at) (slice_get rest (length passed)) ≡ Some onto =
        sym (leads_next d.pages first rest chain.links.follow (length passed) f.c f.there) ∙ ap (λ (l : Link). l.next) f.same ∙ leads in
        let y = next_there (slice_get rest (length passed)) onto leads_to in
        record { c = y.0; there = y.1; at_is = y.2; on = chain.tables (suc (length passed)) y.0 y.1 }

    goes_so : (passed : List CellAt) (at onto : CellAt) (link next : Link) → FollowsIn (first ∷ rest) passed at link → link.next ≡ Some onto → IsLink d.pages d.frame onto next → FollowsIn (first ∷ rest) (passed ++ at ∷ []) onto next
    goes_so passed at onto link next earlier leads is =
        let y = next_in passed at onto link earlier leads in
        record {
          c = y.c;
          there = ap (slice_get (first ∷ rest)) (pushed passed at) ∙ y.there;
          at_is = y.at_is;
          same = links_same d.pages d y.c.at y.c.cell next (subst (λ a. IsLink d.pages d.frame a next) (sym y.at_is) is) y.on.stands;
          front = front_more passed at onto link earlier;
        }

    -- the cells that were passed stand in front of the next one, so that is none of them
    pub not_passed : (passed : List CellAt) (at : CellAt) (link : Link) → FollowsIn (first ∷ rest) passed at link → (c : PlacedCell) → slice_get rest (length passed) ≡ Some c → ¬ Contains (passed ++ at ∷ []) c.at
    not_passed passed at link f c there twice =
        let k = at_of (passed ++ at ∷ []) c.at twice in
        let less = within_of (passed ++ at ∷ []) k.0 c.at k.1 in
        let b = front_more passed at c.at link f k.0 c.at k.1 in
        let same : k.0 ≡ suc (length passed) = distinct_at (first ∷ rest) chain.links.distinct k.0 (suc (length passed)) b.0 c b.1 there b.2 in
        omega (arith, less, same, pushed passed at)

    pub follows_in : (passed : List CellAt) (at : CellAt) (link : Link) → Follows d.pages d.frame start passed at link → FollowsIn (first ∷ rest) passed at link
    follows_in passed at link follows = elim follows as (λ passed at link follows. FollowsIn (first ∷ rest) passed at link) [
      | begins link is ↦ record {
        c = first;
        there = refl;
        at_is = chain.begins;
        same = links_same d.pages d start first.cell link is (subst (λ a. StandsAt d.pages a first.cell) chain.begins chain.links.stands);
        front = λ j a among. nothing a among;
      }
      | goes_on passed at onto link next (before → earlier) leads fresh is may ↦ goes_so passed at onto link next earlier leads is
    ]

    -- ---- each cell of the chain follows

    -- the rules come to a cell of the chain behind so many
    pub record ComesTo (k : ℕ) (c : PlacedCell) : Type 0 where
      pub passed : List CellAt
      pub follows : Follows d.pages d.frame start passed c.at (link_to c.cell)
      pub behind : length passed ≡ k

    pub comes_to : (k : ℕ) (c : PlacedCell) → slice_get (first ∷ rest) k ≡ Some c → ComesTo k c
    comes_to zero c is =
        let same : first ≡ c = some_same first c is in
        subst (ComesTo 0) same (record {
          passed = [];
          follows = subst (λ a. Follows d.pages d.frame start [] a (link_to first.cell)) (sym chain.begins)
              (begins (link_to first.cell) (subst (λ a. IsLink d.pages d.frame a (link_to first.cell)) chain.begins (link_there d all stands sound first.at first.cell (chain.tables 0 first refl))));
          behind = refl;
        })
    comes_to (suc k) c is =
        let b = led_by start first rest has k c is in
        let earlier = comes_to k b.0 b.1 in
        let f = follows_in earlier.passed b.0.at (link_to b.0.cell) earlier.follows in
        let c_in : slice_get rest (length earlier.passed) ≡ Some c = ap (slice_get rest) earlier.behind ∙ is in
        record {
          passed = earlier.passed ++ b.0.at ∷ [];
          follows = goes_on earlier.passed b.0.at c.at (link_to b.0.cell) (link_to c.cell) earlier.follows b.2
              (not_passed earlier.passed b.0.at (link_to b.0.cell) f c c_in)
              (link_there d all stands sound c.at c.cell (chain.tables (suc k) c is))
              (may_next d.pages first rest chain.links.follow k b.0 c b.1 is);
          behind = pushed earlier.passed b.0.at ∙ ap suc earlier.behind;
        }
