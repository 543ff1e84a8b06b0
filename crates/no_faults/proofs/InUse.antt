-- Each cell in use of a domain that was read is the first of its volume, or one of a chain.
use Rattle.std.proofs.Common.{◌≡◌, ◌∙◌, ◌⊎◌, inl, inr, ℕ, zero, suc, List, [], ◌∷◌, Option, Some, None, IsSomeAnd, Contains, slice_get, refl, sym, ap, subst, arith, ⊎_elim}
use Rattle.std.specs.List.{AllByRecursion}
use Rattle.std.specs.Option.{option_and_then}
use Rattle.domain_memory.specs.domain_base.declared.place.CellAt.{CellAt}
use Rattle.domain_memory.specs.page_store.Pages.{Pages}
use Rattle.domain_memory.specs.metadata_cells.Cell.{Cell}
use Rattle.domain_memory.specs.metadata_cells.CellPage.{home_of}
use Rattle.domain_memory.specs.metadata_cells.Chain.{Follow, PlacedCell, places}
use Rattle.domain_memory.specs.metadata_cells.declared.head.CellKind.{CellKind}
use Rattle.domain_memory.specs.metadata_cells.declared.head.CellKind.TheVariants as kinds
use Rattle.domain_memory.proofs.OfMetadataCells.Unique.{one_stands}
use Rattle.domain_memory.specs.domain_layout.CellRules.{Follows, IsChainHead, IsFirstPlace, IsInChain as IsOfChain, IsLink, LeadsTo, Link, begins, goes_on}
use Rattle.domain_memory.specs.domain_layout.Owners.{IsOnTable, frame_of}
use Rattle.domain_memory.specs.domain_layout.Reached.{first_cells}
use Rattle.domain_memory.specs.domain_layout.TagRules.{quota_of}
use Rattle.domain_memory.proofs.OfDomainLayout.Named.{last_link, link_to, no_cell}
use Rattle.domain_memory.proofs.OfDomainLayout.OnePage.{some_same}
use Rattle.domain_memory.proofs.OfDomainLayout.OwnedOnce.{no_tags, same_cell}
use Rattle.domain_memory.proofs.OfDomainLayout.Reached.{same_number}
use Rattle.domain_memory.specs.domain_standing.Chains.{IsInChain}
use Rattle.domain_memory.specs.domain_standing.Domain.{DomainNow, layout_of}
use Rattle.no_faults.specs.Attached.{IsReadFrom}
use Rattle.no_faults.proofs.Begun.{begins_or_not, nowhere}
use Rattle.no_faults.proofs.Domain.{BeginsAt, Chain, chain_at, chain_there, files, small, tables}
use Rattle.no_faults.proofs.OnTables.{LinkOf, in_all, link_there, link_used}
use Rattle.no_faults.proofs.ListPages.{all_at}
use Rattle.no_faults.proofs.Searched.{Decides, in_front, searched}
use Rattle.no_faults.proofs.Walked.{IsOnWay}

-- ---- cells of a list

pub placed_in : (cells : List PlacedCell) (at : CellAt) → Contains (places cells) at → (x : PlacedCell) × Contains cells x × (x.at ≡ at)
placed_in [] at (k, within, is) = absurd (omega (arith, within))
placed_in (c ∷ cs) at (zero, within, is) = (c, (0, omega arith, refl), is)
placed_in (c ∷ cs) at (suc k, within, is) = let more = placed_in cs at (k, omega (arith, within), is) in (more.0, in_front c more.0 cs more.1, more.2)

-- a cell to which one of a chain leads is one of it
next_inside : (pages : Pages) (c : PlacedCell) (cs : List PlacedCell) → Follow pages c.cell.head cs → (x : PlacedCell) → Contains (c ∷ cs) x → (onto : CellAt) → x.cell.head.next ≡ Some onto
    → Contains (places (c ∷ cs)) onto
next_inside pages c [] ends x (zero, within, is) onto leads = nowhere onto (sym ends ∙ ap (λ (y : PlacedCell). y.cell.head.next) is ∙ leads)
next_inside pages c [] ends x (suc k, within, is) onto leads = absurd (omega (arith, within))
next_inside pages c (d ∷ ds) (next, may, stands, more) x (zero, within, is) onto leads =
    (1, omega arith, some_same d.at onto (sym next ∙ ap (λ (y : PlacedCell). y.cell.head.next) is ∙ leads))
next_inside pages c (d ∷ ds) (next, may, stands, more) x (suc k, within, is) onto leads =
    in_front c.at onto (places (d ∷ ds)) (next_inside pages d ds more x (k, omega (arith, within), is) onto leads)

cell_in : (cells : List CellAt) (at : CellAt) → Decides (Contains cells at)
cell_in cells at =
    ⊎_elim (λ found. inl (subst (Contains cells) found.2 found.1)) (λ none. inr (λ among. none (at, among, refl))) (searched (λ c. c ≡ at) (λ c. same_cell c at) cells)

module _ (d : DomainNow) (is : IsReadFrom d) where
  pub first_in : (at : CellAt) (chain : List PlacedCell) → Chain d is at chain → Contains (places chain) at
  first_in at chain c = subst (λ cs. Contains (places cs) at) (sym c.all) (0, omega arith, c.at_is)

  -- ---- a chain has all cells that follow its first

  follows_inside : (start : CellAt) (chain : List PlacedCell) → Chain d is start chain → (passed : List CellAt) (at : CellAt) (link : Link)
      → Follows d.pages (frame_of (layout_of d)) start passed at link → Contains (places chain) at
  follows_inside start chain c passed at link follows = elim follows as (λ passed at link follows. Contains (places chain) at) [
    | begins link there ↦ first_in start chain c
    | goes_on passed at onto link next (before → earlier) leads fresh there may ↦ step at onto link earlier (last_link d.pages (layout_of d) start passed at link before) leads
  ]
    where
      step : (at onto : CellAt) (link : Link) → Contains (places chain) at → IsLink d.pages (frame_of (layout_of d)) at link → link.next ≡ Some onto → Contains (places chain) onto
      step at onto link among there leads =
          let x = placed_in (c.first ∷ c.rest) at (subst (λ cs. Contains (places cs) at) c.all among) in
          let of = link_used d.pages (layout_of d) is.tables.laid (tables d is) at link there in
          let on : IsOnTable d.pages (layout_of d) x.0.at x.0.cell = (all_on (c.first ∷ c.rest) c.on_way x.0 x.1).on in
          let same : x.0.cell ≡ of.cell = one_stands d.pages at x.0.cell of.cell (subst (λ a. IsOnTable d.pages (layout_of d) a x.0.cell) x.2 on).stands of.on.stands in
          let next : x.0.cell.head.next ≡ Some onto = ap (λ (y : Cell). y.head.next) same ∙ ap (λ (l : Link). l.next) of.same ∙ leads in
          subst (λ cs. Contains (places cs) onto) (sym c.all) (next_inside d.pages c.first c.rest c.links.follow x.0 x.1 onto next)
        where
          all_on : (cs : List PlacedCell) → AllByRecursion (IsOnWay d.pages (layout_of d) c.first.at) cs → (x : PlacedCell) → Contains cs x → IsOnWay d.pages (layout_of d) c.first.at x
          all_on cs all x among = all_at (IsOnWay d.pages (layout_of d) c.first.at) cs x all among

  -- ---- what begins a chain by the rules begins one

  unnamed : (at : CellAt) (link : Link) → IsLink d.pages (frame_of (layout_of d)) at link → link.kind ≡ kinds.Quota
      → ((other : CellAt) → ¬ LeadsTo d.pages (frame_of (layout_of d)) other at) → ¬ ((number : ℕ) → ¬ option_and_then quota_of (slice_get d.table.slots number) ≡ Some at)
  unnamed at link there kind first none =
      no_tags d.pages (layout_of d) is.tables.laid (tables d is) (home_of at) (inr (inr (inr (inr (inr (inl (
        at,
        refl,
        inr (inr (inr (record {
          link = link;
          is = there;
          kind = kind;
          first = first;
          unnamed = λ number item slot named. none number (ap (option_and_then quota_of) slot ∙ named);
        }))),
      )))))))

  head_begins : (at : CellAt) (link : Link) → IsChainHead d.pages (frame_of (layout_of d)) at link → BeginsAt d is at
  head_begins at link head =
      ⊎_elim (λ begun. begun) (λ nothing. absurd (⊎_elim
      (λ primary. nothing (record { cell = of.cell; on = of.on; kind = inl (kind_is ∙ primary) }))
      (λ quota. unnamed at link head.0 quota.0 quota.1 (λ number named. nothing (record { cell = of.cell; on = of.on; kind = inr (kind_is ∙ quota.0, (number, named)) }))) head.1))
      (begins_or_not d.pages (layout_of d) is.tables.laid (tables d is) (small d is) at)
    where
      of : LinkOf d.pages (layout_of d) is.tables.laid (tables d is) at link
      of = link_used d.pages (layout_of d) is.tables.laid (tables d is) at link head.0

      kind_is : of.cell.head.kind ≡ link.kind
      kind_is = ap (λ (l : Link). l.kind) of.same

  -- ---- each cell in use

  abbrev pub inside : CellAt → CellAt → Type 0
  inside at start = IsSomeAnd (files d is start) (λ chain. Contains (places chain) at)

  pub inside_or_not : (at start : CellAt) → Decides (inside at start)
  inside_or_not at start = by_chain (files d is start)
    where
      by_chain : (o : Option (List PlacedCell)) → Decides (IsSomeAnd o (λ chain. Contains (places chain) at))
      by_chain None = inr (λ none. none)
      by_chain (Some chain) = cell_in (places chain) at

  in_chain_by : (at start : CellAt) (link : Link) → IsOfChain d.pages (frame_of (layout_of d)) start at link → (cell : Cell) × IsOnTable d.pages (layout_of d) start cell × inside at start
  in_chain_by at start link of =
      let begun = head_begins start of.first of.begins in
      let found = chain_there d is start begun in (
        begun.cell,
        begun.on,
        subst (λ o. IsSomeAnd o (λ chain. Contains (places chain) at)) (sym found.1)
            (follows_inside start found.0 (chain_at d is start found.0 found.1) of.passed at link of.follows),
      )

  chained : (at : CellAt) (cell : Cell) → IsOnTable d.pages (layout_of d) at cell → (cell.head.kind ≡ kinds.Chain) ⊎ (cell.head.kind ≡ kinds.Quota) → IsInChain (files d is) at
  chained at cell on kind =
      ⊎_elim (λ found. (found.0, found.1))
      (λ none. absurd (no_cell d.pages (layout_of d) is.tables.laid (tables d is) at (inr (inr (inr (inr (inl (record {
        link = link_to cell;
        is = link_there d.pages (layout_of d) is.tables.laid (tables d is) at cell on;
        kind = kind;
        alone = λ start of. let found = in_chain_by at start (link_to cell) of in none start (found.0, found.1) found.2;
      })))))))) (in_all d.pages (layout_of d) is.tables.laid (inside at) (inside_or_not at))

  pub first_place : (at : CellAt) (cell : Cell) → IsOnTable d.pages (layout_of d) at cell → cell.head.kind ≡ kinds.Volume → IsFirstPlace d.frame at
  first_place at cell on kind =
      ⊎_elim (λ page. ⊎_elim (λ number. (page, number)) (λ other. absurd (wrong (λ first. other first.1))) (same_number at.cell 0)) (λ other. absurd (wrong (λ first. other first.0)))
      (same_number at.page (first_cells d.frame at.vol))
    where
      wrong : ¬ ¬ IsFirstPlace d.frame at
      wrong elsewhere = no_cell d.pages (layout_of d) is.tables.laid (tables d is) at
          (inl (inr (link_to cell, link_there d.pages (layout_of d) is.tables.laid (tables d is) at cell on, kind, elsewhere)))

  pub used : (at : CellAt) (cell : Cell) → IsOnTable d.pages (layout_of d) at cell → IsFirstPlace d.frame at ⊎ IsInChain (files d is) at
  used at cell on = by_kind cell.head.kind refl
    where
      of_first : cell.head.kind ≡ kinds.Primary → IsInChain (files d is) at
      of_first primary =
          let found = chain_there d is at (record { cell = cell; on = on; kind = inl primary }) in
          (at, subst (λ o. IsSomeAnd o (λ chain. Contains (places chain) at)) (sym found.1) (first_in at found.0 (chain_at d is at found.0 found.1)))

      by_kind : (kind : CellKind) → cell.head.kind ≡ kind → IsFirstPlace d.frame at ⊎ IsInChain (files d is) at
      by_kind kinds.Primary kind = inr (of_first kind)
      by_kind kinds.Chain kind = inr (chained at cell on (inl kind))
      by_kind kinds.Quota kind = inr (chained at cell on (inr kind))
      by_kind kinds.Volume kind = inl (first_place at cell on kind)
