-- Where the pages of tables are well formed, it is decided of each place whether a cell in use stands there.
use Rattle.std.proofs.Common.{◌≡◌, ◌∙◌, ◌⊎◌, inl, inr, ℕ, ◌<◌, ◌≤◌, List, length, Option, Some, None, IsSomeAnd, Contains, slice_index, refl, sym, ap, subst, arith, ⊎_elim}
use Rattle.std.proofs.lemmas.Bool.{cases_lt}
use Rattle.domain_memory.specs.domain_base.Page.{zero_bytes}
use Rattle.domain_memory.specs.domain_base.declared.place.CellAt.{CellAt}
use Rattle.domain_memory.specs.page_store.Pages.{Pages}
use Rattle.domain_memory.specs.cell_records.Fields.{number_at}
use Rattle.domain_memory.specs.log_ring.Homes.{IsMember}
use Rattle.domain_memory.specs.metadata_cells.Cell.{Cell, IsFreeCell, kind_number}
use Rattle.domain_memory.specs.metadata_cells.CellPage.{IsCellPage, IsUsedAt, cell_at, cell_of, home_of}
use Rattle.domain_memory.specs.metadata_cells.Chain.{StandsAt}
use Rattle.domain_memory.specs.metadata_cells.declared.head.CellKind.{CellKind}
use Rattle.domain_memory.specs.metadata_cells.declared.head.CellKind.TheVariants as kinds
use Rattle.domain_memory.proofs.OfMetadataCells.CellKinds.{used_not_zeros}
use Rattle.domain_memory.proofs.OfMetadataCells.Walk.{one_kind}
use Rattle.domain_memory.specs.domain_layout.CellRules.{IsLink, IsPlace, Link, next_in}
use Rattle.domain_memory.specs.domain_layout.Faults.{HasNoTablesFault}
use Rattle.domain_memory.specs.domain_layout.Layout.{IsLayout, IsPageAt, Layout}
use Rattle.domain_memory.specs.domain_layout.Owners.{IsOnTable, frame_of}
use Rattle.domain_memory.proofs.OfDomainLayout.Named.{link_of, link_to}
use Rattle.domain_memory.proofs.OfDomainLayout.OnePage.{some_same}
use Rattle.domain_memory.proofs.OfDomainLayout.OneTable.{within_page}
use Rattle.domain_memory.proofs.OfDomainLayout.OwnedOnce.{used_on}
use Rattle.domain_memory.proofs.OfDomainLayout.Reached.{member_or_none}
use Rattle.domain_memory.proofs.OfFilesetsReading.CellTables.{there_at}
use Rattle.domain_memory.proofs.OfFilesetsReading.OnTables.{contains_at, is_there}
use Rattle.no_faults.proofs.Searched.{Decides, HasSome, below, in_below, index_is, number_in, searched}

pub some_kind : (kind : CellKind) → ¬ kind_number kind ≡ 0
some_kind kinds.Primary is = omega (arith, is)
some_kind kinds.Chain is = omega (arith, is)
some_kind kinds.Quota is = omega (arith, is)
some_kind kinds.Volume is = omega (arith, is)

pub used_there : (pages : Pages) (at : CellAt) (cell : Cell) → StandsAt pages at cell → IsUsedAt pages at
used_there pages at cell stands =
    subst (λ o. IsSomeAnd o (λ bytes. ¬ number_at 1 15 bytes ≡ 0)) (sym stands.there) (λ zero_there. some_kind cell.head.kind (sym stands.is.head.kind ∙ zero_there))

module _ (pages : Pages) (layout : Layout) (laid : IsLayout pages layout) where
  -- a cell in use stands there, on a page of its volume's table
  abbrev pub Used : CellAt → Type 0
  Used at = (cell : Cell) × IsOnTable pages layout at cell

  -- a place of the tables
  pub record HasPlaceOf (at : CellAt) : Type 0 where
    pub member : IsMember layout.anchor at.vol
    pub table : Contains (layout.cells at.vol) at.page
    pub within : at.cell < 28

  good_page : (at : CellAt) → HasPlaceOf at → IsSomeAnd (pages (home_of at)) IsCellPage
  good_page at has =
      let k = has.table.0 in
      let is : slice_index (layout.cells at.vol) k ≡ at.page = sym (index_is (layout.cells at.vol) k at.page has.table.1) ∙ has.table.2 in
      good (pages (home_of at)) k
      (subst (λ page. IsSomeAnd (pages (record { vol = at.vol; page = page })) (IsPageAt (layout.cells at.vol) k)) is ((laid.cells at.vol has.member).each k has.table.1))
    where
      good : (o : Option (List ℕ)) (k : ℕ) → IsSomeAnd o (IsPageAt (layout.cells at.vol) k) → IsSomeAnd o IsCellPage
      good None k is = absurd is
      good (Some page) k is = is.good

  -- a cell in use stands there, or zeros
  pub used_or_zeros : (at : CellAt) → HasPlaceOf at → Used at ⊎ (cell_at pages at ≡ Some (zero_bytes 292))
  used_or_zeros at has = by_page (pages (home_of at)) refl (good_page at has)
    where
      by_page : (o : Option (List ℕ)) → pages (home_of at) ≡ o → IsSomeAnd o IsCellPage → Used at ⊎ (cell_at pages at ≡ Some (zero_bytes 292))
      by_page None there good = absurd good
      by_page (Some page) there good =
          let bytes : cell_at pages at ≡ Some (cell_of page at.cell) = there_at pages (home_of at) page there good.magic at.cell has.within in
          ⊎_elim (λ (free : IsFreeCell (cell_of page at.cell)). inr (bytes ∙ ap Some free))
          (λ used. inl (used.0, record { member = has.member; table = has.table; stands = record { bytes = cell_of page at.cell; there = bytes; is = used.1 } }))
          (good.cells at.cell has.within)

  pub place_of : (at : CellAt) (cell : Cell) → IsOnTable pages layout at cell → HasPlaceOf at
  place_of at cell on = record { member = on.member; table = on.table; within = within_page (pages (home_of at)) at.cell on.stands.bytes on.stands.there }

  pub used_or_not : (at : CellAt) → Decides (Used at)
  used_or_not at =
      ⊎_elim (λ member. ⊎_elim (λ table. ⊎_elim (λ within.
      ⊎_elim (λ used. inl used) (λ zeros. inr (λ used. used_not_zeros pages at (used_there pages at used.0 used.1.stands) zeros))
      (used_or_zeros at (record { member = member; table = table; within = within })))
      (λ far. inr (λ used. let has = place_of at used.0 used.1 in omega (arith, far, has.within))) (cases_lt at.cell 28))
      (λ off. inr (λ used. off used.1.table)) (number_in (layout.cells at.vol) at.page))
      (λ other. inr (λ used. other used.1.member)) (member_or_none layout.anchor at.vol)

  -- what can be decided of each cell in use is searched for in all of them
  module _ (P : CellAt → Type 0) (test : (at : CellAt) → Decides (P at)) where
    abbrev At : ℕ → ℕ → ℕ → CellAt
    At vol page cell = record { vol = vol; page = page; cell = cell }

    abbrev OnPage : ℕ → ℕ → Type 0
    OnPage vol page = HasSome (λ cell. P (At vol page cell)) (below 28)

    on_page : (vol page : ℕ) → Decides (OnPage vol page)
    on_page vol page = searched (λ cell. P (At vol page cell)) (λ cell. test (At vol page cell)) (below 28)

    abbrev OnVolume : ℕ → Type 0
    OnVolume vol = HasSome (OnPage vol) (layout.cells vol)

    on_volume : (vol : ℕ) → Decides (OnVolume vol)
    on_volume vol = searched (OnPage vol) (on_page vol) (layout.cells vol)

    pub in_all : ((at : CellAt) × P at) ⊎ ((at : CellAt) → Used at → ¬ P at)
    in_all =
        ⊎_elim (λ found. inl (At found.0 found.2.0 found.2.2.0, found.2.2.2))
        (λ none. inr (λ at used so.
        let has = place_of at used.0 used.1 in
        let last : at.vol ≤ 8 = has.member.last in
        none (at.vol, in_below 9 at.vol (omega (arith, last)), (at.page, has.table, (at.cell, in_below 28 at.cell has.within, so)))))
        (searched OnVolume on_volume (below 9))

  module _ (none : HasNoTablesFault pages (frame_of layout)) where
    -- what is read of a cell that has a place is read of one in use
    pub record LinkOf (at : CellAt) (link : Link) : Type 0 where
      pub cell : Cell
      pub on : IsOnTable pages layout at cell
      pub same : link_to cell ≡ link

    pub link_used : (at : CellAt) (link : Link) → IsLink pages (frame_of layout) at link → LinkOf at link
    link_used at link is =
        ⊎_elim (λ used. of used.0 used.1)
        (λ zeros. absurd (used_not_zeros pages at (subst (λ o. IsSomeAnd o (λ bytes. ¬ number_at 1 15 bytes ≡ 0)) (sym is.there) (λ zero_there. some_kind link.kind (sym is.kind ∙ zero_there))) zeros))
        (used_or_zeros at has)
      where
        has : HasPlaceOf at
        has =
            let on = is_there pages layout laid at.vol is.place.is.member is.place.is.read.passed (home_of at) is.place.is.read.reached in
            record { member = is.place.is.member; table = contains_at (layout.cells at.vol) (length is.place.is.read.passed) at.page on.there; within = is.place.within }

        of : (cell : Cell) → IsOnTable pages layout at cell → LinkOf at link
        of cell on =
            let also = link_of pages layout laid none at cell is.place on.stands in
            let bytes : is.bytes ≡ on.stands.bytes = some_same is.bytes on.stands.bytes (sym is.there ∙ on.stands.there) in
            let other : is.bytes ≡ also.bytes = some_same is.bytes also.bytes (sym is.there ∙ also.there) in
            let kind : cell.head.kind ≡ link.kind = one_kind cell.head.kind link.kind (sym on.stands.is.head.kind ∙ ap (number_at 1 15) (sym bytes) ∙ is.kind) in
            let next : cell.head.next ≡ link.next = also.next ∙ ap next_in (sym other) ∙ sym is.next in
            record { cell = cell; on = on; same = λ i. record { kind = kind i; next = next i } }

    pub place_there : (at : CellAt) (cell : Cell) → IsOnTable pages layout at cell → IsPlace pages (frame_of layout) at
    place_there at cell on = (used_on pages layout laid none at cell on).place

    pub link_there : (at : CellAt) (cell : Cell) → IsOnTable pages layout at cell → IsLink pages (frame_of layout) at (link_to cell)
    link_there at cell on = link_of pages layout laid none at cell (place_there at cell on) on.stands
