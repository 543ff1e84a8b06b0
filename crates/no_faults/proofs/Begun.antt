-- Where no rule of tables is broken: the chains of a domain, by the cells at which they begin.
use Rattle.std.proofs.Common.{◌≡◌, ◌∙◌, ◌⊎◌, inl, inr, ℕ, ◌<◌, ◌≤◌, List, [], ◌∷◌, length, Option, Some, None, slice_get, refl, sym, ap, subst, ⊎_elim}
use Rattle.std.specs.List.{AllByRecursion}
use Rattle.std.specs.Option.{option_and_then}
use Rattle.domain_memory.specs.domain_base.declared.place.CellAt.{CellAt}
use Rattle.domain_memory.specs.page_store.Pages.{Pages}
use Rattle.domain_memory.specs.log_ring.Homes.{IsMember, member_of}
use Rattle.domain_memory.specs.metadata_cells.Cell.{Cell}
use Rattle.domain_memory.specs.metadata_cells.Chain.{AreLinked, LinksFrom, PlacedCell}
use Rattle.domain_memory.specs.metadata_cells.declared.head.CellKind.{CellKind}
use Rattle.domain_memory.specs.metadata_cells.declared.head.CellKind.TheVariants as kinds
use Rattle.domain_memory.proofs.OfMetadataCells.Linked.{linked}
use Rattle.domain_memory.proofs.OfMetadataCells.Unique.{one_stands}
use Rattle.domain_memory.specs.fileset_table.declared.slot.SlotItem.{SlotItem}
use Rattle.domain_memory.specs.release_list.Standing.{Files}
use Rattle.domain_memory.specs.domain_layout.CellRules.{IsChainHead}
use Rattle.domain_memory.specs.domain_layout.Faults.{HasNoTablesFault}
use Rattle.domain_memory.specs.domain_layout.Layout.{IsLayout, Layout}
use Rattle.domain_memory.specs.domain_layout.Owners.{IsOnTable, frame_of}
use Rattle.domain_memory.specs.domain_layout.TagRules.{quota_of}
use Rattle.domain_memory.proofs.OfDomainLayout.Named.{link_to}
use Rattle.domain_memory.proofs.OfDomainLayout.OnePage.{some_same}
use Rattle.domain_memory.proofs.OfDomainLayout.OwnedOnce.{same_cell}
use Rattle.domain_memory.proofs.OfFilesetsReading.Ways.{within_of}
use Rattle.no_faults.specs.Attached.{IsFirstQuota}
use Rattle.no_faults.proofs.Searched.{Decides, below, in_below, searched}
use Rattle.no_faults.proofs.OnTables.{link_there, used_or_not}
use Rattle.no_faults.proofs.Walked.{IsOnWay, Walked, walked}

pub nowhere : {P X : Type 0} (x : X) → None ≡ Some x → P
nowhere x is = absurd (cc)

pub is_there_or_not : (o : Option CellAt) (at : CellAt) → Decides (o ≡ Some at)
is_there_or_not None at = inr (λ is. nowhere at is)
is_there_or_not (Some a) at = ⊎_elim (λ same. inl (ap Some same)) (λ other. inr (λ is. other (some_same a at is))) (same_cell a at)

-- where the quota cells begin that a slot names
abbrev pub quota_in : Layout → ℕ → Option CellAt
quota_in layout number = option_and_then quota_of (slice_get layout.table.slots number)

abbrev pub IsNamedQuota : Layout → CellAt → Type 0
IsNamedQuota layout at = (number : ℕ) × (quota_in layout number ≡ Some at)

module _ (pages : Pages) (layout : Layout) (laid : IsLayout pages layout) (none : HasNoTablesFault pages (frame_of layout))
    (small : (vol : ℕ) → IsMember layout.anchor vol → (member_of layout.anchor vol).pages ≤ 1048576) where
  few_slots : (number : ℕ) (at : CellAt) → quota_in layout number ≡ Some at → number < length layout.table.slots
  few_slots number at is = by_item (slice_get layout.table.slots number) refl is
    where
      by_item : (o : Option SlotItem) → slice_get layout.table.slots number ≡ o → option_and_then quota_of o ≡ Some at → number < length layout.table.slots
      by_item None there is = nowhere at is
      by_item (Some item) there is = within_of layout.table.slots number item there

  named_or_not : (at : CellAt) → Decides (IsNamedQuota layout at)
  named_or_not at =
      ⊎_elim (λ found. inl (found.0, found.2))
      (λ nothing. inr (λ named. nothing (named.0, in_below (length layout.table.slots) named.0 (few_slots named.0 at named.1), named.1)))
      (searched (λ number. quota_in layout number ≡ Some at) (λ number. is_there_or_not (quota_in layout number) at) (below (length layout.table.slots)))

  -- a chain begins there: of a file or directory, or of quota cells that a slot names
  pub record Begins (at : CellAt) : Type 0 where
    pub cell : Cell
    pub on : IsOnTable pages layout at cell
    pub kind : (cell.head.kind ≡ kinds.Primary) ⊎ ((cell.head.kind ≡ kinds.Quota) × IsNamedQuota layout at)

  pub same_begun : (at : CellAt) (cell : Cell) → IsOnTable pages layout at cell → (b : Begins at) → b.cell ≡ cell
  same_begun at cell on b = one_stands pages at b.cell cell b.on.stands on.stands

  begins_by : (at : CellAt) (cell : Cell) → IsOnTable pages layout at cell → (kind : CellKind) → cell.head.kind ≡ kind → Decides (Begins at)
  begins_by at cell on kinds.Primary is = inl (record { cell = cell; on = on; kind = inl is })
  begins_by at cell on kinds.Quota is =
      ⊎_elim (λ named. inl (record { cell = cell; on = on; kind = inr (is, named) }))
      (λ unnamed. inr (λ (b : Begins at). ⊎_elim
      (λ primary. let e : kinds.Quota ≡ kinds.Primary = sym is ∙ ap (λ (c : Cell). c.head.kind) (sym (same_begun at cell on b)) ∙ primary in absurd (cc))
      (λ quota. unnamed quota.1) b.kind)) (named_or_not at)
  begins_by at cell on kinds.Chain is = inr (λ (b : Begins at).
      let same : b.cell.head.kind ≡ kinds.Chain = ap (λ (c : Cell). c.head.kind) (same_begun at cell on b) ∙ is in
      ⊎_elim (λ primary. let e : kinds.Chain ≡ kinds.Primary = sym same ∙ primary in absurd (cc))
      (λ quota. let e : kinds.Chain ≡ kinds.Quota = sym same ∙ quota.0 in absurd (cc)) b.kind)
  begins_by at cell on kinds.Volume is = inr (λ (b : Begins at).
      let same : b.cell.head.kind ≡ kinds.Volume = ap (λ (c : Cell). c.head.kind) (same_begun at cell on b) ∙ is in
      ⊎_elim (λ primary. let e : kinds.Volume ≡ kinds.Primary = sym same ∙ primary in absurd (cc))
      (λ quota. let e : kinds.Volume ≡ kinds.Quota = sym same ∙ quota.0 in absurd (cc)) b.kind)

  pub begins_or_not : (at : CellAt) → Decides (Begins at)
  begins_or_not at =
      ⊎_elim (λ used. begins_by at used.0 used.1 used.0.head.kind refl)
      (λ unused. inr (λ (b : Begins at). unused (b.cell, b.on))) (used_or_not pages layout laid at)

  module _ (quotas : (number : ℕ) (at : CellAt) → quota_in layout number ≡ Some at → ¬ ¬ IsFirstQuota pages (frame_of layout) number at) where
    pub head_of : (at : CellAt) (b : Begins at) → ¬ ¬ IsChainHead pages (frame_of layout) at (link_to b.cell)
    head_of at b away =
        let link = link_there pages layout laid none at b.cell b.on in
        ⊎_elim (λ primary. away (link, inl primary))
        (λ quota. quotas quota.1.0 at quota.1.1 (λ f. away (link, inr (quota.0, f.first)))) b.kind

    walk_of : (at : CellAt) → Begins at → Walked pages layout at
    walk_of at b = walked pages layout laid none small at b.cell b.on (head_of at b)

    files_by : (at : CellAt) → Decides (Begins at) → Option (List PlacedCell)
    files_by at (inl b) = Some (walk_of at b).cells
    files_by at (inr nothing) = None

    -- the chain that begins at a cell, where one does
    pub files : Files
    files at = files_by at (begins_or_not at)

    -- what is known of it
    pub record ChainAt (at : CellAt) (chain : List PlacedCell) : Type 0 where
      pub first : PlacedCell
      pub rest : List PlacedCell
      pub all : chain ≡ first ∷ rest
      pub begun : Begins first.at
      pub cell_is : first.cell ≡ begun.cell
      pub at_is : first.at ≡ at
      pub links : AreLinked pages first rest
      pub on_way : AllByRecursion (IsOnWay pages layout first.at) (first ∷ rest)

    chain_of : (at : CellAt) → Begins at → (chain : List PlacedCell) → LinksFrom pages at chain → AllByRecursion (IsOnWay pages layout at) chain → ChainAt at chain
    chain_of at b [] links on_way = absurd links
    chain_of at b (first ∷ rest) links on_way =
        let begun : Begins first.at = subst Begins (sym links.0) b in
        record {
          first = first;
          rest = rest;
          all = refl;
          begun = begun;
          cell_is = one_stands pages first.at first.cell begun.cell links.1.stands begun.on.stands;
          at_is = links.0;
          links = links.1;
          on_way = subst (λ a. AllByRecursion (IsOnWay pages layout a) (first ∷ rest)) (sym links.0) on_way;
        }

    chain_by : (at : CellAt) (d : Decides (Begins at)) (chain : List PlacedCell) → files_by at d ≡ Some chain → ChainAt at chain
    unfolding files_by
    chain_by at (inl b) chain is =
        let walk = walk_of at b in
        subst (ChainAt at) (some_same walk.cells chain is) (chain_of at b walk.cells (linked pages at walk.cells walk.chain) walk.all)
    chain_by at (inr nothing) chain is = nowhere chain is

    pub chain_at : (at : CellAt) (chain : List PlacedCell) → files at ≡ Some chain → ChainAt at chain
    unfolding files
    chain_at at chain is = chain_by at (begins_or_not at) chain is

    there_by : (at : CellAt) (d : Decides (Begins at)) → Begins at → (chain : List PlacedCell) × (files_by at d ≡ Some chain)
    unfolding files_by
    there_by at (inl b) begun = ((walk_of at b).cells, refl)
    there_by at (inr nothing) begun = absurd (nothing begun)

    pub chain_there : (at : CellAt) → Begins at → (chain : List PlacedCell) × (files at ≡ Some chain)
    unfolding files
    chain_there at begun = there_by at (begins_or_not at) begun
