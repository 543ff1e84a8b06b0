-- What is asked of single cells of a domain that was read.
use Rattle.std.proofs.Common.{◌≡◌, ◌∙◌, inl, inr, ℕ, ◌≤◌, true, false, is_some, List, [], ◌∷◌, Option, Some, None, slice_get, refl, sym, ap, subst, arith, ⊎_elim}
use Rattle.std.proofs.lemmas.Bool.{cases_Bool, true≢false}
use Rattle.std.specs.List.{AllByRecursion}
use Rattle.domain_memory.specs.domain_base.declared.place.CellAt.{CellAt}
use Rattle.domain_memory.specs.domain_base.declared.place.Home.{Home}
use Rattle.domain_memory.specs.cell_records.Records.{kind_of, last_kind}
use Rattle.domain_memory.specs.cell_records.declared.record.Record.{Record}
use Rattle.domain_memory.specs.metadata_cells.Cell.{Cell, IsCell, IsFreeCell, record_of}
use Rattle.domain_memory.specs.metadata_cells.CellPage.{cell_at, cell_of as bytes_of, home_of}
use Rattle.domain_memory.specs.metadata_cells.Chain.{PlacedCell, StandsAt}
use Rattle.domain_memory.specs.metadata_cells.declared.head.CellKind.TheVariants as kinds
use Rattle.domain_memory.proofs.OfMetadataCells.CellKinds.{used_not_zeros}
use Rattle.domain_memory.proofs.OfMetadataCells.Unique.{one_cell}
use Rattle.domain_memory.specs.tag_dirs.Directory.{IsDirectoryAt}
use Rattle.domain_memory.specs.file_chains.Files.{IsFile}
use Rattle.domain_memory.specs.fileset_files.Files.{HasFirstKinds}
use Rattle.domain_memory.specs.fileset_table.declared.slot.SlotItem.{SlotItem}
use Rattle.domain_memory.specs.fileset_table.declared.slot.SlotItem.TheVariants as slot
use Rattle.domain_memory.proofs.OfReleaseList.Standings.{no_record}
use Rattle.domain_memory.specs.release_list.Standing.{IsQuotaCell, IsQuotas}
use Rattle.domain_memory.specs.domain_layout.CellRules.{IsCellOf, IsPlace, has_kind, is_good_first, item_of, of_original, say_removed}
use Rattle.domain_memory.specs.domain_layout.Layout.{AreTagPlaces}
use Rattle.domain_memory.specs.domain_layout.Owners.{IsOnTable, frame_of}
use Rattle.domain_memory.specs.domain_layout.TagRules.{HasTags, IsLate}
use Rattle.domain_memory.proofs.OfDomainLayout.Named.{entry_there, first_there, link_to, no_cell}
use Rattle.domain_memory.proofs.OfDomainLayout.OnePage.{some_same}
use Rattle.domain_memory.proofs.OfDomainLayout.OwnedOnce.{no_cells, no_tags, used_on}
use Rattle.domain_memory.proofs.OfFilesetsReading.CellTables.{there_at}
use Rattle.domain_memory.proofs.OfFilesetsReading.TagPlaces.{most_by}
use Rattle.domain_memory.specs.domain_standing.Domain.{DomainNow, layout_of}
use Rattle.domain_memory.specs.domain_standing.Rest.{HasNoHoles, IsOfOriginal, SaysTheRest, StaysInOriginal}
use Rattle.no_faults.specs.Attached.{IsReadFrom}
use Rattle.no_faults.proofs.Domain.{Chain, chain_at, fault, files, quotas, small, tables}
use Rattle.no_faults.proofs.OnTables.{place_there, used_there}
use Rattle.no_faults.proofs.Standing.{is_as}
use Rattle.no_faults.proofs.Walked.{IsOnWay}

-- kinds that are not all too high are not
kinds_by : (most : ℕ) (rs : List Record) → ¬ ¬ AllByRecursion (λ r. kind_of r ≤ most) rs → AllByRecursion (λ r. kind_of r ≤ most) rs
kinds_by most [] known = tt
kinds_by most (r ∷ rs) known = (most_by (kind_of r) most (λ high. known (λ all. high all.0)), kinds_by most rs (λ wrong. known (λ all. wrong all.1)))

-- the directory of an original
original_tags : (d : DomainNow) (number : ℕ) → of_original (slice_get d.table.slots number) ≡ true → (first : Home) × HasTags d.table number first
original_tags d number original = by_item (slice_get d.table.slots number) refl original
  where
    by_item : (o : Option SlotItem) → slice_get d.table.slots number ≡ o → of_original o ≡ true → (first : Home) × HasTags d.table number first
    by_item None there is = absurd (true≢false (sym is))
    by_item (Some slot.Free) there is = absurd (true≢false (sym is))
    by_item (Some (slot.Original entry)) there is = (entry.first_tag, record { item = slot.Original entry; there = there; has = refl })
    by_item (Some (slot.Clone of clone entry)) there is = absurd (true≢false (sym is))
    by_item (Some (slot.Removed first quota)) there is = absurd (true≢false (sym is))

module _ (d : DomainNow) (is : IsReadFrom d) where
  -- ---- kinds

  known : (at : CellAt) (cell : Cell) → IsOnTable d.pages (layout_of d) at cell → ¬ ¬ AllByRecursion (λ r. kind_of r ≤ last_kind d.frame.version) cell.records
  known at cell on wrong =
      no_cells d.pages (layout_of d) is.tables.laid (tables d is) (home_of at) (inr (inr (inl (record {
        place = place.place;
        page = place.page;
        is = place.is;
        cell = at.cell;
        within = place.within;
        used = not_free;
        wrong = λ c of. wrong (subst (λ (x : Cell). AllByRecursion (λ r. kind_of r ≤ last_kind d.frame.version) x.records) (same c of) of.known);
      }))))
    where
      place : IsPlace d.pages (frame_of (layout_of d)) at
      place = place_there d.pages (layout_of d) is.tables.laid (tables d is) at cell on

      there : cell_at d.pages at ≡ Some (bytes_of place.page at.cell)
      there = there_at d.pages (home_of at) place.page place.is.read.there place.is.read.begins at.cell place.within

      bytes : bytes_of place.page at.cell ≡ on.stands.bytes
      bytes = some_same (bytes_of place.page at.cell) on.stands.bytes (sym there ∙ on.stands.there)

      not_free : ¬ IsFreeCell (bytes_of place.page at.cell)
      not_free free = used_not_zeros d.pages at (used_there d.pages at cell on.stands) (there ∙ ap Some free)

      same : (c : Cell) → IsCellOf d.frame.version (bytes_of place.page at.cell) c → c ≡ cell
      same c of = one_cell on.stands.bytes c cell (subst (λ b. IsCell b c) bytes of.is) on.stands.is

  -- ---- first cells

  good_first : (at : CellAt) (cell : Cell) → IsOnTable d.pages (layout_of d) at cell → cell.head.kind ≡ kinds.Primary → is_good_first d.table cell ≡ true
  good_first at cell on kind =
      ⊎_elim (λ good. good)
      (λ wrong. absurd (no_cell d.pages (layout_of d) is.tables.laid (tables d is) at
      (inr (inl (record { cell = cell; used = used_on d.pages (layout_of d) is.tables.laid (tables d is) at cell on; kind = kind; wrong = wrong })))))
      (cases_Bool (is_good_first d.table cell))

  not_late : (at : CellAt) (cell : Cell) (value : Record) → IsOfOriginal d at → StandsAt d.pages at cell → record_of 1 cell.records ≡ Some value → ¬ IsLate d.table.made value
  not_late at cell value of stands attributes late =
      let has = original_tags d of.number of.original in
      let directory : IsDirectoryAt d.pages has.0 (d.tags of.number) =
      subst (λ o. AreTagPlaces d.pages o (d.tags of.number)) has.1.has (is.tables.laid.tags of.number has.1.item has.1.there) in
      let entry = entry_there d.pages (layout_of d) is.tables.laid (tables d is) of.number has.0 has.1 (d.tags of.number) directory of.tag at of.leads in
      first_there d.pages (layout_of d) is.tables.laid (tables d is) of.number has.0 has.1 (d.tags of.number) directory of.tag at of.leads (λ first.
      no_tags d.pages (layout_of d) is.tables.laid (tables d is) (home_of at) (inr (inr (inr (inr (inr (inl (
        at,
        refl,
        inr (inr (inl (record {
          number = of.number;
          tag = of.tag;
          home = entry.home;
          named = entry.has;
          original = of.original;
          first = first;
          cell = cell;
          is = record { place = first.place; stands = stands };
          value = value;
          attributes = attributes;
          late = late;
        }))),
      ))))))))

  -- ---- holes

  quota_holes : (c : PlacedCell) → IsQuotaCell c.cell → HasNoHoles c
  quota_holes c quota = ap is_some (no_record 5 (λ e. omega (arith, e)) (λ e. omega (arith, e)) c.cell.records quota.limits)

  all_quota_holes : (cs : List PlacedCell) → AllByRecursion (λ (c : PlacedCell). IsQuotaCell c.cell) cs → AllByRecursion HasNoHoles cs
  all_quota_holes [] all = tt
  all_quota_holes (c ∷ cs) all = (quota_holes c all.0, all_quota_holes cs all.1)

  quotas_have_none : (at : CellAt) (chain : List PlacedCell) → IsQuotas d.pages at chain → AllByRecursion HasNoHoles chain
  quotas_have_none at [] quota = tt
  quotas_have_none at (first ∷ rest) quota = all_quota_holes (first ∷ rest) quota.1.cells

  module _ (first : PlacedCell) (on : IsOnTable d.pages (layout_of d) first.at first.cell) (kind : first.cell.head.kind ≡ kinds.Primary)
      (original : of_original (item_of d.table first.cell.head) ≡ true) (live : say_removed first.cell.records ≡ false) where
    no_holes : (c : PlacedCell) → IsOnWay d.pages (layout_of d) first.at c → HasNoHoles c
    no_holes c way = ⊎_elim (λ holes. absurd (way.behind (λ b.
        no_cell d.pages (layout_of d) is.tables.laid (tables d is) c.at (inr (inr (inr (inr (inr (inr (inr (record {
          start = first.at;
          first = first.cell;
          first_is = used_on d.pages (layout_of d) is.tables.laid (tables d is) first.at first.cell on;
          kind = kind;
          original = original;
          live = live;
          passed = b.0;
          link = link_to c.cell;
          follows = b.1;
          cell = c.cell;
          is = used_on d.pages (layout_of d) is.tables.laid (tables d is) c.at c.cell way.on;
          holes = holes;
        })))))))))))
        (λ none. none) (cases_Bool (has_kind 5 c.cell.records))

    none_have : (cs : List PlacedCell) → AllByRecursion (IsOnWay d.pages (layout_of d) first.at) cs → AllByRecursion HasNoHoles cs
    none_have [] all = tt
    none_have (c ∷ cs) all = (no_holes c all.0, none_have cs all.1)

  chain_holes : (at : CellAt) (chain : List PlacedCell) → files d is at ≡ Some chain → StaysInOriginal d chain → AllByRecursion HasNoHoles chain
  chain_holes at chain there stays =
      ⊎_elim of_file (λ quota. quotas_have_none at chain quota.0)
      (is_as d.pages (layout_of d) is.tables.laid (fault d is) (small d is) (quotas d is) at chain there).is
    where
      c : Chain d is at chain
      c = chain_at d is at chain there

      stays_so : StaysInOriginal d (c.first ∷ c.rest)
      stays_so = subst (StaysInOriginal d) c.all stays

      of_file : IsFile d.pages at chain × HasFirstKinds chain → AllByRecursion HasNoHoles chain
      of_file file =
          let primary = (subst (IsFile d.pages at) c.all file.0).1.primary in
          subst (AllByRecursion HasNoHoles) (sym c.all) (none_have c.first c.on_way.0.on primary stays_so.0 stays_so.1 (c.first ∷ c.rest) c.on_way)

  pub says_the_rest : SaysTheRest d (files d is)
  says_the_rest = record {
    kinds = λ at cell on. kinds_by (last_kind d.frame.version) cell.records (known at cell on);
    firsts = good_first;
    births = not_late;
    holes = chain_holes;
  }
