-- The chains of a domain once an owner's limits are set in a slot's fileset.
use Rattle.std.proofs.Common.{◌≡◌, ◌∙◌, ◌⊎◌, ℕ, suc, true, false, List, [], ◌∷◌, ◌++◌, Option, Some, None, IfSome, IsSomeAnd, Contains, inl, inr, is_some, slice_get, refl, sym, ap, subst, arith, ⊎_elim, true≢false}
use Rattle.std.specs.List.{IsDistinct}
use Rattle.std.specs.Option.{option_and_then}
use Rattle.domain_standing.specs.domain_base.declared.place.CellAt.{CellAt}
use Rattle.domain_standing.specs.domain_base.declared.place.Home.{Home}
use Rattle.domain_standing.specs.domain_base.declared.place.Tag.{Tag}
use Rattle.domain_standing.specs.page_store.Pages.{Pages}
use Rattle.domain_standing.specs.metadata_cells.Cell.{Cell}
use Rattle.domain_standing.specs.metadata_cells.Chain.{PlacedCell, places, records_of}
use Rattle.domain_standing.specs.tag_dirs.declared.dir.TagPlace.{TagPlace}
use Rattle.domain_standing.specs.tag_dirs.Directory.{cell_of, has_home}
use Rattle.domain_standing.specs.extent_maps.declared.run.PagePlace.TheVariants.{At}
use Rattle.domain_standing.proofs.OfFreeCells.Belongs.{used_not_free}
use Rattle.domain_standing.specs.file_chains.Files.{IsFile}
use Rattle.domain_standing.specs.file_chains.MapChanges.{IsHandedOut}
use Rattle.domain_standing.proofs.OfFileChains.Added.{used_of}
use Rattle.domain_standing.specs.fileset_files.Files.{AreFiles, LeadsToFile, first_record}
use Rattle.domain_standing.specs.fileset_files.Shown.{index_in, index_of}
use Rattle.domain_standing.proofs.OfFilesetFiles.Tags.{directory_same, pages_same}
use Rattle.domain_standing.proofs.OfFileRelease.Given.{absent_home}
use Rattle.domain_standing.specs.index_pages.Homes.{AreIndexHomes, IsIndexPage, next_at}
use Rattle.domain_standing.specs.tag_dirs.TagPage.{next_of}
use Rattle.domain_standing.specs.fileset_table.declared.slot.SlotItem.TheVariants as slot
use Rattle.domain_standing.specs.quota_book.QuotaCells.{AreOnce, said_by, touched}
use Rattle.domain_standing.specs.release_list.Listed.{left_of, leftover_in}
use Rattle.domain_standing.specs.release_list.Listing.{Listing}
use Rattle.domain_standing.specs.release_list.Standing.{Files, IsFileOrQuotas, IsQuotas, IsStanding, place_in}
use Rattle.domain_standing.specs.release_list.Steps.{IsWell}
use Rattle.domain_standing.proofs.OfReleaseList.Spread.{none_not, some_same}
use Rattle.domain_standing.proofs.OfReleaseList.Standings.{is_file, place_by, quota_first, quota_place, same_or_not, standing}
use Rattle.domain_standing.specs.release_steps.Links.{homes_of}
use Rattle.domain_standing.specs.release_steps.Tags.{AreAmong, start_of}
use Rattle.domain_standing.proofs.OfReleaseSteps.Tags.{IsNamed, file_start, has_attributes, named}
use Rattle.domain_standing.specs.release_steps.QuotaChain.{filesets_in, said_in, with_fileset}
use Rattle.domain_standing.specs.release_steps.Setting.{IsChainIn}
use Rattle.domain_standing.specs.domain_layout.CellRules.{IsFirstPlace}
use Rattle.domain_standing.specs.domain_layout.Layout.{first_tag_of}
use Rattle.domain_standing.specs.domain_layout.Owners.{IsOnTable}
use Rattle.domain_standing.specs.domain_layout.Reached.{Frame}
use Rattle.domain_standing.specs.domain_layout.TagRules.{quota_of}
use Rattle.domain_standing.specs.Chains.{AreQuotasOf, HasEmptyTags, HasFilesAmong, IndexesAt, IsInChain, IsOfFileset, IsOnList, IsQuotaOf, IsQuotaToGo, IsRemoved, IsSomebodys, IsToDo, StandChains, StandsInSlot}
use Rattle.domain_standing.specs.Domain.{DomainNow, all_of, item_in, layout_of, named_by}
use Rattle.domain_standing.specs.Holders.Holder.{of_index}
use Rattle.standing_laws.specs.Leads.{StandsBelow}
use Rattle.standing_laws.specs.SetsQuota.{SetsQuota}
use Rattle.standing_laws.proofs.CellsNow.{below_28, used_or_free}
use Rattle.standing_laws.proofs.QuotaSlots.{cell_stays, first_tags, item_mine, item_other, member_of_table, number_or_not, other, page_stays, tag_page, there, was_chain, was_quotas, well_now}

-- ---- of which fileset the first cell is

of_first : (number : ℕ) (after : List PlacedCell) (rest : List (Option ℕ)) → filesets_in after ≡ Some number ∷ rest → IsOfFileset number after
of_first number [] rest is = absurd (cc)
of_first number (c ∷ cs) rest is = let e : c.cell.head.fileset ≡ Some number = cc in e

of_chain : (number : ℕ) (chain : List PlacedCell) (o : Option ℕ) → (chain ≡ [] → o ≡ None) → IsOfFileset number chain ⊎ (chain ≡ []) → (after : List PlacedCell)
    → filesets_in after ≡ with_fileset number o (filesets_in chain) → IsOfFileset number after
of_chain number [] None none of after is = of_first number after [] is
of_chain number [] (Some k) none of after is = let e : Some k ≡ None = none refl in absurd (cc)
of_chain number (c ∷ cs) o none of after is = by_touched o is
  where
    first_is : c.cell.head.fileset ≡ Some number
    first_is = ⊎_elim (λ f. f) (λ e. absurd (cc)) of

    by_touched : (o : Option ℕ) → filesets_in after ≡ with_fileset number o (filesets_in (c ∷ cs)) → IsOfFileset number after
    by_touched (Some k) is = of_first number after (filesets_in cs) (is ∙ ap (λ (x : Option ℕ). x ∷ filesets_in cs) first_is)
    by_touched None is = of_first number after (filesets_in cs ++ Some number ∷ []) (is ∙ ap (λ (x : Option ℕ). x ∷ (filesets_in cs ++ Some number ∷ [])) first_is)

none_once : AreOnce (said_by (records_of []))
unfolding IsDistinct
none_once = tt

-- an index whose pages stay
index_same : (old new : Pages) (o : Option Home) (homes : List Home) → ((k : ℕ) (home : Home) → slice_get homes k ≡ Some home → new home ≡ old home) → AreIndexHomes old o homes → AreIndexHomes new o homes
index_same old new None [] same are = are
index_same old new None (home ∷ more) same are = are
index_same old new (Some first) [] same are = are
index_same old new (Some first) (home ∷ more) same are = (
  are.0,
  subst (λ o. IsSomeAnd o IsIndexPage) (sym (same 0 home refl)) are.1,
  index_same old new (next_at new home) more (λ k h there. same (suc k) h there) (subst (λ o. AreIndexHomes old o more) (sym (ap (option_and_then next_of) (same 0 home refl))) are.2),
)

module _ (number : ℕ) (d now : DomainNow) (files files_now : Files) (indexes : IndexesAt) (below : StandsBelow d files indexes) (s : SetsQuota number d now files files_now) where
  abbrev start : CellAt
  start = s.sets.start

  abbrev after : List PlacedCell
  after = s.sets.sets.after

  abbrev chain : List PlacedCell
  chain = s.sets.chain

  here_now : files_now start ≡ Some after
  here_now = there number d now files files_now indexes below s

  other_now : (at : CellAt) → ¬ at ≡ start → files_now at ≡ files at
  other_now = other number d now files files_now indexes below s

  well : IsWell (all_of now files_now)
  well = well_now number d now files files_now indexes below s

  stands : (at : CellAt) (cs : List PlacedCell) → files_now at ≡ Some cs → IsStanding now.cells now.pages at cs
  stands at cs is = standing now.space now.cells now.pages files_now well.together at cs is

  -- neither the chain that was nor the one that is has a record of another kind in its first cell
  none_was : (k : ℕ) → ¬ k ≡ 7 → ¬ k ≡ 8 → (cs : List PlacedCell) → files start ≡ Some cs → first_record k cs ≡ None
  none_was k seven eight cs is = quota_first d.pages start cs (was_quotas number d now files files_now indexes below s cs is) k seven eight

  none_is : (k : ℕ) → ¬ k ≡ 7 → ¬ k ≡ 8 → first_record k after ≡ None
  none_is k seven eight = quota_first now.pages start after s.sets.sets.is k seven eight

  either : (n : ℕ) → (n ≡ number) ⊎ (¬ n ≡ number)
  either = number_or_not number d now files files_now indexes below s

  mine : item_in now number ≡ Some (slot.Original (record s.entry { quota = Some start }))
  mine = item_mine number d now files files_now indexes below s

  item_same : (n : ℕ) → ¬ n ≡ number → item_in now n ≡ item_in d n
  item_same = item_other number d now files files_now indexes below s

  tags_same : (n : ℕ) → now.tags n ≡ d.tags n
  tags_same n = ap (λ (t : ℕ → List TagPlace). t n) s.tags

  cell_same : (n : ℕ) (t : Tag) → cell_of now.pages (d.tags n) t ≡ cell_of d.pages (d.tags n) t
  cell_same = cell_stays number d now files files_now indexes below s

  list_same : now.list ≡ d.list
  list_same = s.sets.list

  -- ---- the slots

  module _ (n : ℕ) (has : HasFilesAmong d files n) where
    each : (t : Tag) (P : Option (List PlacedCell) → Type 0) → P None → ((cs : List PlacedCell) → has.chains t ≡ Some cs → P (Some cs)) → P (has.chains t)
    each t P nothing some = by_chain (has.chains t) refl
      where
        by_chain : (o : Option (List PlacedCell)) → has.chains t ≡ o → P o
        by_chain None at = nothing
        by_chain (Some cs) at = some cs at

    its : (t : Tag) (cs : List PlacedCell) → has.chains t ≡ Some cs → LeadsToFile n (d.tags n) d.pages t cs
    its t cs at = subst (λ o. IfSome o (LeadsToFile n (d.tags n) d.pages t)) at (has.are.some t)

    attributes : (cs : List PlacedCell) (o : Option CellAt) → IsSomeAnd o (λ at. IsFile d.pages at cs) → ¬ first_record 1 cs ≡ None
    attributes cs None leads = absurd leads
    attributes cs (Some at) leads = has_attributes d.pages at cs leads

    there_now : (t : Tag) (cs : List PlacedCell) → has.chains t ≡ Some cs → IsNamed files_now cs
    there_now t cs at =
        let m = named files has.chains t cs at (has.among.same t) in
        record {
          at = m.at;
          start = m.start;
          is = other_now m.at (λ same. attributes cs (cell_of d.pages (d.tags n) t) (its t cs at).leads
              (none_was 1 (λ e. omega (arith, e)) (λ e. omega (arith, e)) cs (ap files (sym same) ∙ m.is))) ∙ m.is;
        }

    leads_now : (t : Tag) (cs : List PlacedCell) → has.chains t ≡ Some cs → LeadsToFile n (d.tags n) now.pages t cs
    leads_now t cs at = record {
      leads = subst (λ o. IsSomeAnd o (λ a. IsFile now.pages a cs)) (sym (cell_same n t)) (by_cell (cell_of d.pages (d.tags n) t) (its t cs at).leads);
      is_of = (its t cs at).is_of;
      kinds = (its t cs at).kinds;
    }
      where
        m : IsNamed files_now cs
        m = there_now t cs at

        by_cell : (o : Option CellAt) → IsSomeAnd o (λ a. IsFile d.pages a cs) → IsSomeAnd o (λ a. IsFile now.pages a cs)
        by_cell None leads = leads
        by_cell (Some a) leads = subst (λ (b : CellAt). IsFile now.pages b cs) (sym (file_start d.pages a m.at cs leads m.start))
            (is_file now.pages m.at cs (stands m.at cs m.is).stands 1 (λ e. omega (arith, e)) (λ e. omega (arith, e)) (has_attributes d.pages a cs leads))

    files_are : AreFiles n (d.tags n) now.pages has.chains
    files_are = record {
      directory = directory_same d.pages now.pages (d.tags n) has.are.directory (pages_same d.pages now.pages (d.tags n) (tag_page number d now files files_now indexes below s n));
      none = λ t at. cell_same n t ∙ has.are.none t at;
      some = λ t. each t (λ o. IfSome o (LeadsToFile n (d.tags n) now.pages t)) tt (λ cs at. leads_now t cs at);
      apart = has.are.apart;
    }

    -- quota cells have no pages
    no_tag_page : (at : CellAt) (page : ℕ) (home : Home) → place_in files_now at page ≡ At home → has_home (d.tags n) home ≡ false
    no_tag_page at page home is = ⊎_elim
        (λ same. absurd (absent_home home (quota_place now.pages start after s.sets.sets.is page)
        (sym (place_by files_now start after page here_now) ∙ ap (λ (a : CellAt). place_in files_now a page) (sym same) ∙ is)))
        (λ apart. has.among.no_tags at page home (sym (ap (λ o. place_in (λ a. o) at page) (other_now at apart)) ∙ is))
        (same_or_not at start)

    among_now : AreAmong (all_of now files_now) (d.tags n) has.chains
    among_now = record {
      same = λ t. each t (λ o. option_and_then files_now (option_and_then start_of o) ≡ o) refl
          (λ cs at. let m = there_now t cs at in ap (option_and_then files_now) m.start ∙ m.is);
      live = has.among.live;
      trimmed = λ e inside. has.among.trimmed e (subst (λ (l : Listing). Contains l.entries e) list_same inside);
      low = has.among.low;
      no_tags = no_tag_page;
      not_listed = λ home inside. has.among.not_listed home (subst (λ (l : Listing). Contains l.tag_pages home) list_same inside);
    }

    slot_now : HasFilesAmong now files_now n
    slot_now =
        let same = sym (tags_same n) in
        record {
          chains = has.chains;
          are = subst (λ (ps : List TagPlace). AreFiles n ps now.pages has.chains) same files_are;
          among = subst (λ (ps : List TagPlace). AreAmong (all_of now files_now) ps has.chains) same among_now;
        }

  not_removed : (n : ℕ) → IsRemoved (item_in d n) → ¬ n ≡ number
  not_removed n removed same = subst IsRemoved (ap (item_in d) same ∙ s.original) removed

  removed_now : (n : ℕ) → IsRemoved (item_in d n) → IsRemoved (item_in now n)
  removed_now n removed = subst IsRemoved (sym (item_same n (not_removed n removed))) removed

  empty_now : (n : ℕ) → HasEmptyTags d n → HasEmptyTags now n
  empty_now n empty = record {
    removed = removed_now n empty.removed;
    none = λ t. ap (λ (ps : List TagPlace). cell_of now.pages ps t) (tags_same n) ∙ cell_same n t ∙ empty.none t;
    listed = ap homes_of (tags_same n) ∙ empty.listed ∙ ap (λ (l : Listing). l.tag_pages) (sym list_same);
  }

  slots_now : (n : ℕ) → StandsInSlot now files_now n (named_by first_tag_of now n)
  slots_now n = subst (StandsInSlot now files_now n) (sym (first_tags number d now files files_now indexes below s n)) (by_first (named_by first_tag_of d n) (below.chains.slots n))
    where
      by_first : (o : Option Home) → StandsInSlot d files n o → StandsInSlot now files_now n o
      by_first None none = tags_same n ∙ none
      by_first (Some first) stood = ⊎_elim (λ has. inl (slot_now n has)) (λ empty. inr (empty_now n empty)) stood

  -- ---- quota cells

  -- what was said of the chain that was
  was_of : IsOfFileset number chain ⊎ (chain ≡ [])
  was_of = by_first s.entry.quota refl s.sets.among
    where
      by_first : (o : Option CellAt) → s.entry.quota ≡ o → IsChainIn files o chain → IsOfFileset number chain ⊎ (chain ≡ [])
      by_first None is none = inr none
      by_first (Some at) is among = inl (subst (λ o. IsSomeAnd o (AreQuotasOf d number at)) among (below.chains.quotas number at (ap (option_and_then quota_of) s.original ∙ is))).of

  was_once : AreOnce (said_by (records_of chain))
  was_once = by_first s.entry.quota refl s.sets.among
    where
      by_first : (o : Option CellAt) → s.entry.quota ≡ o → IsChainIn files o chain → AreOnce (said_by (records_of chain))
      by_first None is none = subst (λ (cs : List PlacedCell). AreOnce (said_by (records_of cs))) (sym none) none_once
      by_first (Some at) is among = (subst (λ o. IsSomeAnd o (AreQuotasOf d number at)) among (below.chains.quotas number at (ap (option_and_then quota_of) s.original ∙ is))).once

  mine_now : IsSomeAnd (files_now start) (AreQuotasOf now number start)
  mine_now = subst (λ o. IsSomeAnd o (AreQuotasOf now number start)) (sym here_now) (record {
    quotas = s.sets.sets.is;
    of = of_chain number chain (touched (said_in chain) s.who) (λ none. ap (λ (cs : List PlacedCell). touched (said_in cs) s.who) none) was_of after s.sets.sets.filesets;
    once = s.sets.sets.once was_once;
  })

  quota_mine : IsQuotaOf now number start
  quota_mine = ap (option_and_then quota_of) mine

  one_fileset : (n : ℕ) (cs : List PlacedCell) → IsOfFileset n cs → IsOfFileset number cs → n ≡ number
  one_fileset n [] of also = absurd of
  one_fileset n (c ∷ cs) of also = some_same n number (sym of ∙ also)

  -- another slot names another chain
  not_start : (n : ℕ) (at : CellAt) (cs : List PlacedCell) → ¬ n ≡ number → files at ≡ Some cs → IsOfFileset n cs → ¬ at ≡ start
  not_start n at cs differ is of same =
      let w = was_chain number d now files files_now indexes below s cs (ap files (sym same) ∙ is) in
      ⊎_elim
      (λ also. differ (one_fileset n chain (subst (IsOfFileset n) w.3 of) also))
      (λ none. subst (IsQuotas d.pages w.0) none w.4)
      was_of

  -- that one stays
  pub quotas_stay : (n : ℕ) (at : CellAt) (cs : List PlacedCell) → ¬ n ≡ number → files at ≡ Some cs → AreQuotasOf d n at cs → IsQuotas now.pages at cs
  quotas_stay n at cs differ is are = quotas (stands at cs (other_now at (not_start n at cs differ is are.of) ∙ is)).stands
    where
      quotas : IsFileOrQuotas now.pages at cs → IsQuotas now.pages at cs
      quotas stand = ⊎_elim
          (λ file. absurd (has_attributes now.pages at cs file (quota_first d.pages at cs are.quotas 1 (λ e. omega (arith, e)) (λ e. omega (arith, e)))))
          (λ are_now. are_now)
          stand

  other_quotas : (n : ℕ) (at : CellAt) → ¬ n ≡ number → IsQuotaOf d n at → IsSomeAnd (files_now at) (AreQuotasOf now n at)
  other_quotas n at differ quota = by_chain (files at) refl (below.chains.quotas n at quota)
    where
      by_chain : (o : Option (List PlacedCell)) → files at ≡ o → IsSomeAnd o (AreQuotasOf d n at) → IsSomeAnd (files_now at) (AreQuotasOf now n at)
      by_chain None is are = absurd are
      by_chain (Some cs) is are = subst (λ o. IsSomeAnd o (AreQuotasOf now n at)) (sym (other_now at (not_start n at cs differ is are.of) ∙ is))
          (record { quotas = quotas_stay n at cs differ is are; of = are.of; once = are.once })

  quotas_now : (n : ℕ) (at : CellAt) → IsQuotaOf now n at → IsSomeAnd (files_now at) (AreQuotasOf now n at)
  quotas_now n at quota = ⊎_elim
      (λ same.
      let is : start ≡ at = some_same start at (sym quota_mine ∙ ap (named_by quota_of now) (sym same) ∙ quota) in
      subst (λ (m : ℕ). IsSomeAnd (files_now at) (AreQuotasOf now m at)) (sym same) (subst (λ (a : CellAt). IsSomeAnd (files_now a) (AreQuotasOf now number a)) is mine_now))
      (λ differ. other_quotas n at differ (sym (ap (option_and_then quota_of) (item_same n differ)) ∙ quota))
      (either n)

  -- ---- indexes

  same_index : (at : CellAt) → option_and_then index_of (files_now at) ≡ option_and_then index_of (files at)
  same_index at = ⊎_elim
      (λ same.
      ap (λ (a : CellAt). option_and_then index_of (files_now a)) same ∙ ap (option_and_then index_of) here_now ∙ ap (option_and_then index_in) (none_is 9 (λ e. omega (arith, e)) (λ e. omega (arith, e)))
      ∙ sym (ap (λ (a : CellAt). option_and_then index_of (files a)) same ∙ was_none (files start) refl))
      (λ apart. ap (option_and_then index_of) (other_now at apart))
      (same_or_not at start)
    where
      was_none : (o : Option (List PlacedCell)) → files start ≡ o → option_and_then index_of (files start) ≡ None
      was_none None is = ap (option_and_then index_of) is
      was_none (Some cs) is = ap (option_and_then index_of) is ∙ ap (option_and_then index_in) (none_was 9 (λ e. omega (arith, e)) (λ e. omega (arith, e)) cs is)

  indexed_now : (at : CellAt) → AreIndexHomes now.pages (option_and_then index_of (files_now at)) (indexes at)
  indexed_now at =
      subst (λ o. AreIndexHomes now.pages o (indexes at)) (sym (same_index at))
      (index_same d.pages now.pages (option_and_then index_of (files at)) (indexes at)
      (λ k home inside. page_stays number d now files files_now indexes below s (of_index at k) home inside (λ e. cc) (λ e. cc)) (below.chains.indexed at))

  -- ---- cells in use

  was_used : (at : CellAt) → IsHandedOut d.cells at → IsFirstPlace d.frame at ⊎ IsInChain files at
  was_used at out = ⊎_elim
      (λ used. below.chains.used at used.0 (record { member = member_of_table number d now files files_now indexes below s at.vol at.page out.on; table = out.on; stands = used.1 }))
      (λ free. absurd (true≢false (sym ((below.tables.cells.free at).1
      (record { member = member_of_table number d now files files_now indexes below s at.vol at.page out.on; table = out.on; within = out.within; free = free })) ∙ out.taken)))
      (used_or_free d.pages d.cells below.chains.well.together.allocated.belong at out.on out.within)

  in_after : (at : CellAt) → Contains (places after) at → IsInChain files_now at
  in_after at inside = (start, subst (λ o. IsSomeAnd o (λ cs. Contains (places cs) at)) (sym here_now) inside)

  in_chain : (at : CellAt) → IsInChain files at → IsInChain files_now at
  in_chain at inside = ⊎_elim
      (λ same. by_chain (files start) refl (subst (λ (a : CellAt). IsSomeAnd (files a) (λ cs. Contains (places cs) at)) same inside.1))
      (λ apart. (inside.0, subst (λ o. IsSomeAnd o (λ cs. Contains (places cs) at)) (sym (other_now inside.0 apart)) inside.1))
      (same_or_not inside.0 start)
    where
      by_chain : (o : Option (List PlacedCell)) → files start ≡ o → IsSomeAnd o (λ cs. Contains (places cs) at) → IsInChain files_now at
      by_chain None is among = absurd among
      by_chain (Some cs) is among =
          let w = was_chain number d now files files_now indexes below s cs is in
          in_after at (s.sets.sets.kept at (subst (λ (xs : List PlacedCell). Contains (places xs) at) w.3 among))

  used_now : (at : CellAt) (cell : Cell) → IsOnTable now.pages (layout_of now) at cell → IsFirstPlace now.frame at ⊎ IsInChain files_now at
  used_now at cell on = ⊎_elim
      (λ out. ⊎_elim
      (λ first. inl (subst (λ (f : Frame). IsFirstPlace f at) (sym s.frame) first))
      (λ inside. inr (in_chain at inside))
      (was_used at out))
      (λ inside. inr (in_after at inside))
      (s.sets.sets.handed at (record {
        on = on.table;
        within = below_28 now.pages at cell on.stands;
        taken = used_not_free now.cells now.pages well.together.allocated.belong at (used_of now.pages at cell on.stands);
      }))

  -- ---- whose they are, and the list

  named_now : (at : CellAt) (cs : List PlacedCell) → files_now at ≡ Some cs → IsSomebodys now at cs
  named_now at cs is = ⊎_elim
      (λ same. inr (inr (number, quota_mine ∙ ap Some (sym same))))
      (λ apart. ⊎_elim
      (λ it. inl (it.0, it.1, ap (λ (ps : List TagPlace). cell_of now.pages ps it.1) (tags_same it.0) ∙ cell_same it.0 it.1 ∙ it.2))
      (λ rest. ⊎_elim (λ left. inr (inl left)) (λ quota. inr (inr (quota.0, quota_other apart quota.0 quota.1))) rest)
      (below.chains.named at cs (sym (other_now at apart) ∙ is)))
      (same_or_not at start)
    where
      quota_other : ¬ at ≡ start → (n : ℕ) → IsQuotaOf d n at → IsQuotaOf now n at
      quota_other apart n quota = ⊎_elim
          (λ same. absurd (by_first s.entry.quota s.sets.begins (sym (ap (option_and_then quota_of) s.original) ∙ ap (named_by quota_of d) (sym same) ∙ quota)))
          (λ differ. ap (option_and_then quota_of) (item_same n differ) ∙ quota)
          (either n)
        where
          by_first : (o : Option CellAt) → IfSome o (λ a. start ≡ a) → o ≡ Some at → ⊥
          by_first None begins is = none_not at is
          by_first (Some a) begins is = apart (sym (begins ∙ some_same a at is))

  left_none : (cs : List PlacedCell) → first_record 6 cs ≡ None → ¬ is_some (left_of cs) ≡ true
  left_none cs none some = true≢false (sym some ∙ ap (λ o. is_some (option_and_then leftover_in o)) none)

  to_do : (at : CellAt) → IsToDo files_now at → IsOnList now at
  to_do at left = ⊎_elim
      (λ same. absurd (left_none after (none_is 6 (λ e. omega (arith, e)) (λ e. omega (arith, e)))
      (ap (λ o. is_some (option_and_then left_of o)) (sym here_now) ∙ ap (λ (a : CellAt). is_some (option_and_then left_of (files_now a))) (sym same) ∙ left)))
      (λ apart.
      let on = below.chains.to_do at (ap (λ o. is_some (option_and_then left_of o)) (sym (other_now at apart)) ∙ left) in
      (on.0, subst (λ (l : Listing). Contains l.entries on.0) (sym list_same) on.1, on.2))
      (same_or_not at start)

  still_to_do : (at : CellAt) → IsToDo files at → IsToDo files_now at
  still_to_do at left = ⊎_elim
      (λ same. absurd (by_chain (files start) refl (ap (λ (a : CellAt). is_some (option_and_then left_of (files a))) (sym same) ∙ left)))
      (λ apart. ap (λ o. is_some (option_and_then left_of o)) (other_now at apart) ∙ left)
      (same_or_not at start)
    where
      by_chain : (o : Option (List PlacedCell)) → files start ≡ o → is_some (option_and_then left_of (files start)) ≡ true → ⊥
      by_chain None is some = true≢false (sym some ∙ ap (λ o. is_some (option_and_then left_of o)) is)
      by_chain (Some cs) is some = left_none cs (none_was 6 (λ e. omega (arith, e)) (λ e. omega (arith, e)) cs is) (ap (λ o. is_some (option_and_then left_of o)) (sym is) ∙ some)

  listed_now : (at : CellAt) → IsOnList now at → IsToDo files_now at ⊎ IsQuotaToGo now at
  listed_now at on = ⊎_elim
      (λ left. inl (still_to_do at left))
      (λ quota. inr (quota.0, removed_now quota.0 quota.1, ap (option_and_then quota_of) (item_same quota.0 (not_removed quota.0 quota.1)) ∙ quota.2))
      (below.chains.listed at (on.0, subst (λ (l : Listing). Contains l.entries on.0) list_same on.1, on.2))

  tag_pages_now : (home : Home) → Contains now.list.tag_pages home → (n : ℕ) × HasEmptyTags now n
  tag_pages_now home inside =
      let empty = below.chains.tag_pages home (subst (λ (l : Listing). Contains l.tag_pages home) list_same inside) in
      (empty.0, empty_now empty.0 empty.1)

  pub chains_stand : StandChains now files_now indexes
  chains_stand = record {
    well = well;
    slots = slots_now;
    quotas = quotas_now;
    indexed = indexed_now;
    used = used_now;
    named = named_now;
    to_do = to_do;
    listed = listed_now;
    tag_pages = tag_pages_now;
  }
