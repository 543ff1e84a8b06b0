-- What a call on an index leaves of the filesets of other slots.
use Rattle.std.proofs.Common.{◌≡◌, ◌∙◌, ⊎_elim, inl, inr, ℕ, Bool, cond, List, [], ◌∷◌, Option, Some, None, IfSome, IsSomeAnd, refl, sym, ap, subst, arith}
use Rattle.domain_standing.specs.domain_base.declared.place.CellAt.{CellAt}
use Rattle.domain_standing.specs.domain_base.declared.place.Home.{Home}
use Rattle.domain_standing.specs.domain_base.declared.place.Tag.{Tag}
use Rattle.domain_standing.specs.page_store.Pages.{Pages}
use Rattle.domain_standing.specs.metadata_cells.Chain.{PlacedCell}
use Rattle.domain_standing.specs.tag_dirs.Directory.{cell_of}
use Rattle.domain_standing.specs.tag_dirs.declared.dir.TagPlace.{TagPlace}
use Rattle.domain_standing.specs.free_space.Spaces.{Spaces}
use Rattle.domain_standing.specs.file_chains.Files.{IsFile}
use Rattle.domain_standing.proofs.OfFileChains.ChainChanges.{at_apart}
use Rattle.domain_standing.specs.fileset_files.Files.{LeadsToFile}
use Rattle.domain_standing.specs.fileset_model.declared.fileset.FilesetSlot.{FilesetSlot}
use Rattle.domain_standing.specs.fileset_table.declared.slot.FilesetEntry.{FilesetEntry}
use Rattle.domain_standing.specs.fileset_table.declared.slot.SlotItem.TheVariants as slot
use Rattle.domain_standing.specs.release_list.Listing.{Listing}
use Rattle.domain_standing.specs.release_list.Standing.{Files}
use Rattle.domain_standing.proofs.OfReleaseList.Spread.{none_not, some_same}
use Rattle.domain_standing.proofs.OfReleaseList.Standings.{quota_first}
use Rattle.domain_standing.proofs.OfReleaseSteps.StillAmong.{file_of_tag}
use Rattle.domain_standing.proofs.OfReleaseSteps.Tags.{has_attributes}
use Rattle.domain_standing.specs.domain_layout.Filled.{Contents}
use Rattle.domain_standing.specs.domain_layout.Layout.{first_tag_of}
use Rattle.domain_standing.specs.domain_layout.Shape.{FilesetShape}
use Rattle.domain_standing.specs.Chains.{AreQuotasOf, HasFilesAmong, IndexesAt, IsQuotaOf, StandsInSlot}
use Rattle.domain_standing.specs.Domain.{DomainNow, item_in, named_by}
use Rattle.domain_standing.specs.Holders.{Holder, Holds}
use Rattle.domain_standing.specs.Holders.Holder.{of_cells, of_file, of_index, of_tags}
use Rattle.standing_laws.specs.Leads.{StandsBelow}
use Rattle.standing_laws.specs.Slots.{StandsSlot}
use Rattle.standing_laws.specs.SlotsStay.{IsPageOfSlot, IsTaggedBy, KeepsSlot}
use Rattle.standing_laws.proofs.IndexChains.{its, one_fileset}
use Rattle.standing_laws.proofs.IndexSpaces.{held_still}
use Rattle.standing_laws.proofs.IndexTold.{Told, file_was, files_now, indexes_now, led, not_gone, other_now, page_stays, start, there_was, was}
use Rattle.standing_laws.proofs.SlotStays.{slot_stays_so}

module _ (d : DomainNow) (files : Files) (indexes : IndexesAt) (below : StandsBelow d files indexes) (pages : Pages) (contents : Contents) (space : Spaces) (homes : List Home) (t : Told d files indexes pages space homes)
    (bytes : (home : Home) → pages home ≡ d.pages home → contents home ≡ d.contents home) (n : ℕ) (differ : ¬ n ≡ t.number)
  where
    abbrev now : DomainNow
    now = led d files indexes below pages contents space homes t

    abbrev begins : CellAt
    begins = start d files indexes below pages contents space homes t

    abbrev chain : List PlacedCell
    chain = was d files indexes below pages contents space homes t

    abbrev files_then : Files
    files_then = files_now d files indexes below pages contents space homes t

    abbrev indexes_then : IndexesAt
    indexes_then = indexes_now d files indexes below pages contents space homes t

    -- a tag of another slot leads to another file
    module _ (tag : Tag) (at : CellAt) (leads : cell_of d.pages (d.tags n) tag ≡ Some at) where
      in_files : HasFilesAmong d files n → ¬ at ≡ begins
      in_files h = by_chain (h.chains tag) refl
        where
          by_list : (cs : List PlacedCell) → h.chains tag ≡ Some cs → IsFile d.pages at cs → ¬ at ≡ begins
          by_list [] is file = absurd file
          by_list (first ∷ rest) is file = λ same.
              let there = file_of_tag files h.chains tag (first ∷ rest) at (h.among.same tag) is (ap Some file.0) in
              differ (one_fileset d files indexes below pages contents space homes t n differ h tag (first ∷ rest) (its d files indexes below pages contents space homes t n differ h tag (first ∷ rest) is).is_of
              (some_same chain (first ∷ rest) (sym (there_was d files indexes below pages contents space homes t) ∙ ap files (sym same) ∙ there)))

          by_chain : (o : Option (List PlacedCell)) → h.chains tag ≡ o → ¬ at ≡ begins
          by_chain None is = absurd (none_not at (sym (h.are.none tag is) ∙ leads))
          by_chain (Some cs) is = by_list cs is (subst (λ o. IsSomeAnd o (λ a. IsFile d.pages a cs)) leads (subst (λ o. IfSome o (LeadsToFile n (d.tags n) d.pages tag)) is (h.are.some tag)).leads)

      in_slot : (o : Option Home) → StandsInSlot d files n o → ¬ at ≡ begins
      in_slot None empty = absurd (none_not at (sym (ap (λ (ps : List TagPlace). cell_of d.pages ps tag) empty) ∙ leads))
      in_slot (Some first) stands = ⊎_elim in_files (λ e. absurd (none_not at (sym (e.none tag) ∙ leads))) stands

    not_it : (at : CellAt) → IsTaggedBy n d at → ¬ at ≡ begins
    not_it at tagged = in_slot tagged.0 at tagged.1 (named_by first_tag_of d n) (below.chains.slots n)

    -- nor do quota cells begin there
    not_quota : (at : CellAt) → IsQuotaOf d n at → ¬ at ≡ begins
    not_quota at quota same =
        let are = subst (λ o. IsSomeAnd o (AreQuotasOf d n at)) (ap files same ∙ there_was d files indexes below pages contents space homes t) (below.chains.quotas n at quota) in
        has_attributes d.pages begins chain (refl, file_was d files indexes below pages contents space homes t) (quota_first d.pages at chain are.quotas 1 (λ e. omega (arith, e)) (λ e. omega (arith, e)))

    -- the holder of a page of the slot
    record IsOther (home : Home) : Type 0 where
      holder : Holder
      holds : Holds d files indexes holder home
      no_index : (j : ℕ) → ¬ holder ≡ of_index begins j
      no_cells : ¬ holder ≡ of_cells
      no_tags : ¬ holder ≡ of_tags t.number

    number_of : Holder → ℕ
    number_of (of_tags m) = m
    number_of h = 0

    tags_differ : ¬ of_tags n ≡ of_tags t.number
    unfolding number_of
    tags_differ e = differ (ap number_of e)

    other_page : (home : Home) → IsPageOfSlot n d files indexes home → IsOther home
    other_page home of = ⊎_elim
        (λ has. record { holder = of_tags n; holds = has; no_index = λ j e. cc; no_cells = λ e. cc; no_tags = tags_differ })
        (λ rest. ⊎_elim
        (λ f. record { holder = of_file f.0 f.1; holds = f.3; no_index = λ j e. cc; no_cells = λ e. cc; no_tags = λ e. cc })
        (λ i. record { holder = of_index i.0 i.1; holds = i.3; no_index = λ j e. not_it i.0 i.2 (at_of i.0 i.1 j e); no_cells = λ e. cc; no_tags = λ e. cc })
        rest)
        of
      where
        at_of : (at : CellAt) (place j : ℕ) → of_index at place ≡ of_index begins j → at ≡ begins
        at_of at place j e = cc

    page_same : (home : Home) → IsPageOfSlot n d files indexes home → pages home ≡ d.pages home
    page_same home of = let o = other_page home of in page_stays d files indexes below pages contents space homes t o.holder home o.holds o.no_index o.no_cells o.no_tags

    keeps_told : KeepsSlot n d now files files_then indexes indexes_then
    keeps_told = record {
      item = refl;
      tags = refl;
      chains = λ at tagged. other_now d files indexes below pages contents space homes t at (not_it at tagged);
      quotas = λ at quota. other_now d files indexes below pages contents space homes t at (not_quota at quota);
      homes = λ at tagged. ap (λ (b : Bool). cond b homes (indexes at)) (at_apart at begins (not_it at tagged));
      pages = page_same;
      held = λ home of low held.
          let o = other_page home of in
          held_still t.comes t.goes d.space space t.spaces home low (not_gone d files indexes below pages contents space homes t o.holder home o.holds o.no_index) held;
      bytes = λ home of. bytes home (page_same home (inr (inl of)));
    }

    pub slot_told : StandsBelow now files_then indexes_then → (entry : FilesetEntry) (shape : FilesetShape) (fileset : FilesetSlot) → item_in d n ≡ Some (slot.Original entry) → StandsSlot d n entry shape fileset → StandsSlot now n entry shape fileset
    slot_told after entry shape fileset there stood = slot_stays_so n d now files files_then indexes indexes_then below after keeps_told entry shape fileset there stood

    -- and with another list
    pub slot_listed : (listed : Listing) → StandsBelow (record now { list = listed }) files_then indexes_then → (entry : FilesetEntry) (shape : FilesetShape) (fileset : FilesetSlot) → item_in d n ≡ Some (slot.Original entry) → StandsSlot d n entry shape fileset
        → StandsSlot (record now { list = listed }) n entry shape fileset
    slot_listed listed after entry shape fileset there stood =
        let k : KeepsSlot n d now files files_then indexes indexes_then = keeps_told in
        slot_stays_so n d (record now { list = listed }) files files_then indexes indexes_then below after
        (record { item = k.item; tags = k.tags; chains = k.chains; quotas = k.quotas; homes = k.homes; pages = k.pages; held = k.held; bytes = k.bytes }) entry shape fileset there stood
