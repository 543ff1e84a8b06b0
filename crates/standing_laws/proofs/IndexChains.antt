-- The chains of a domain once the first cell of a file and the pages of its index have changed.
use Rattle.std.proofs.Common.{◌≡◌, ◌∙◌, ◌⊎◌, ⊎_elim, inl, inr, ℕ, ◌==◌, Bool, false, cond, List, [], ◌∷◌, Option, Some, None, IfSome, IsSomeAnd, Contains, is_some, slice_get, refl, sym, ap, subst, arith, eqb-true}
use Rattle.std.proofs.lemmas.Bool.{both_ways, cases_Bool, eq-eqb}
use Rattle.std.specs.Option.{option_and_then}
use Rattle.domain_standing.specs.domain_base.declared.place.CellAt.{CellAt}
use Rattle.domain_standing.specs.domain_base.declared.place.Home.{Home}
use Rattle.domain_standing.specs.domain_base.declared.place.Tag.{Tag}
use Rattle.domain_standing.specs.page_store.Bitfiles.{same_tag}
use Rattle.domain_standing.specs.page_store.Pages.{Pages}
use Rattle.domain_standing.specs.metadata_cells.Cell.{Cell}
use Rattle.domain_standing.specs.metadata_cells.Chain.{PlacedCell, places as cell_places}
use Rattle.domain_standing.specs.tag_dirs.Directory.{cell_of}
use Rattle.domain_standing.specs.free_space.Spaces.{Spaces}
use Rattle.domain_standing.specs.file_chains.Files.{IsFile}
use Rattle.domain_standing.proofs.OfFileChains.ChainChanges.{at_apart, in_first}
use Rattle.domain_standing.specs.fileset_files.Files.{IsOf, LeadsToFile, first_record}
use Rattle.domain_standing.specs.fileset_files.Shown.{index_of}
use Rattle.domain_standing.proofs.OfFilesetFiles.OneFile.{tags_same}
use Rattle.domain_standing.proofs.OfFilesetFiles.Tags.{cell_same, directory_same, pages_same}
use Rattle.domain_standing.specs.index_pages.Homes.{AreIndexHomes}
use Rattle.domain_standing.proofs.OfIndexPages.Homes.{kept_same}
use Rattle.domain_standing.specs.fileset_table.declared.slot.SlotItem.{SlotItem}
use Rattle.domain_standing.specs.release_list.Listed.{left_of}
use Rattle.domain_standing.specs.release_list.Standing.{Files, IsFileOrQuotas, IsQuotas, IsStanding}
use Rattle.domain_standing.specs.release_list.Steps.{IsWell}
use Rattle.domain_standing.proofs.OfReleaseList.Spread.{none_not, some_same}
use Rattle.domain_standing.proofs.OfReleaseList.Standings.{at_itself, is_file, quota_first, same_or_not, standing}
use Rattle.domain_standing.specs.release_steps.Tags.{AreAmong, start_of}
use Rattle.domain_standing.proofs.OfReleaseSteps.FirstWell.{StaysLive}
use Rattle.domain_standing.proofs.OfReleaseSteps.Tags.{IsNamed, file_start, has_attributes, named}
use Rattle.domain_standing.specs.domain_layout.CellRules.{IsFirstPlace}
use Rattle.domain_standing.specs.domain_layout.Filled.{Contents}
use Rattle.domain_standing.specs.domain_layout.Layout.{AreTagPlaces, first_tag_of}
use Rattle.domain_standing.specs.domain_layout.Owners.{IsOnTable}
use Rattle.domain_standing.specs.Chains.{AreQuotasOf, HasEmptyTags, HasFilesAmong, IndexesAt, IsInChain, IsOnList, IsQuotaOf, IsQuotaToGo, IsSomebodys, IsTagged, IsToDo, StandsInSlot}
use Rattle.domain_standing.specs.Domain.{DomainNow, all_of, layout_of, named_by}
use Rattle.domain_standing.specs.Holders.Holder.{of_index}
use Rattle.standing_laws.specs.Leads.{StandsBelow}
use Rattle.standing_laws.proofs.ChainsNamed.{leads_there}
use Rattle.standing_laws.proofs.HomeLists.{in_get}
use Rattle.standing_laws.proofs.IndexTold.{Told, after, cell_was, file_was, files_now, indexes_now, led, other_now, other_tag_page, page_stays, same_places, start, there_now, there_was, was}
use Rattle.standing_laws.proofs.IndexWell.{among_now, well_now}

-- all of the chains but that what is left to be done of one file is on the list
pub record ChainsBut (d : DomainNow) (files : Files) (indexes : IndexesAt) (start : CellAt) : Type 0 where
  pub well : IsWell (all_of d files)
  pub slots : (number : ℕ) → StandsInSlot d files number (named_by first_tag_of d number)
  pub quotas : (number : ℕ) (at : CellAt) → IsQuotaOf d number at → IsSomeAnd (files at) (AreQuotasOf d number at)
  pub indexed : (at : CellAt) → AreIndexHomes d.pages (option_and_then index_of (files at)) (indexes at)
  pub used : (at : CellAt) (cell : Cell) → IsOnTable d.pages (layout_of d) at cell → IsFirstPlace d.frame at ⊎ IsInChain files at
  pub named : (at : CellAt) (chain : List PlacedCell) → files at ≡ Some chain → IsSomebodys d at chain
  pub to_do : (at : CellAt) → ¬ at ≡ start → IsToDo files at → IsOnList d at
  pub listed : (at : CellAt) → IsOnList d at → IsToDo files at ⊎ IsQuotaToGo d at
  pub tag_pages : (home : Home) → Contains d.list.tag_pages home → (number : ℕ) × HasEmptyTags d number

module _ (d : DomainNow) (files : Files) (indexes : IndexesAt) (below : StandsBelow d files indexes) (pages : Pages) (contents : Contents) (space : Spaces) (homes : List Home) (t : Told d files indexes pages space homes) where
  abbrev now : DomainNow
  now = led d files indexes below pages contents space homes t

  abbrev begins : CellAt
  begins = start d files indexes below pages contents space homes t

  abbrev chain : List PlacedCell
  chain = was d files indexes below pages contents space homes t

  abbrev chain_now : List PlacedCell
  chain_now = after d files indexes below pages contents space homes t

  abbrev files_then : Files
  files_then = files_now d files indexes below pages contents space homes t

  abbrev indexes_then : IndexesAt
  indexes_then = indexes_now d files indexes below pages contents space homes t

  other : (at : CellAt) → ¬ at ≡ begins → files_then at ≡ files at
  other = other_now d files indexes below pages contents space homes t

  there : files_then begins ≡ Some chain_now
  there = there_now d files indexes below pages contents space homes t

  stands : (at : CellAt) (cs : List PlacedCell) → files_then at ≡ Some cs → IsStanding d.cells pages at cs
  stands at cs is = standing space d.cells pages files_then (well_now d files indexes below pages contents space homes t).together at cs is

  -- a chain that is none of the file's
  other_chain : (at : CellAt) (cs : List PlacedCell) → files at ≡ Some cs → ¬ chain ≡ cs → files_then at ≡ Some cs
  other_chain at cs is differ =
      other at (λ same. differ (some_same chain cs (sym (there_was d files indexes below pages contents space homes t) ∙ ap files (sym same) ∙ is))) ∙ is

  pub its_fileset : LeadsToFile t.number (d.tags t.number) d.pages t.tag chain
  its_fileset = subst (λ o. IfSome o (LeadsToFile t.number (d.tags t.number) d.pages t.tag)) t.is (t.well.together.files.some t.tag)

  -- ---- quota cells

  quotas_told : (n : ℕ) (at : CellAt) → IsQuotaOf d n at → IsSomeAnd (files_then at) (AreQuotasOf now n at)
  quotas_told n at quota = by_chain (files at) refl (below.chains.quotas n at quota)
    where
      by_chain : (o : Option (List PlacedCell)) → files at ≡ o → IsSomeAnd o (AreQuotasOf d n at) → IsSomeAnd (files_then at) (AreQuotasOf now n at)
      by_chain None is are = absurd are
      by_chain (Some cs) is are = subst (λ o. IsSomeAnd o (AreQuotasOf now n at)) (sym stays) (record { quotas = quotas (stands at cs stays).stands; of = are.of; once = are.once })
        where
          no_attributes : first_record 1 cs ≡ None
          no_attributes = quota_first d.pages at cs are.quotas 1 (λ e. omega (arith, e)) (λ e. omega (arith, e))

          stays : files_then at ≡ Some cs
          stays = other_chain at cs is
              (λ same. has_attributes d.pages begins chain (refl, file_was d files indexes below pages contents space homes t) (ap (first_record 1) same ∙ no_attributes))

          quotas : IsFileOrQuotas pages at cs → IsQuotas pages at cs
          quotas either = ⊎_elim (λ file. absurd (has_attributes pages at cs file no_attributes)) (λ are_now. are_now) either

  -- ---- slots

  pub cells_lead : (n : ℕ) → ¬ n ≡ t.number → (tag : Tag) → cell_of pages (d.tags n) tag ≡ cell_of d.pages (d.tags n) tag
  cells_lead n differ tag = by_item (slice_get d.table.slots n) refl
    where
      nothing : d.tags n ≡ [] → cell_of pages (d.tags n) tag ≡ cell_of d.pages (d.tags n) tag
      nothing none = ap (λ ps. cell_of pages ps tag) none ∙ sym (ap (λ ps. cell_of d.pages ps tag) none)

      by_first : (o : Option Home) → AreTagPlaces d.pages o (d.tags n) → cell_of pages (d.tags n) tag ≡ cell_of d.pages (d.tags n) tag
      by_first None none = nothing none
      by_first (Some first) are = cell_same d.pages pages (d.tags n) are.directory (pages_same d.pages pages (d.tags n) (other_tag_page d files indexes below pages contents space homes t n differ)) tag

      by_item : (o : Option SlotItem) → slice_get d.table.slots n ≡ o → cell_of pages (d.tags n) tag ≡ cell_of d.pages (d.tags n) tag
      by_item None at = nothing (subst (λ o. StandsInSlot d files n (option_and_then first_tag_of o)) at (below.chains.slots n))
      by_item (Some item) at = by_first (first_tag_of item) (below.tables.laid.tags n item at)

  module _ (n : ℕ) (differ : ¬ n ≡ t.number) (has : HasFilesAmong d files n) where
    each : (tag : Tag) (P : Option (List PlacedCell) → Type 0) → P None → ((cs : List PlacedCell) → has.chains tag ≡ Some cs → P (Some cs)) → P (has.chains tag)
    each tag P nothing some = by_chain (has.chains tag) refl
      where
        by_chain : (o : Option (List PlacedCell)) → has.chains tag ≡ o → P o
        by_chain None at = nothing
        by_chain (Some cs) at = some cs at

    pub its : (tag : Tag) (cs : List PlacedCell) → has.chains tag ≡ Some cs → LeadsToFile n (d.tags n) d.pages tag cs
    its tag cs at = subst (λ o. IfSome o (LeadsToFile n (d.tags n) d.pages tag)) at (has.are.some tag)

    pub one_fileset : (tag : Tag) (cs : List PlacedCell) → IsOf n tag cs → chain ≡ cs → n ≡ t.number
    one_fileset tag cs theirs same = by_first cs (subst (IsOf t.number t.tag) same its_fileset.is_of) theirs
      where
        by_first : (ys : List PlacedCell) → IsOf t.number t.tag ys → IsOf n tag ys → n ≡ t.number
        by_first [] a b = absurd a
        by_first (first ∷ rest) a b = some_same n t.number (sym b.2 ∙ a.2)

    named_now : (tag : Tag) (cs : List PlacedCell) → has.chains tag ≡ Some cs → IsNamed files_then cs
    named_now tag cs at =
        let m = named files has.chains tag cs at (has.among.same tag) in
        record { at = m.at; start = m.start; is = other_chain m.at cs m.is (λ same. differ (one_fileset tag cs (its tag cs at).is_of same)) }

    leads_now : (tag : Tag) (cs : List PlacedCell) → has.chains tag ≡ Some cs → LeadsToFile n (d.tags n) pages tag cs
    leads_now tag cs at = record {
      leads = subst (λ o. IsSomeAnd o (λ a. IsFile pages a cs)) (sym (cells_lead n differ tag)) (by_cell (cell_of d.pages (d.tags n) tag) (its tag cs at).leads);
      is_of = (its tag cs at).is_of;
      kinds = (its tag cs at).kinds;
    }
      where
        m : IsNamed files_then cs
        m = named_now tag cs at

        by_cell : (o : Option CellAt) → IsSomeAnd o (λ a. IsFile d.pages a cs) → IsSomeAnd o (λ a. IsFile pages a cs)
        by_cell None leads = leads
        by_cell (Some a) leads = subst (λ (b : CellAt). IsFile pages b cs) (sym (file_start d.pages a m.at cs leads m.start))
            (is_file pages m.at cs (stands m.at cs m.is).stands 1 (λ e. omega (arith, e)) (λ e. omega (arith, e)) (has_attributes d.pages a cs leads))

    other_slot : HasFilesAmong now files_then n
    other_slot = record {
      chains = has.chains;
      are = record {
        directory = directory_same d.pages pages (d.tags n) has.are.directory (pages_same d.pages pages (d.tags n) (other_tag_page d files indexes below pages contents space homes t n differ));
        none = λ tag at. cells_lead n differ tag ∙ has.are.none tag at;
        some = λ tag. each tag (λ o. IfSome o (LeadsToFile n (d.tags n) pages tag)) tt (λ cs at. leads_now tag cs at);
        apart = has.are.apart;
      };
      among = record {
        same = λ tag. each tag (λ o. option_and_then files_then (option_and_then start_of o) ≡ o) refl
            (λ cs at. let m = named_now tag cs at in ap (option_and_then files_then) m.start ∙ m.is);
        live = has.among.live;
        trimmed = has.among.trimmed;
        low = has.among.low;
        no_tags = λ at page home is. has.among.no_tags at page home (sym (same_places d files indexes below pages contents space homes t at page) ∙ is);
        not_listed = has.among.not_listed;
      };
    }

  pub among_own : AreAmong (all_of now files_then) (d.tags t.number) t.chains_now
  among_own =
      let among = among_now d files indexes below pages contents space homes t in
      record { same = among.same; live = among.live; trimmed = among.trimmed; low = among.low; no_tags = among.no_tags; not_listed = among.not_listed }

  own_slot : HasFilesAmong now files_then t.number
  own_slot = record { chains = t.chains_now; are = t.are; among = among_own }

  -- the file's tag leads to a cell, so its slot has tags
  not_empty : (n : ℕ) → HasEmptyTags d n → ¬ n ≡ t.number
  not_empty n empty same = none_not t.first.at
      (sym (empty.none t.tag) ∙ ap (λ (k : ℕ). cell_of d.pages (d.tags k) t.tag) same ∙ leads_there t.number (d.tags t.number) d.pages t.chains t.well.together.files t.tag (t.first ∷ t.rest) t.first.at t.is refl)

  empty_now : (n : ℕ) → HasEmptyTags d n → HasEmptyTags now n
  empty_now n empty = record { removed = empty.removed; none = λ tag. cells_lead n (not_empty n empty) tag ∙ empty.none tag; listed = empty.listed }

  by_first : (n : ℕ) → ¬ n ≡ t.number → (o : Option Home) → StandsInSlot d files n o → StandsInSlot now files_then n o
  by_first n differ None none = none
  by_first n differ (Some first) stood = ⊎_elim (λ has. inl (other_slot n differ has)) (λ empty. inr (empty_now n empty)) stood

  pub number_or_not : (n : ℕ) → (n ≡ t.number) ⊎ (¬ n ≡ t.number)
  number_or_not n = ⊎_elim
      (λ same. inl (eqb-true n t.number same))
      (λ apart. inr (λ same. both_ways (n == t.number) apart (eq-eqb n t.number same)))
      (cases_Bool (n == t.number))

  own_stands : (o : Option Home) → StandsInSlot d files t.number o → StandsInSlot now files_then t.number o
  own_stands None none = none
  own_stands (Some first) stood = inl own_slot

  slots_told : (n : ℕ) → StandsInSlot now files_then n (named_by first_tag_of d n)
  slots_told n = ⊎_elim
      (λ same. subst (λ (k : ℕ). StandsInSlot now files_then k (named_by first_tag_of d k)) (sym same)
      (own_stands (named_by first_tag_of d t.number) (below.chains.slots t.number)))
      (λ differ. by_first n differ (named_by first_tag_of d n) (below.chains.slots n))
      (number_or_not n)

  -- ---- indexes

  indexed_told : (at : CellAt) → AreIndexHomes pages (option_and_then index_of (files_then at)) (indexes_then at)
  indexed_told at = ⊎_elim
      (λ same. subst (λ (a : CellAt). AreIndexHomes pages (option_and_then index_of (files_then a)) (indexes_then a)) (sym same)
      (subst (λ o. AreIndexHomes pages (option_and_then index_of o) (indexes_then begins)) (sym there)
      (subst (AreIndexHomes pages (index_of chain_now)) (sym (ap (λ (b : Bool). cond b homes (indexes begins)) (at_itself begins))) t.indexed)))
      (λ apart.
      subst (λ o. AreIndexHomes pages (option_and_then index_of o) (indexes_then at)) (sym (other at apart))
      (subst (AreIndexHomes pages (option_and_then index_of (files at))) (sym (ap (λ (b : Bool). cond b homes (indexes at)) (at_apart at begins apart)))
      (kept_same d.pages pages (option_and_then index_of (files at)) (indexes at) (below.chains.indexed at)
      (λ home inside. let k = in_get (indexes at) home inside in page_stays d files indexes below pages contents space homes t (of_index at k.0) home k.1 (λ j e. apart (at_of e)) (λ e. cc) (λ e. cc)))))
      (same_or_not at begins)
    where
      at_of : {j k : ℕ} → of_index at k ≡ of_index begins j → at ≡ begins
      at_of e = cc

  -- ---- cells in use

  used_told : (at : CellAt) (cell : Cell) → IsOnTable pages (layout_of now) at cell → IsFirstPlace d.frame at ⊎ IsInChain files_then at
  used_told at cell on = ⊎_elim
      (λ same. inr (begins, subst (λ o. IsSomeAnd o (λ cs. Contains (cell_places cs) at)) (sym there) (in_first at (record { at = begins; cell = t.says t.first.cell }) t.rest (sym same))))
      (λ apart. ⊎_elim
      (λ first. inl first)
      (λ inside. inr (in_chain inside))
      (below.chains.used at cell (record { member = on.member; table = on.table; stands = cell_was d files indexes below pages contents space homes t at cell on.table apart on.stands })))
      (same_or_not at begins)
    where
      in_chain : IsInChain files at → IsInChain files_then at
      in_chain inside = ⊎_elim
          (λ same. (
            begins,
            subst (λ o. IsSomeAnd o (λ cs. Contains (cell_places cs) at)) (sym there)
                (subst (λ o. IsSomeAnd o (λ cs. Contains (cell_places cs) at)) (there_was d files indexes below pages contents space homes t) (subst (λ (a : CellAt). IsSomeAnd (files a) (λ cs. Contains (cell_places cs) at)) same inside.1)),
          ))
          (λ apart. (inside.0, subst (λ o. IsSomeAnd o (λ cs. Contains (cell_places cs) at)) (sym (other inside.0 apart)) inside.1))
          (same_or_not inside.0 begins)

  -- ---- whose a chain is

  own_tagged : (at : CellAt) → ¬ at ≡ begins → (tag : Tag) → cell_of d.pages (d.tags t.number) tag ≡ Some at → IsTagged now at
  own_tagged at apart tag leads = by_chain (t.chains tag) refl
    where
      by_chain : (o : Option (List PlacedCell)) → t.chains tag ≡ o → IsTagged now at
      by_chain None none = absurd (none_not at (sym (t.well.together.files.none tag none) ∙ leads))
      by_chain (Some cs) some = ⊎_elim (λ same. absurd (apart (not_tag (tags_same tag t.tag same)))) (λ differ. elsewhere differ) (cases_Bool (same_tag tag t.tag))
        where
          n : IsNamed files cs
          n = named files t.chains tag cs some (t.well.among.same tag)

          starts : start_of cs ≡ Some at
          starts = n.start ∙ sym (leads_there t.number (d.tags t.number) d.pages t.chains t.well.together.files tag cs n.at some n.start) ∙ leads

          not_tag : tag ≡ t.tag → at ≡ begins
          not_tag same = some_same at begins (sym starts ∙ ap start_of (some_same cs chain (sym some ∙ ap t.chains same ∙ t.is)))

          elsewhere : same_tag tag t.tag ≡ false → IsTagged now at
          elsewhere differ = (t.number, tag, leads_there t.number (d.tags t.number) pages t.chains_now t.are tag cs at (t.others tag differ ∙ some) starts)

  tagged_now : (at : CellAt) → ¬ at ≡ begins → IsTagged d at → IsTagged now at
  tagged_now at apart it = ⊎_elim
      (λ same. own_tagged at apart it.1 (subst (λ (n : ℕ). cell_of d.pages (d.tags n) it.1 ≡ Some at) same it.2))
      (λ differ. (it.0, it.1, cells_lead it.0 differ it.1 ∙ it.2))
      (number_or_not it.0)

  named_told : (at : CellAt) (cs : List PlacedCell) → files_then at ≡ Some cs → IsSomebodys now at cs
  named_told at cs is = ⊎_elim
      (λ same.
      let chain_is : chain_now ≡ cs = some_same chain_now cs (sym there ∙ ap files_then (sym same) ∙ is) in
      ⊎_elim
      (λ live. inl (t.number, t.tag, leads_there t.number (d.tags t.number) pages t.chains_now t.are t.tag chain_now at live.0 (ap Some (sym same))))
      (λ gone. inr (inl (ap left_of (sym chain_is) ∙ gone.1)))
      t.whose)
      (λ apart. ⊎_elim
      (λ it. inl (tagged_now at apart it))
      (λ rest. inr (⊎_elim (λ left. inl left) (λ quota. inr (quota.0, quota.1)) rest))
      (below.chains.named at cs (sym (other at apart) ∙ is)))
      (same_or_not at begins)

  -- ---- the list

  left_now : IsToDo files begins → IsToDo files_then begins
  left_now left = ⊎_elim
      (λ live. on_list (below.chains.to_do begins left) live.1)
      (λ gone. ap (λ o. is_some (option_and_then left_of o)) there ∙ ap is_some gone.1)
      t.whose
    where
      on_list : IsOnList d begins → StaysLive t.says t.first.cell → IsToDo files_then begins
      on_list on live =
          ap (λ o. is_some (option_and_then left_of o)) there
          ∙ ap is_some (live.trim (ap (option_and_then left_of) (sym t.is) ∙ t.well.among.trimmed on.0 on.1 t.tag (ap (option_and_then start_of) t.is ∙ ap Some (sym on.2))))

  listed_told : (at : CellAt) → IsOnList now at → IsToDo files_then at ⊎ IsQuotaToGo now at
  listed_told at on = ⊎_elim
      (λ left. inl (⊎_elim
      (λ same. subst (IsToDo files_then) (sym same) (left_now (subst (IsToDo files) same left)))
      (λ apart. ap (λ o. is_some (option_and_then left_of o)) (other at apart) ∙ left)
      (same_or_not at begins)))
      (λ quota. inr (quota.0, quota.1, quota.2))
      (below.chains.listed at (on.0, on.1, on.2))

  to_do_told : (at : CellAt) → ¬ at ≡ begins → IsToDo files_then at → IsOnList now at
  to_do_told at apart left = let on = below.chains.to_do at (sym (ap (λ o. is_some (option_and_then left_of o)) (other at apart)) ∙ left) in (on.0, on.1, on.2)

  tag_pages_told : (home : Home) → Contains d.list.tag_pages home → (n : ℕ) × HasEmptyTags now n
  tag_pages_told home inside = let empty = below.chains.tag_pages home inside in (empty.0, empty_now empty.0 empty.1)

  well_told : IsWell (all_of now files_then)
  well_told = let well = well_now d files indexes below pages contents space homes t in record { together = well.together; listed = well.listed }

  pub chains_told : ChainsBut now files_then indexes_then begins
  chains_told = record {
    well = well_told;
    slots = slots_told;
    quotas = quotas_told;
    indexed = indexed_told;
    used = used_told;
    named = named_told;
    to_do = to_do_told;
    listed = listed_told;
    tag_pages = tag_pages_told;
  }
