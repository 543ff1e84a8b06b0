-- The slots of a domain after a call on a tag, and their quota cells.
use Rattle.std.proofs.Common.{◌≡◌, ◌∙◌, ◌⊎◌, ℕ, false, List, [], ◌∷◌, Option, Some, None, IfSome, IsSomeAnd, Contains, inl, inr, slice_get, refl, sym, ap, subst, arith, ⊎_elim}
use Rattle.std.proofs.lemmas.Bool.{cases_Bool}
use Rattle.std.specs.Option.{option_and_then}
use Rattle.domain_standing.specs.domain_base.declared.place.CellAt.{CellAt}
use Rattle.domain_standing.specs.domain_base.declared.place.Home.{Home}
use Rattle.domain_standing.specs.domain_base.declared.place.Tag.{Tag}
use Rattle.domain_standing.specs.metadata_cells.Chain.{PlacedCell}
use Rattle.domain_standing.specs.tag_dirs.declared.dir.TagPlace.{TagPlace}
use Rattle.domain_standing.specs.tag_dirs.Directory.{cell_of, has_home}
use Rattle.domain_standing.specs.extent_maps.declared.run.PagePlace.TheVariants.{At}
use Rattle.domain_standing.specs.file_chains.Files.{IsFile}
use Rattle.domain_standing.specs.fileset_files.Files.{AreFiles, Chains, IsOf, LeadsToFile, first_record}
use Rattle.domain_standing.proofs.OfFilesetFiles.Tags.{directory_same, pages_same}
use Rattle.domain_standing.specs.fileset_table.Table.{Table}
use Rattle.domain_standing.specs.release_list.Listing.{Listing}
use Rattle.domain_standing.specs.release_list.Standing.{Files, IsQuotas, IsStanding, place_in}
use Rattle.domain_standing.specs.release_list.Steps.{IsWell}
use Rattle.domain_standing.proofs.OfReleaseList.Spread.{none_not, some_same}
use Rattle.domain_standing.proofs.OfReleaseList.Standings.{is_file, quota_first, standing}
use Rattle.domain_standing.specs.release_steps.Calls.{FilesetNow, Refuses, StandsWell}
use Rattle.domain_standing.specs.release_steps.Tags.{AreAmong, start_of}
use Rattle.domain_standing.proofs.OfReleaseSteps.CallsWell.{stands_call}
use Rattle.domain_standing.proofs.OfReleaseSteps.Tags.{IsNamed, file_start, has_attributes, named}
use Rattle.domain_standing.specs.domain_layout.Layout.{first_tag_of}
use Rattle.domain_standing.specs.Chains.{AreQuotasOf, HasFilesAmong, IndexesAt, IsQuotaOf, StandsInSlot}
use Rattle.domain_standing.specs.Domain.{DomainNow, all_of}
use Rattle.domain_standing.specs.Holders.{HoldsOwned}
use Rattle.domain_standing.specs.Holders.Holder.{of_file, of_tags}
use Rattle.standing_laws.specs.Leads.{LeadsOn, StandsBelow, fileset_now}
use Rattle.standing_laws.proofs.ChainsGoOn.{ChainGoesOn}
use Rattle.standing_laws.proofs.ChainsNamed.{cell_stays, empty_now, list_same, number_or_not, quota_was}
use Rattle.standing_laws.proofs.ChainsStand.{chain_goes, other_now, was_there}
use Rattle.standing_laws.proofs.HeldStill.{owned_still}
use Rattle.standing_laws.proofs.TablesStand.{other_tag_page}

module _ (number : ℕ) (tag : Tag) (d now : DomainNow) (chains chains_now : Chains) (files files_now : Files) (indexes : IndexesAt) (below : StandsBelow d files indexes) (s : LeadsOn number tag d now chains chains_now files files_now) where
  abbrev was : FilesetNow
  was = fileset_now d number chains files

  abbrev is : FilesetNow
  is = fileset_now now number chains_now files_now

  pub stood_now : StandsWell number is
  stood_now = stands_call number d.frame.version tag was is s.well s.call

  pub well_now : IsWell (all_of now files_now)
  well_now = stood_now.well

  -- a file that does not begin where the tag's did, or none did, has the chain that it had
  other_file : (at : CellAt) (cs : List PlacedCell) → files at ≡ Some cs
      → ((xs : List PlacedCell) → chains tag ≡ Some xs → ¬ xs ≡ cs) → files_now at ≡ Some cs
  other_file at cs there differ = ⊎_elim
      (λ (r : Refuses was is). ap (λ (f : Files). f at) r.files ∙ there)
      (λ g. other_now number tag d now chains chains_now files files_now indexes below s g at (apart g) ∙ there)
      (chain_goes number tag d now chains chains_now files files_now indexes below s)
    where
      apart : (g : ChainGoesOn tag was is) → ¬ at ≡ g.start
      apart g same = ⊎_elim
          (λ fresh. none_not cs (sym fresh.none ∙ ap files (sym same) ∙ there))
          (λ f. differ f.0 f.1.is (some_same f.0 cs (sym (was_there number tag d now chains chains_now files files_now indexes below s g f.0 f.1) ∙ ap files (sym same) ∙ there)))
          g.from

  -- the tag's chain is of its fileset, and a file's
  tag_leads : (xs : List PlacedCell) → chains tag ≡ Some xs → LeadsToFile number (d.tags number) d.pages tag xs
  tag_leads xs some = subst (λ o. IfSome o (LeadsToFile number (d.tags number) d.pages tag)) some (s.well.together.files.some tag)

  stands : (at : CellAt) (cs : List PlacedCell) → files_now at ≡ Some cs → IsStanding now.cells now.pages at cs
  stands at cs there = standing now.space now.cells now.pages files_now well_now.together at cs there

  -- ---- quota cells

  file_attributes : (xs : List PlacedCell) → chains tag ≡ Some xs → (o : Option CellAt) → IsSomeAnd o (λ at. IsFile d.pages at xs) → ¬ first_record 1 xs ≡ None
  file_attributes xs some None leads = absurd leads
  file_attributes xs some (Some at) leads = has_attributes d.pages at xs leads

  -- those that begin there stay
  module _ (n : ℕ) (at : CellAt) (cs : List PlacedCell) (there : files at ≡ Some cs) (are : AreQuotasOf d n at cs) where
    no_attributes : first_record 1 cs ≡ None
    no_attributes = quota_first d.pages at cs are.quotas 1 (λ e. omega (arith, e)) (λ e. omega (arith, e))

    not_of_tag : (xs : List PlacedCell) → chains tag ≡ Some xs → ¬ xs ≡ cs
    not_of_tag xs some same = file_attributes xs some (cell_of d.pages (d.tags number) tag) (tag_leads xs some).leads (ap (first_record 1) same ∙ no_attributes)

    quotas_there : files_now at ≡ Some cs
    quotas_there = other_file at cs there not_of_tag

    pub quotas_stay : IsQuotas now.pages at cs
    quotas_stay = ⊎_elim (λ file. absurd (has_attributes now.pages at cs file no_attributes)) (λ are_now. are_now) (stands at cs quotas_there).stands

  pub quotas_now : (n : ℕ) (at : CellAt) → IsQuotaOf now n at → IsSomeAnd (files_now at) (AreQuotasOf now n at)
  quotas_now n at quota = by_chain (files at) refl (below.chains.quotas n at (quota_was number tag d now chains chains_now files files_now indexes below s n at quota))
    where
      by_chain : (o : Option (List PlacedCell)) → files at ≡ o → IsSomeAnd o (AreQuotasOf d n at) → IsSomeAnd (files_now at) (AreQuotasOf now n at)
      by_chain None there are = absurd are
      by_chain (Some cs) there are = subst (λ o. IsSomeAnd o (AreQuotasOf now n at)) (sym (quotas_there n at cs there are)) (record { quotas = quotas_stay n at cs there are; of = are.of; once = are.once })

  -- ---- another slot

  module _ (n : ℕ) (differ : ¬ n ≡ number) (has : HasFilesAmong d files n) where
    -- of each tag that names one
    each : (t : Tag) (P : Option (List PlacedCell) → Type 0) → P None → ((cs : List PlacedCell) → has.chains t ≡ Some cs → P (Some cs)) → P (has.chains t)
    each t P nothing some = by_chain (has.chains t) refl
      where
        by_chain : (o : Option (List PlacedCell)) → has.chains t ≡ o → P o
        by_chain None at = nothing
        by_chain (Some cs) at = some cs at

    its : (t : Tag) (cs : List PlacedCell) → has.chains t ≡ Some cs → LeadsToFile n (d.tags n) d.pages t cs
    its t cs at = subst (λ o. IfSome o (LeadsToFile n (d.tags n) d.pages t)) at (has.are.some t)

    one_fileset : (t : Tag) (xs cs : List PlacedCell) → IsOf number tag xs → IsOf n t cs → xs ≡ cs → n ≡ number
    one_fileset t xs cs mine theirs same = by_first cs (subst (IsOf number tag) same mine) theirs
      where
        by_first : (ys : List PlacedCell) → IsOf number tag ys → IsOf n t ys → n ≡ number
        by_first [] a b = absurd a
        by_first (first ∷ rest) a b = some_same n number (sym b.2 ∙ a.2)

    there_now : (t : Tag) (cs : List PlacedCell) → has.chains t ≡ Some cs → IsNamed files_now cs
    there_now t cs at =
        let m = named files has.chains t cs at (has.among.same t) in
        record { at = m.at; start = m.start; is = other_file m.at cs m.is (λ xs some same. differ (one_fileset t xs cs (tag_leads xs some).is_of (its t cs at).is_of same)) }

    tags_stay : (k : ℕ) → IfSome (slice_get (d.tags n) k) (λ place. now.pages place.home ≡ d.pages place.home)
    tags_stay = pages_same d.pages now.pages (d.tags n) (other_tag_page number tag d now chains chains_now files files_now indexes below s n differ)

    cells_lead : (t : Tag) → cell_of now.pages (d.tags n) t ≡ cell_of d.pages (d.tags n) t
    cells_lead t = ap (λ (ps : List TagPlace). cell_of now.pages ps t) (sym (s.tags n differ)) ∙ cell_stays number tag d now chains chains_now files files_now indexes below s n differ t

    leads_now : (t : Tag) (cs : List PlacedCell) → has.chains t ≡ Some cs → LeadsToFile n (d.tags n) now.pages t cs
    leads_now t cs at = record {
      leads = subst (λ o. IsSomeAnd o (λ a. IsFile now.pages a cs)) (sym (cells_lead t)) (by_cell (cell_of d.pages (d.tags n) t) (its t cs at).leads);
      is_of = (its t cs at).is_of;
      kinds = (its t cs at).kinds;
    }
      where
        m : IsNamed files_now cs
        m = there_now t cs at

        by_cell : (o : Option CellAt) → IsSomeAnd o (λ a. IsFile d.pages a cs) → IsSomeAnd o (λ a. IsFile now.pages a cs)
        by_cell None leads = leads
        by_cell (Some a) leads = subst (λ (b : CellAt). IsFile now.pages b cs) (sym (file_start d.pages a m.at cs leads m.start))
            (is_file now.pages m.at cs (stands m.at cs m.is).stands 1 (λ e. omega (arith, e)) (λ e. omega (arith, e)) (has_attributes d.pages a cs leads))

    files_are : AreFiles n (d.tags n) now.pages has.chains
    files_are = record {
      directory = directory_same d.pages now.pages (d.tags n) has.are.directory tags_stay;
      none = λ t at. cells_lead t ∙ has.are.none t at;
      some = λ t. each t (λ o. IfSome o (LeadsToFile n (d.tags n) now.pages t)) tt (λ cs at. leads_now t cs at);
      apart = has.are.apart;
    }

    no_tag_page : (at : CellAt) (page : ℕ) (home : Home) → place_in files_now at page ≡ At home → has_home (d.tags n) home ≡ false
    no_tag_page at page home there = ⊎_elim
        (λ tags. absurd (file_not_tags (owned.once home (of_file at page) (of_tags n) there (ap (λ (ps : List TagPlace). has_home ps home) (s.tags n differ) ∙ tags))))
        (λ none. none)
        (cases_Bool (has_home (d.tags n) home))
      where
        owned : HoldsOwned now files_now indexes
        owned = owned_still number tag d now chains chains_now files files_now indexes below s

        file_not_tags : ¬ of_file at page ≡ of_tags n
        file_not_tags e = cc

    among_now : AreAmong (all_of now files_now) (d.tags n) has.chains
    among_now = record {
      same = λ t. each t (λ o. option_and_then files_now (option_and_then start_of o) ≡ o) refl
          (λ cs at. let m = there_now t cs at in ap (option_and_then files_now) m.start ∙ m.is);
      live = has.among.live;
      trimmed = λ e inside. has.among.trimmed e (subst (λ (l : Listing). Contains l.entries e) same_list inside);
      low = has.among.low;
      no_tags = no_tag_page;
      not_listed = λ home inside. has.among.not_listed home (subst (λ (l : Listing). Contains l.tag_pages home) same_list inside);
    }
      where
        same_list : now.list ≡ d.list
        same_list = list_same number tag d now chains chains_now files files_now indexes below s

    other_slot : HasFilesAmong now files_now n
    other_slot =
        let same = sym (s.tags n differ) in
        record {
          chains = has.chains;
          are = subst (λ (ps : List TagPlace). AreFiles n ps now.pages has.chains) same files_are;
          among = subst (λ (ps : List TagPlace). AreAmong (all_of now files_now) ps has.chains) same among_now;
        }

  -- ---- all slots

  own_slot : HasFilesAmong now files_now number
  own_slot = record { chains = chains_now; are = stood_now.together.files; among = stood_now.among }

  by_first : (n : ℕ) → ¬ n ≡ number → (o : Option Home) → StandsInSlot d files n o → StandsInSlot now files_now n o
  by_first n differ None none = s.tags n differ ∙ none
  by_first n differ (Some first) stood = ⊎_elim
      (λ has. inl (other_slot n differ has))
      (λ empty. inr (empty_now number tag d now chains chains_now files files_now indexes below s n empty))
      stood

  led_slot : (n : ℕ) → StandsInSlot now files_now n (option_and_then first_tag_of (slice_get d.table.slots n))
  led_slot n = ⊎_elim
      (λ same. subst (λ (k : ℕ). StandsInSlot now files_now k (option_and_then first_tag_of (slice_get d.table.slots k))) (sym same)
      (subst (λ o. StandsInSlot now files_now number (option_and_then first_tag_of o)) (sym s.original) (inl own_slot)))
      (λ differ. by_first n differ (option_and_then first_tag_of (slice_get d.table.slots n)) (below.chains.slots n))
      (number_or_not number tag d now chains chains_now files files_now indexes below s n)

  pub slots_now : (n : ℕ) → StandsInSlot now files_now n (option_and_then first_tag_of (slice_get now.table.slots n))
  slots_now n = subst (λ (t : Table). StandsInSlot now files_now n (option_and_then first_tag_of (slice_get t.slots n))) (sym s.table) (led_slot n)
