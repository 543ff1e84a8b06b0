-- The files of each original, and the limits of all but one, once an owner's limits are set in a slot's fileset.
use Rattle.std.proofs.Common.{◌≡◌, ◌∙◌, ℕ, zero, suc, List, [], ◌∷◌, Option, Some, None, IsSomeAnd, Contains, slice_get, refl, sym, ap, subst, arith, ⊎_elim}
use Rattle.std.specs.Option.{option_and_then, option_map_or}
use Rattle.domain_standing.specs.domain_base.declared.place.CellAt.{CellAt}
use Rattle.domain_standing.specs.domain_base.declared.place.Home.{Home}
use Rattle.domain_standing.specs.domain_base.declared.place.Tag.{Tag}
use Rattle.domain_standing.specs.page_store.Pages.{Pages}
use Rattle.domain_standing.specs.cell_records.declared.record.Record.{Record}
use Rattle.domain_standing.specs.metadata_cells.Chain.{LinksFrom, PlacedCell, records_of}
use Rattle.domain_standing.specs.tag_dirs.Directory.{IsDirectoryAt}
use Rattle.domain_standing.specs.tag_dirs.declared.dir.TagPlace.{TagPlace}
use Rattle.domain_standing.proofs.OfTagDirs.Reading.{same_directory}
use Rattle.domain_standing.specs.extent_maps.declared.run.PagePlace.TheVariants.{Absent, At}
use Rattle.domain_standing.specs.file_chains.Files.{places_of}
use Rattle.domain_standing.specs.fileset_files.Files.{AreFiles, Chains, place_at}
use Rattle.domain_standing.specs.fileset_files.Shown.{index_of}
use Rattle.domain_standing.specs.fileset_files.Together.{AreTogether}
use Rattle.domain_standing.proofs.OfFilesetFiles.Created.{one_chains}
use Rattle.domain_standing.specs.index_pages.Homes.{AreIndexHomes}
use Rattle.domain_standing.proofs.OfIndexPages.Homes.{kept_same, one_list}
use Rattle.domain_standing.specs.stored_set.Standing.{StandsShown}
use Rattle.domain_standing.proofs.OfStoredSet.Beside.{shown_still}
use Rattle.domain_standing.specs.stored_set.Sets.{StandsAsSet}
use Rattle.domain_standing.specs.fileset_values.declared.command.Owner.{Owner}
use Rattle.domain_standing.specs.fileset_model.declared.fileset.FilesetSlot.{FilesetSlot}
use Rattle.domain_standing.specs.fileset_model.declared.fileset.Limits.{Limits}
use Rattle.domain_standing.specs.fileset_table.declared.slot.FilesetEntry.{FilesetEntry}
use Rattle.domain_standing.specs.fileset_table.declared.slot.SlotItem.TheVariants as slot
use Rattle.domain_standing.specs.release_list.Standing.{Files, IsQuotas}
use Rattle.domain_standing.specs.release_steps.Tags.{AreAmong}
use Rattle.domain_standing.proofs.OfReleaseSteps.Tags.{IsNamed, named}
use Rattle.domain_standing.proofs.OfReleaseSteps.AllWell.{held}
use Rattle.domain_standing.proofs.OfReleaseSteps.TagsTogether.{together_now}
use Rattle.domain_standing.proofs.OfDomainLayout.OneShape.{links_same}
use Rattle.domain_standing.specs.domain_layout.Layout.{first_tag_of}
use Rattle.domain_standing.specs.domain_layout.Seen.{seen_in}
use Rattle.domain_standing.specs.domain_layout.Shape.{AreLimits, AreQuotas, FilesetShape, IsOriginal}
use Rattle.domain_standing.specs.domain_layout.TagRules.{quota_of}
use Rattle.domain_standing.specs.domain_layout.Agreeing.{AgreeOnShape}
use Rattle.domain_standing.proofs.OfDomainLayout.FilledAlike.{fills}
use Rattle.domain_standing.specs.Chains.{AreQuotasOf, HasFilesAmong, IndexesAt, IsRemoved, StandsInSlot}
use Rattle.domain_standing.specs.Domain.{DomainNow, all_of, item_in}
use Rattle.domain_standing.specs.Holders.Holder.{of_file, of_index}
use Rattle.standing_laws.specs.Leads.{StandsBelow}
use Rattle.standing_laws.specs.SetsQuota.{SetsQuota}
use Rattle.standing_laws.specs.Slots.{StandsSlot}
use Rattle.standing_laws.proofs.QuotaChains.{quotas_stay}
use Rattle.standing_laws.proofs.QuotaSlots.{page_stays, tag_page}

absent_not : (home : Home) → ¬ Absent ≡ At home
absent_not home is = cc

get_in : (homes : List Home) (home : Home) → Contains homes home → (k : ℕ) × (slice_get homes k ≡ Some home)
get_in [] home (k, within, is) = absurd (omega (arith, within))
get_in (h ∷ homes) home (zero, within, is) = (0, ap Some is)
get_in (h ∷ homes) home (suc k, within, is) = let later = get_in homes home (k, omega (arith, within), is) in (suc later.0, later.1)

pub links_of : (pages : Pages) (at : CellAt) (cs : List PlacedCell) → IsQuotas pages at cs → LinksFrom pages at cs
links_of pages at [] are = absurd are
links_of pages at (first ∷ rest) are = (are.0, are.1.links)

module _ (number : ℕ) (d now : DomainNow) (files files_now : Files) (indexes : IndexesAt) (below : StandsBelow d files indexes) (s : SetsQuota number d now files files_now) where
  module _ (n : ℕ) (entry : FilesetEntry) (shape : FilesetShape) (fileset : FilesetSlot) (there : item_in d n ≡ Some (slot.Original entry)) (stood : StandsSlot d n entry shape fileset) where
    abbrev its : Chains
    its = stood.set.chains

    -- ---- its files

    pub begins : IsDirectoryAt d.pages entry.first_tag (d.tags n)
    begins = below.tables.laid.tags n (slot.Original entry) there

    has : HasFilesAmong d files n
    has = ⊎_elim
        (λ among. among)
        (λ empty. absurd (subst IsRemoved there empty.removed))
        (subst (λ o. StandsInSlot d files n (option_and_then first_tag_of o)) there (below.chains.slots n))

    among : AreAmong (all_of d files) (d.tags n) its
    among = subst (AreAmong (all_of d files) (d.tags n)) (λ k t. one_chains d.pages n (d.tags n) has.chains its has.are stood.set.stands.together.files t k) has.among

    pub its_together : AreTogether n (d.tags n) now.space now.cells now.pages its
    its_together = together_now number s.prefer s.who s.limits s.entry.quota (all_of d files) (all_of now files_now) n (d.tags n) its below.chains.well s.sets
        (tag_page number d now files files_now indexes below s n) stood.set.stands.together among

    begun : (t : Tag) (cs : List PlacedCell) → its t ≡ Some cs → IsNamed files cs
    begun t cs some = named files its t cs some (among.same t)

    -- ---- the pages that it shows

    pub page_same : (t : Tag) (page : ℕ) (home : Home) → place_at its t page ≡ At home → now.pages home ≡ d.pages home
    page_same t page home at = by_chain (its t) refl at
      where
        by_chain : (o : Option (List PlacedCell)) → its t ≡ o → option_map_or (λ cs. places_of cs page) o Absent ≡ At home → now.pages home ≡ d.pages home
        by_chain None none at = absurd (absent_not home at)
        by_chain (Some cs) some at =
            let m = begun t cs some in
            page_stays number d now files files_now indexes below s (of_file m.at page) home (ap (λ o. option_map_or (λ cs. places_of cs page) o Absent) m.is ∙ at) (λ e. cc) (λ e. cc)

    index_there : (t : Tag) (home : Home) → Contains (stood.set.indexes t) home → (at : CellAt) × Contains (indexes at) home
    index_there t home inside = by_chain (its t) refl
      where
        its_index : (o : Option (List PlacedCell)) → its t ≡ o → AreIndexHomes d.pages (option_and_then index_of o) (stood.set.indexes t)
        its_index o is_o = subst (λ o. AreIndexHomes d.pages (option_and_then index_of o) (stood.set.indexes t)) is_o (stood.set.stands.indexed t)

        by_chain : (o : Option (List PlacedCell)) → its t ≡ o → (at : CellAt) × Contains (indexes at) home
        by_chain None none =
            let nothing : Contains [] home = subst (λ (homes : List Home). Contains homes home) (one_list d.pages None (stood.set.indexes t) [] (its_index None none) tt) inside in
            absurd (omega (arith, nothing.1))
        by_chain (Some cs) some =
            let m = begun t cs some in (
              m.at,
              subst (λ (homes : List Home). Contains homes home)
                  (one_list d.pages (index_of cs) (stood.set.indexes t) (indexes m.at) (its_index (Some cs) some) (subst (λ o. AreIndexHomes d.pages (option_and_then index_of o) (indexes m.at)) m.is (below.chains.indexed m.at)))
                  inside,
            )

    index_same : (t : Tag) (home : Home) → Contains (stood.set.indexes t) home → now.pages home ≡ d.pages home
    index_same t home inside =
        let in_index = index_there t home inside in
        let place = get_in (indexes in_index.0) home in_index.1 in
        page_stays number d now files files_now indexes below s (of_index in_index.0 place.0) home place.1 (λ e. cc) (λ e. cc)

    -- ---- its set

    shown_now : StandsShown n (d.tags n) now.space now.cells now.pages its stood.set.indexes shape.shown
    shown_now = record {
      together = its_together;
      shows = λ t. shown_still d.pages now.pages its stood.set.indexes t (shape.shown t) (stood.set.stands.indexed t) (page_same t) (index_same t) (stood.set.stands.shows t);
      indexed = λ t. kept_same d.pages now.pages (option_and_then index_of (its t)) (stood.set.indexes t) (stood.set.stands.indexed t) (index_same t);
      stand = λ t home inside.
          let on = stood.set.stands.stand t home inside in
          record { apart = held number s.prefer s.who s.limits s.entry.quota (all_of d files) (all_of now files_now) below.chains.well s.sets home on.apart; no_tags = on.no_tags };
      apart = stood.set.stands.apart;
      once = stood.set.stands.once;
    }

    pub set_now : StandsAsSet n (now.tags n) now.space now.cells now.pages shape.shown
    set_now = subst (λ (ps : List TagPlace). StandsAsSet n ps now.space now.cells now.pages shape.shown) (ap (λ (t : ℕ → List TagPlace). t n) (sym s.tags))
        (record { chains = its; indexes = stood.set.indexes; stands = shown_now; whole = stood.set.whole; bare = stood.set.bare; low = stood.set.low })

    -- ---- its shape, with any limits

    own_chains : (t : Tag) → stood.is.chains t ≡ its t
    own_chains =
        let h = stood.is.has in
        one_chains d.pages n (d.tags n) stood.is.chains its
        (subst (λ (ps : List TagPlace). AreFiles n ps d.pages stood.is.chains) (same_directory d.pages entry.first_tag h.places (d.tags n) h.directory begins) h.files) stood.set.stands.together.files

    pub shape_now : (quota : Option CellAt) (limits : Owner → Limits) → AreLimits now.pages (record entry { quota = quota }) limits → IsOriginal now.pages n (record entry { quota = quota }) (record shape { limits = limits })
    shape_now quota limits are = record {
      none = stood.is.none;
      chains = its;
      has = record {
        places = d.tags n;
        directory = record { directory = its_together.files.directory; begins = begins.begins };
        files = its_together.files;
      };
      files = λ t. stood.is.files t ∙ ap (option_and_then seen_in) (own_chains t);
      shown = shown_now.shows;
      limits = are;
    }

    -- ---- its limits, where it is another slot

    quotas_still : ¬ n ≡ number → (o : Option CellAt) → entry.quota ≡ o → (records : List Record) → AreQuotas d.pages o records → AreQuotas now.pages o records
    quotas_still differ None none records are = are
    quotas_still differ (Some at) quota records are = by_chain (files at) refl (below.chains.quotas n at (ap (option_and_then quota_of) there ∙ quota))
      where
        by_chain : (o : Option (List PlacedCell)) → files at ≡ o → IsSomeAnd o (AreQuotasOf d n at) → AreQuotas now.pages (Some at) records
        by_chain None none quotas = absurd quotas
        by_chain (Some cs) some quotas = (
          cs,
          links_of now.pages at cs (quotas_stay number d now files files_now indexes below s n at cs differ some quotas),
          are.2 ∙ ap records_of (links_same d.pages at are.0 cs are.1 (links_of d.pages at cs quotas.quotas)),
        )

    pub slot_stays : ¬ n ≡ number → AgreeOnShape d.contents now.contents shape → StandsSlot now n entry shape fileset
    slot_stays differ agree = record {
      is = shape_now entry.quota shape.limits (record {
        records = stood.is.limits.records;
        quotas = quotas_still differ entry.quota refl stood.is.limits.records stood.is.limits.quotas;
        each = stood.is.limits.each;
      });
      filled = fills d.contents now.contents shape fileset agree stood.filled;
      set = set_now;
    }
