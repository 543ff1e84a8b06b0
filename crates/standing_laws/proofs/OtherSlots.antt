-- The original in another slot is as it was after a call on a tag.
use Rattle.std.proofs.Common.{◌≡◌, ◌∙◌, ℕ, zero, suc, nat_lt, Bool, true, false, cond, List, [], ◌∷◌, Option, Some, None, IsSomeAnd, Contains, slice_get, refl, sym, ap, subst, arith, ⊎_elim}
use Rattle.std.proofs.lemmas.Bool.{cases_Bool}
use Rattle.std.specs.Option.{option_and_then, option_map, option_map_or}
use Rattle.domain_standing.specs.domain_base.declared.place.CellAt.{CellAt}
use Rattle.domain_standing.specs.domain_base.declared.place.Home.{Home}
use Rattle.domain_standing.specs.domain_base.declared.place.Tag.{Tag}
use Rattle.domain_standing.specs.page_store.Pages.{Pages}
use Rattle.domain_standing.specs.cell_records.declared.record.Record.{Record}
use Rattle.domain_standing.specs.metadata_cells.Chain.{LinksFrom, PlacedCell, records_of}
use Rattle.domain_standing.specs.tag_dirs.Directory.{IsDirectoryAt, has_home}
use Rattle.domain_standing.specs.tag_dirs.declared.dir.TagPlace.{TagPlace}
use Rattle.domain_standing.proofs.OfTagDirs.Reading.{same_directory}
use Rattle.domain_standing.specs.extent_maps.declared.run.PagePlace.{PagePlace}
use Rattle.domain_standing.specs.extent_maps.declared.run.PagePlace.TheVariants.{Absent, At, Hole}
use Rattle.domain_standing.specs.extent_maps.Runs.{home_at}
use Rattle.domain_standing.specs.file_chains.Files.{places_of}
use Rattle.domain_standing.specs.fileset_files.declared.attributes.Attributes.{Attributes}
use Rattle.domain_standing.specs.fileset_files.Files.{AreFiles, Chains, attributes_of, is_removed, keep_of, place_at}
use Rattle.domain_standing.specs.fileset_files.Shown.{index_of}
use Rattle.domain_standing.proofs.OfFilesetFiles.Created.{one_chains}
use Rattle.domain_standing.specs.index_pages.Homes.{AreIndexHomes}
use Rattle.domain_standing.proofs.OfIndexPages.Homes.{kept_same, one_list}
use Rattle.domain_standing.specs.stored_set.Standing.{StandsShown}
use Rattle.domain_standing.proofs.OfStoredSet.Beside.{shown_still}
use Rattle.domain_standing.specs.stored_set.Sets.{StandsAsSet}
use Rattle.domain_standing.specs.fileset_model.declared.fileset.FilesetSlot.{FilesetSlot}
use Rattle.domain_standing.specs.fileset_table.declared.slot.FilesetEntry.{FilesetEntry}
use Rattle.domain_standing.specs.fileset_table.declared.slot.SlotItem.TheVariants as slot
use Rattle.domain_standing.specs.release_list.Standing.{Files, IsQuotas, place_in}
use Rattle.domain_standing.specs.release_steps.Beside.{IsApartOf, StandsBeside}
use Rattle.domain_standing.specs.release_steps.Calls.{Call, FilesetNow, cut, described, dropped, given, indexed, made, moved, put_in, refused}
use Rattle.domain_standing.specs.release_steps.Tags.{AreAmong, start_of}
use Rattle.domain_standing.proofs.OfReleaseSteps.OtherFilesets.{beside_call, call_held, not_of_tag}
use Rattle.domain_standing.proofs.OfReleaseSteps.Tags.{IsNamed, named}
use Rattle.domain_standing.proofs.OfDomainLayout.OneShape.{links_same}
use Rattle.domain_standing.specs.domain_layout.Layout.{first_tag_of}
use Rattle.domain_standing.specs.domain_layout.Seen.{SeenFile, kept_by, seen_in}
use Rattle.domain_standing.specs.domain_layout.Shape.{AreLimits, AreQuotas, FilesetShape, IsOriginal}
use Rattle.domain_standing.specs.domain_layout.TagRules.{quota_of}
use Rattle.domain_standing.specs.domain_layout.Agreeing.{AgreeOnShape}
use Rattle.domain_standing.proofs.OfDomainLayout.FilledAlike.{fills}
use Rattle.domain_standing.specs.Chains.{AreQuotasOf, HasFilesAmong, IndexesAt, IsRemoved, StandsInSlot}
use Rattle.domain_standing.specs.Domain.{DomainNow, all_of}
use Rattle.domain_standing.specs.Holders.Holder.{of_file, of_index, of_tags}
use Rattle.standing_laws.specs.Leads.{LeadsOn, MayCall, StandsBelow, fileset_now}
use Rattle.standing_laws.specs.Slots.{StandsSlot}
use Rattle.standing_laws.proofs.SlotsStand.{quotas_stay}
use Rattle.standing_laws.proofs.TablesStand.{number_of}
use Rattle.standing_laws.proofs.TablesTaken.{page_stays}

-- ---- lists and places

none_not : {X : Type 0} (x : X) → ¬ None ≡ Some x
none_not x is = cc

absent_not : (home : Home) → ¬ Absent ≡ At home
absent_not home is = cc

get_in : (homes : List Home) (home : Home) → Contains homes home → (k : ℕ) × (slice_get homes k ≡ Some home)
get_in [] home (k, within, is) = absurd (omega (arith, within))
get_in (h ∷ homes) home (zero, within, is) = (0, ap Some is)
get_in (h ∷ homes) home (suc k, within, is) = let later = get_in homes home (k, omega (arith, within), is) in (suc later.0, later.1)

pub links_of : (pages : Pages) (at : CellAt) (cs : List PlacedCell) → IsQuotas pages at cs → LinksFrom pages at cs
links_of pages at [] are = absurd are
links_of pages at (first ∷ rest) are = (are.0, are.1.links)

-- a home at which a file is seen to have a page is that of a page of its chain
module _ (cs : List PlacedCell) (seen : SeenFile) (page : ℕ) (home : Home) (at : seen.homes page ≡ Some home) where
  by_place : (p : PagePlace) → home_at p ≡ Some home → p ≡ At home
  by_place Absent is = absurd (none_not home is)
  by_place (At other) is = λ i. some_home (is i)
    where
      some_home : Option Home → PagePlace
      some_home None = Absent
      some_home (Some h) = At h
  by_place Hole is = absurd (none_not home is)

  by_front : (b : Bool) → cond b (places_of cs page) Absent ≡ At home → places_of cs page ≡ At home
  by_front true is = is
  by_front false is = absurd (absent_not home is)

  by_keep : (is : Attributes) (o : Option ℕ) → option_map (λ keep. record { is = is; homes = λ p. home_at (cond (nat_lt p keep) (places_of cs p) Absent) }) o ≡ Some seen → places_of cs page ≡ At home
  by_keep is None same = absurd (none_not seen same)
  by_keep is (Some keep) same = by_front (nat_lt page keep) (by_place (cond (nat_lt page keep) (places_of cs page) Absent) (ap (λ (o : Option SeenFile). option_and_then (λ (s : SeenFile). s.homes page) o) same ∙ at))

  by_attributes : (o : Option Attributes) → option_and_then (kept_by cs) o ≡ Some seen → places_of cs page ≡ At home
  by_attributes None same = absurd (none_not seen same)
  by_attributes (Some is) same = by_keep is (keep_of cs) same

  by_removed : (b : Bool) → cond b None (option_and_then (kept_by cs) (attributes_of cs)) ≡ Some seen → places_of cs page ≡ At home
  by_removed true same = absurd (none_not seen same)
  by_removed false same = by_attributes (attributes_of cs) same

  pub seen_place : seen_in cs ≡ Some seen → places_of cs page ≡ At home
  seen_place same = by_removed (is_removed cs) same

module _ (number : ℕ) (tag : Tag) (d now : DomainNow) (chains chains_now : Chains) (files files_now : Files) (indexes : IndexesAt) (below : StandsBelow d files indexes) (s : LeadsOn number tag d now chains chains_now files files_now) where
  abbrev was : FilesetNow
  was = fileset_now d number chains files

  abbrev is : FilesetNow
  is = fileset_now now number chains_now files_now

  -- no page is put at a home that a caller held
  apart_of : (places : List TagPlace) (call : Call number d.frame.version tag was is) → MayCall d.table.made number d.frame.version tag was is call → IsApartOf number d.frame.version tag places was is call
  apart_of places (refused t) may = tt
  apart_of places (given t) may = tt
  apart_of places (moved t) may = absurd may
  apart_of places (described value t) may = tt
  apart_of places (put_in parent t) may = tt
  apart_of places (indexed index t) may = tt
  apart_of places (cut size lowered t) may = tt
  apart_of places (dropped t) may = tt
  apart_of places (made t) may = tt

  module _ (n : ℕ) (entry : FilesetEntry) (shape : FilesetShape) (fileset : FilesetSlot) (differ : ¬ n ≡ number) (there : slice_get d.table.slots n ≡ Some (slot.Original entry)) (stood : StandsSlot d n entry shape fileset) where
    abbrev its : Chains
    its = stood.set.chains

    -- ---- its files

    pub begins : IsDirectoryAt d.pages entry.first_tag (d.tags n)
    begins = below.tables.laid.tags n (slot.Original entry) there

    has : HasFilesAmong d files n
    has = ⊎_elim
        (λ among. among)
        (λ empty. absurd (subst IsRemoved there empty.removed))
        (subst (λ o. StandsInSlot d files n (option_and_then first_tag_of o)) there (below.chains.slots n))

    among : AreAmong (all_of d files) (d.tags n) its
    among = subst (AreAmong (all_of d files) (d.tags n)) (λ k t. one_chains d.pages n (d.tags n) has.chains its has.are stood.set.stands.together.files t k) has.among

    beside : StandsBeside n (d.tags n) its was
    beside = record {
      together = stood.set.stands.together;
      among = among;
      apart = λ home mine. ⊎_elim
          (λ also. absurd (differ (ap number_of (below.owned.once home (of_tags n) (of_tags number) also mine))))
          (λ none. none)
          (cases_Bool (has_home (d.tags n) home));
    }

    pub beside_now : StandsBeside n (d.tags n) its is
    beside_now = beside_call number d.frame.version tag was is s.well n differ (d.tags n) its beside s.call (apart_of (d.tags n) s.call s.may)

    begun : (t : Tag) (cs : List PlacedCell) → its t ≡ Some cs → IsNamed files cs
    begun t cs some = named files its t cs some (among.same t)

    -- ---- the pages that it shows

    pub page_same : (t : Tag) (page : ℕ) (home : Home) → place_at its t page ≡ At home → now.pages home ≡ d.pages home
    page_same t page home at = by_chain (its t) refl at
      where
        by_chain : (o : Option (List PlacedCell)) → its t ≡ o → option_map_or (λ cs. places_of cs page) o Absent ≡ At home → now.pages home ≡ d.pages home
        by_chain None none at = absurd (absent_not home at)
        by_chain (Some cs) some at =
            let m = begun t cs some in
            page_stays number tag d now chains chains_now files files_now indexes below s (of_file m.at page) home (ap (λ o. option_map_or (λ cs. places_of cs page) o Absent) m.is ∙ at) (λ e. cc) (λ e. cc)

    index_there : (t : Tag) (home : Home) → Contains (stood.set.indexes t) home → (at : CellAt) × Contains (indexes at) home
    index_there t home inside = by_chain (its t) refl
      where
        its_index : (o : Option (List PlacedCell)) → its t ≡ o → AreIndexHomes d.pages (option_and_then index_of o) (stood.set.indexes t)
        its_index o is_o = subst (λ o. AreIndexHomes d.pages (option_and_then index_of o) (stood.set.indexes t)) is_o (stood.set.stands.indexed t)

        by_chain : (o : Option (List PlacedCell)) → its t ≡ o → (at : CellAt) × Contains (indexes at) home
        by_chain None none =
            let nothing : Contains [] home = subst (λ (homes : List Home). Contains homes home) (one_list d.pages None (stood.set.indexes t) [] (its_index None none) tt) inside in
            absurd (omega (arith, nothing.1))
        by_chain (Some cs) some =
            let m = begun t cs some in (
              m.at,
              subst (λ (homes : List Home). Contains homes home)
                  (one_list d.pages (index_of cs) (stood.set.indexes t) (indexes m.at) (its_index (Some cs) some) (subst (λ o. AreIndexHomes d.pages (option_and_then index_of o) (indexes m.at)) m.is (below.chains.indexed m.at)))
                  inside,
            )

    index_same : (t : Tag) (home : Home) → Contains (stood.set.indexes t) home → now.pages home ≡ d.pages home
    index_same t home inside =
        let there = index_there t home inside in
        let place = get_in (indexes there.0) home there.1 in
        page_stays number tag d now chains chains_now files files_now indexes below s (of_index there.0 place.0) home place.1 (λ e. cc) (λ e. cc)

    -- ---- its set

    shown_now : StandsShown n (d.tags n) now.space now.cells now.pages its stood.set.indexes shape.shown
    shown_now = record {
      together = beside_now.together;
      shows = λ t. shown_still d.pages now.pages its stood.set.indexes t (shape.shown t) (stood.set.stands.indexed t) (page_same t) (index_same t) (stood.set.stands.shows t);
      indexed = λ t. kept_same d.pages now.pages (option_and_then index_of (its t)) (stood.set.indexes t) (stood.set.stands.indexed t) (index_same t);
      stand = λ t home inside.
          let on = stood.set.stands.stand t home inside in
          record { apart = call_held number d.frame.version tag was is s.well n differ (d.tags n) its beside s.call home on.apart; no_tags = on.no_tags };
      apart = stood.set.stands.apart;
      once = stood.set.stands.once;
    }

    set_now : StandsAsSet n (d.tags n) now.space now.cells now.pages shape.shown
    set_now = record { chains = its; indexes = stood.set.indexes; stands = shown_now; whole = stood.set.whole; bare = stood.set.bare; low = stood.set.low }

    -- ---- its shape

    own_chains : (t : Tag) → stood.is.chains t ≡ its t
    own_chains =
        let h = stood.is.has in
        one_chains d.pages n (d.tags n) stood.is.chains its
        (subst (λ (ps : List TagPlace). AreFiles n ps d.pages stood.is.chains) (same_directory d.pages entry.first_tag h.places (d.tags n) h.directory begins) h.files) stood.set.stands.together.files

    quotas_still : (o : Option CellAt) → entry.quota ≡ o → (records : List Record) → AreQuotas d.pages o records → AreQuotas now.pages o records
    quotas_still None none records are = are
    quotas_still (Some at) quota records are = by_chain (files at) refl (below.chains.quotas n at (ap (option_and_then quota_of) there ∙ quota))
      where
        by_chain : (o : Option (List PlacedCell)) → files at ≡ o → IsSomeAnd o (AreQuotasOf d n at) → AreQuotas now.pages (Some at) records
        by_chain None none quotas = absurd quotas
        by_chain (Some cs) some quotas = (
          cs,
          links_of now.pages at cs (quotas_stay number tag d now chains chains_now files files_now indexes below s n at cs some quotas),
          are.2 ∙ ap records_of (links_same d.pages at are.0 cs are.1 (links_of d.pages at cs quotas.quotas)),
        )

    limits_now : AreLimits now.pages entry shape.limits
    limits_now = record {
      records = stood.is.limits.records;
      quotas = quotas_still entry.quota refl stood.is.limits.records stood.is.limits.quotas;
      each = stood.is.limits.each;
    }

    shape_now : IsOriginal now.pages n entry shape
    shape_now = record {
      none = stood.is.none;
      chains = its;
      has = record {
        places = d.tags n;
        directory = record { directory = beside_now.together.files.directory; begins = begins.begins };
        files = beside_now.together.files;
      };
      files = λ t. stood.is.files t ∙ ap (option_and_then seen_in) (own_chains t);
      shown = shown_now.shows;
      limits = limits_now;
    }

    -- ---- all of it

    pub slot_stays : AgreeOnShape d.contents now.contents shape → StandsSlot now n entry shape fileset
    slot_stays agree = record {
      is = shape_now;
      filled = fills d.contents now.contents shape fileset agree stood.filled;
      set = subst (λ (ps : List TagPlace). StandsAsSet n ps now.space now.cells now.pages shape.shown) (sym (s.tags n differ)) set_now;
    }

    -- no page of its files is one of the tag's file
    pub bytes_same : ((at : CellAt) (page : ℕ) (home : Home) → ¬ option_and_then start_of (chains tag) ≡ Some at → place_in files at page ≡ At home → d.contents home ≡ now.contents home) → AgreeOnShape d.contents now.contents shape
    bytes_same same t seen at page home stands = by_chain (its t) refl (sym (ap (option_and_then seen_in) (own_chains t)) ∙ sym (stood.is.files t) ∙ at)
      where
        by_chain : (o : Option (List PlacedCell)) → its t ≡ o → option_and_then seen_in o ≡ Some seen → d.contents home ≡ now.contents home
        by_chain None none seen_there = absurd (none_not seen seen_there)
        by_chain (Some cs) some seen_there =
            let m = begun t cs some in
            same m.at page home (not_of_tag number d.frame.version tag was is s.well n differ (d.tags n) its beside t cs m.at some m.is)
            (ap (λ o. option_map_or (λ cs. places_of cs page) o Absent) m.is ∙ seen_place cs seen page home stands seen_there)
