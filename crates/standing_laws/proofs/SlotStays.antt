-- The fileset of a slot stands on where nothing of the slot changes.
use Rattle.std.proofs.Common.{◌≡◌, ◌∙◌, ⊎_elim, inl, inr, ℕ, ◌≤◌, List, [], ◌∷◌, length, Option, Some, None, IfSome, IsSomeAnd, Contains, slice_get, refl, sym, ap, subst, arith}
use Rattle.std.specs.Option.{option_and_then, option_map_or}
use Rattle.domain_standing.specs.domain_base.declared.place.CellAt.{CellAt}
use Rattle.domain_standing.specs.domain_base.declared.place.Home.{Home}
use Rattle.domain_standing.specs.domain_base.declared.place.Tag.{Tag}
use Rattle.domain_standing.specs.log_ring.Homes.{IsMember}
use Rattle.domain_standing.specs.page_store.Pages.{Pages}
use Rattle.domain_standing.specs.cell_records.declared.record.Record.{Record}
use Rattle.domain_standing.specs.metadata_cells.Chain.{PlacedCell, records_of}
use Rattle.domain_standing.specs.tag_dirs.Directory.{IsDirectoryAt, cell_of, has_home}
use Rattle.domain_standing.specs.tag_dirs.declared.dir.TagPlace.{TagPlace}
use Rattle.domain_standing.proofs.OfTagDirs.Reading.{same_directory}
use Rattle.domain_standing.specs.extent_maps.declared.run.PagePlace.TheVariants.{Absent, At}
use Rattle.domain_standing.specs.free_cells.Cells.{table_of}
use Rattle.domain_standing.specs.free_space.Spaces.{IsHeld}
use Rattle.domain_standing.specs.file_chains.FileChanges.{AreOnTables}
use Rattle.domain_standing.specs.file_chains.Files.{IsFile, places_of}
use Rattle.domain_standing.specs.fileset_files.Files.{AreFiles, Chains, LeadsToFile, place_at}
use Rattle.domain_standing.specs.fileset_files.Shown.{index_of}
use Rattle.domain_standing.specs.fileset_files.Together.{AreTogether, IsHeldApart}
use Rattle.domain_standing.proofs.OfFilesetFiles.Created.{one_chains}
use Rattle.domain_standing.proofs.OfFilesetFiles.Tags.{cell_same, directory_same, pages_same}
use Rattle.domain_standing.specs.index_pages.Homes.{AreIndexHomes}
use Rattle.domain_standing.proofs.OfIndexPages.Dropped.{low_from}
use Rattle.domain_standing.proofs.OfIndexPages.Homes.{kept_same, one_list}
use Rattle.domain_standing.specs.stored_set.Standing.{StandsShown}
use Rattle.domain_standing.proofs.OfStoredSet.Beside.{shown_still}
use Rattle.domain_standing.specs.stored_set.Sets.{StandsAsSet}
use Rattle.domain_standing.specs.fileset_model.declared.fileset.FilesetSlot.{FilesetSlot}
use Rattle.domain_standing.specs.fileset_table.declared.slot.FilesetEntry.{FilesetEntry}
use Rattle.domain_standing.specs.fileset_table.declared.slot.SlotItem.TheVariants as slot
use Rattle.domain_standing.specs.release_list.Standing.{Files, IsStanding, place_in}
use Rattle.domain_standing.proofs.OfReleaseList.Spread.{none_not}
use Rattle.domain_standing.proofs.OfReleaseList.Standings.{is_file, low_home, standing}
use Rattle.domain_standing.specs.release_steps.Tags.{AreAmong}
use Rattle.domain_standing.proofs.OfReleaseSteps.Tags.{IsNamed, file_start, has_attributes, named}
use Rattle.domain_standing.proofs.OfDomainLayout.OneShape.{links_same}
use Rattle.domain_standing.specs.domain_layout.Layout.{first_tag_of}
use Rattle.domain_standing.specs.domain_layout.Seen.{seen_in}
use Rattle.domain_standing.specs.domain_layout.Shape.{AreQuotas, FilesetShape, IsOriginal}
use Rattle.domain_standing.specs.domain_layout.TagRules.{quota_of}
use Rattle.domain_standing.specs.domain_layout.Agreeing.{AgreeOnShape}
use Rattle.domain_standing.proofs.OfDomainLayout.FilledAlike.{fills}
use Rattle.domain_standing.proofs.OfDomainLayout.Reached.{member_or_none}
use Rattle.domain_standing.specs.Chains.{AreQuotasOf, HasFilesAmong, IndexesAt, IsQuotaOf, IsRemoved, StandsInSlot}
use Rattle.domain_standing.specs.Domain.{DomainNow, all_of, item_in, named_by}
use Rattle.domain_standing.specs.Holders.{Holder, Holds}
use Rattle.domain_standing.specs.Holders.Holder.{of_cells, of_file, of_index, of_tags}
use Rattle.standing_laws.specs.Leads.{StandsBelow}
use Rattle.standing_laws.specs.Slots.{StandsSlot}
use Rattle.standing_laws.specs.SlotsStay.{IsFilePageOf, IsPageOfSlot, IsTaggedBy, KeepsSlot}
use Rattle.standing_laws.proofs.ChainsNamed.{leads_there}
use Rattle.standing_laws.proofs.HomeLists.{in_get}
use Rattle.standing_laws.proofs.IndexWas.{begins_low}
use Rattle.standing_laws.proofs.OtherSlots.{links_of, seen_place}

absent_not : (home : Home) → ¬ Absent ≡ At home
absent_not home is = cc

-- an index that a file names stands on volumes that there are
pub file_index_low : (pages : Pages) (at : CellAt) (cs : List PlacedCell) (homes : List Home) → IsFile pages at cs → AreIndexHomes pages (index_of cs) homes → (home : Home) → Contains homes home → 1 ≤ home.vol
file_index_low pages at [] homes file are home inside = absurd file
file_index_low pages at (first ∷ rest) homes file are home inside = low_from pages (index_of (first ∷ rest)) homes are (begins_low pages first rest file.1) home inside

-- all of the slot is as it was but what the table says of it: of that its quota cells
pub record KeepsFiles (n : ℕ) (d now : DomainNow) (files files_now : Files) (indexes indexes_now : IndexesAt) : Type 0 where
  pub quota : named_by quota_of now n ≡ named_by quota_of d n
  pub tags : now.tags n ≡ d.tags n
  pub chains : (at : CellAt) → IsTaggedBy n d at → files_now at ≡ files at
  pub quotas : (at : CellAt) → IsQuotaOf d n at → files_now at ≡ files at
  pub homes : (at : CellAt) → IsTaggedBy n d at → indexes_now at ≡ indexes at
  pub pages : (home : Home) → IsPageOfSlot n d files indexes home → now.pages home ≡ d.pages home
  pub held : (home : Home) → IsPageOfSlot n d files indexes home → 1 ≤ home.vol → IsHeld d.space home.vol home.page → IsHeld now.space home.vol home.page
  pub bytes : (home : Home) → IsFilePageOf n d files home → now.contents home ≡ d.contents home

module _ (n : ℕ) (d now : DomainNow) (files files_now : Files) (indexes indexes_now : IndexesAt) (below : StandsBelow d files indexes) (after : StandsBelow now files_now indexes_now) (k : KeepsFiles n d now files files_now indexes indexes_now)
    (entry : FilesetEntry) (shape : FilesetShape) (fileset : FilesetSlot) (there : item_in d n ≡ Some (slot.Original entry)) (stood : StandsSlot d n entry shape fileset)
  where
    abbrev its : Chains
    its = stood.set.chains

    -- ---- its files

    begins : IsDirectoryAt d.pages entry.first_tag (d.tags n)
    begins = below.tables.laid.tags n (slot.Original entry) there

    has : HasFilesAmong d files n
    has = ⊎_elim
        (λ among. among)
        (λ empty. absurd (subst IsRemoved there empty.removed))
        (subst (λ o. StandsInSlot d files n (option_and_then first_tag_of o)) there (below.chains.slots n))

    among : AreAmong (all_of d files) (d.tags n) its
    among = subst (AreAmong (all_of d files) (d.tags n)) (λ j t. one_chains d.pages n (d.tags n) has.chains its has.are stood.set.stands.together.files t j) has.among

    begun : (t : Tag) (cs : List PlacedCell) → its t ≡ Some cs → IsNamed files cs
    begun t cs some = named files its t cs some (among.same t)

    tagged : (t : Tag) (cs : List PlacedCell) (some : its t ≡ Some cs) → IsTaggedBy n d (begun t cs some).at
    tagged t cs some = let m = begun t cs some in (t, leads_there n (d.tags n) d.pages its stood.set.stands.together.files t cs m.at some m.start)

    there_now : (t : Tag) (cs : List PlacedCell) (some : its t ≡ Some cs) → files_now (begun t cs some).at ≡ Some cs
    there_now t cs some = let m = begun t cs some in k.chains m.at (tagged t cs some) ∙ m.is

    stands_now : (t : Tag) (cs : List PlacedCell) (some : its t ≡ Some cs) → IsStanding now.cells now.pages (begun t cs some).at cs
    stands_now t cs some = standing now.space now.cells now.pages files_now after.chains.well.together (begun t cs some).at cs (there_now t cs some)

    -- ---- its pages

    in_file : (t : Tag) (page : ℕ) (home : Home) → place_at its t page ≡ At home → (at : CellAt) × IsTaggedBy n d at × (place_in files at page ≡ At home)
    in_file t page home at = by_chain (its t) refl at
      where
        by_chain : (o : Option (List PlacedCell)) → its t ≡ o → option_map_or (λ cs. places_of cs page) o Absent ≡ At home → (a : CellAt) × IsTaggedBy n d a × (place_in files a page ≡ At home)
        by_chain None none at = absurd (absent_not home at)
        by_chain (Some cs) some at = let m = begun t cs some in (m.at, tagged t cs some, ap (λ o. option_map_or (λ cs. places_of cs page) o Absent) m.is ∙ at)

    file_page : (t : Tag) (page : ℕ) (home : Home) → place_at its t page ≡ At home → IsPageOfSlot n d files indexes home
    file_page t page home at = let f = in_file t page home at in inr (inl (f.0, page, f.1, f.2))

    in_index : (t : Tag) (home : Home) → Contains (stood.set.indexes t) home → (at : CellAt) × IsTaggedBy n d at × Contains (indexes at) home × (1 ≤ home.vol)
    in_index t home inside = by_chain (its t) refl
      where
        its_index : (o : Option (List PlacedCell)) → its t ≡ o → AreIndexHomes d.pages (option_and_then index_of o) (stood.set.indexes t)
        its_index o is_o = subst (λ o. AreIndexHomes d.pages (option_and_then index_of o) (stood.set.indexes t)) is_o (stood.set.stands.indexed t)

        low_file : (cs : List PlacedCell) → its t ≡ Some cs → (o : Option CellAt) → IsSomeAnd o (λ at. IsFile d.pages at cs) → 1 ≤ home.vol
        low_file cs some None leads = absurd leads
        low_file cs some (Some at) leads = file_index_low d.pages at cs (stood.set.indexes t) leads (its_index (Some cs) some) home inside

        by_chain : (o : Option (List PlacedCell)) → its t ≡ o → (at : CellAt) × IsTaggedBy n d at × Contains (indexes at) home × (1 ≤ home.vol)
        by_chain None none =
            let nothing : Contains [] home = subst (λ (homes : List Home). Contains homes home) (one_list d.pages None (stood.set.indexes t) [] (its_index None none) tt) inside in
            absurd (omega (arith, nothing.1))
        by_chain (Some cs) some =
            let m = begun t cs some in (
              m.at,
              tagged t cs some,
              subst (λ (homes : List Home). Contains homes home)
                  (one_list d.pages (index_of cs) (stood.set.indexes t) (indexes m.at) (its_index (Some cs) some) (subst (λ o. AreIndexHomes d.pages (option_and_then index_of o) (indexes m.at)) m.is (below.chains.indexed m.at)))
                  inside,
              low_file cs some (cell_of d.pages (d.tags n) t) (subst (λ o. IfSome o (LeadsToFile n (d.tags n) d.pages t)) some (stood.set.stands.together.files.some t)).leads,
            )

    index_page : (t : Tag) (home : Home) → Contains (stood.set.indexes t) home → IsPageOfSlot n d files indexes home
    index_page t home inside =
        let i = in_index t home inside in
        let place = in_get (indexes i.0) home i.2 in
        inr (inr (i.0, place.0, i.1, place.1))

    -- what is held and of the slot is held, and none of cells
    member_now : (vol p : ℕ) → Contains (table_of now.cells vol) p → IsMember now.frame.anchor vol
    member_now vol p on = ⊎_elim
        (λ member. member)
        (λ none. let e : length (table_of now.cells vol) ≡ 0 = ap length (after.tables.cells.others vol none) in absurd (omega (arith, e, on.1)))
        (member_or_none now.frame.anchor vol)

    apart_now : (home : Home) (holder : Holder) → Holds now files_now indexes_now holder home → ¬ holder ≡ of_cells → IsPageOfSlot n d files indexes home → 1 ≤ home.vol → IsHeldApart d.space d.cells home → IsHeldApart now.space now.cells home
    apart_now home holder holds other of low was = record {
      held = k.held home of low was.held;
      off_table = λ on. other (after.owned.once home holder of_cells holds (member_now home.vol home.page on, on));
    }

    -- ---- its set

    tag_same : (j : ℕ) → IfSome (slice_get (d.tags n) j) (λ place. now.pages place.home ≡ d.pages place.home)
    tag_same = pages_same d.pages now.pages (d.tags n) (λ home has_it. k.pages home (inl has_it))

    leads_same : (t : Tag) → cell_of now.pages (d.tags n) t ≡ cell_of d.pages (d.tags n) t
    leads_same t = cell_same d.pages now.pages (d.tags n) begins.directory tag_same t

    leads_now : (t : Tag) (cs : List PlacedCell) → its t ≡ Some cs → LeadsToFile n (d.tags n) d.pages t cs → LeadsToFile n (d.tags n) now.pages t cs
    leads_now t cs some led = record {
      leads = subst (λ o. IsSomeAnd o (λ a. IsFile now.pages a cs)) (sym (leads_same t)) (by_cell (cell_of d.pages (d.tags n) t) (tagged t cs some).1 led.leads);
      is_of = led.is_of;
      kinds = led.kinds;
    }
      where
        by_cell : (o : Option CellAt) → cell_of d.pages (d.tags n) (tagged t cs some).0 ≡ Some (begun t cs some).at → IsSomeAnd o (λ a. IsFile d.pages a cs) → IsSomeAnd o (λ a. IsFile now.pages a cs)
        by_cell None at led = led
        by_cell (Some a) at led = subst (λ (b : CellAt). IsFile now.pages b cs) (sym (file_start d.pages a (begun t cs some).at cs led (begun t cs some).start))
            (is_file now.pages (begun t cs some).at cs (stands_now t cs some).stands 1 (λ e. omega (arith, e)) (λ e. omega (arith, e)) (has_attributes d.pages a cs led))

    files_now_are : AreFiles n (d.tags n) now.pages its
    files_now_are =
        let was = stood.set.stands.together.files in
        record {
          directory = directory_same d.pages now.pages (d.tags n) was.directory tag_same;
          none = λ t none. leads_same t ∙ was.none t none;
          some = λ t. by_chain t (its t) refl (was.some t);
          apart = was.apart;
        }
      where
        by_chain : (t : Tag) (o : Option (List PlacedCell)) → its t ≡ o → IfSome o (LeadsToFile n (d.tags n) d.pages t) → IfSome o (LeadsToFile n (d.tags n) now.pages t)
        by_chain t None none led = tt
        by_chain t (Some cs) some led = leads_now t cs some led

    together_now : AreTogether n (d.tags n) now.space now.cells now.pages its
    together_now =
        let was = stood.set.stands.together in
        record {
          files = files_now_are;
          allocated = after.chains.well.together.allocated;
          on_tables = λ t. by_chain t (its t) refl;
          tag_pages = λ home has_it. apart_now home (of_tags n) (ap (λ (ps : List TagPlace). has_home ps home) k.tags ∙ has_it) (λ e. cc) (inl has_it) (among.low home has_it) (was.tag_pages home has_it);
          file_pages = λ t page home at.
              let f = in_file t page home at in
              record {
                apart = apart_now home (of_file f.0 page) (ap (λ o. option_map_or (λ cs. places_of cs page) o Absent) (k.chains f.0 f.1) ∙ f.2) (λ e. cc) (file_page t page home at)
                    (low_home d.space d.cells d.pages files below.chains.well.together f.0 page home f.2) (was.file_pages t page home at).apart;
                no_tags = (was.file_pages t page home at).no_tags;
              };
          once = was.once;
        }
      where
        by_chain : (t : Tag) (o : Option (List PlacedCell)) → its t ≡ o → IfSome o (AreOnTables now.cells)
        by_chain t None none = tt
        by_chain t (Some cs) some = (stands_now t cs some).on_tables

    shown_now : StandsShown n (d.tags n) now.space now.cells now.pages its stood.set.indexes shape.shown
    shown_now = record {
      together = together_now;
      shows = λ t. shown_still d.pages now.pages its stood.set.indexes t (shape.shown t) (stood.set.stands.indexed t) (λ page home at. k.pages home (file_page t page home at)) (λ home inside. k.pages home (index_page t home inside)) (stood.set.stands.shows t);
      indexed = λ t. kept_same d.pages now.pages (option_and_then index_of (its t)) (stood.set.indexes t) (stood.set.stands.indexed t) (λ home inside. k.pages home (index_page t home inside));
      stand = λ t home inside.
          let i = in_index t home inside in
          let place = in_get (indexes i.0) home i.2 in
          record {
            apart = apart_now home (of_index i.0 place.0) (subst (λ (homes : List Home). slice_get homes place.0 ≡ Some home) (sym (k.homes i.0 i.1)) place.1) (λ e. cc) (index_page t home inside) i.3 (stood.set.stands.stand t home inside).apart;
            no_tags = (stood.set.stands.stand t home inside).no_tags;
          };
      apart = stood.set.stands.apart;
      once = stood.set.stands.once;
    }

    -- ---- its shape

    own_chains : (t : Tag) → stood.is.chains t ≡ its t
    own_chains =
        let h = stood.is.has in
        one_chains d.pages n (d.tags n) stood.is.chains its
        (subst (λ (ps : List TagPlace). AreFiles n ps d.pages stood.is.chains) (same_directory d.pages entry.first_tag h.places (d.tags n) h.directory begins) h.files) stood.set.stands.together.files

    quotas_still : (o : Option CellAt) → entry.quota ≡ o → (records : List Record) → AreQuotas d.pages o records → AreQuotas now.pages o records
    quotas_still None none records are = are
    quotas_still (Some at) quota records are = by_chain (files at) refl (below.chains.quotas n at named_it) (after.chains.quotas n at (k.quota ∙ named_it))
      where
        named_it : option_and_then quota_of (item_in d n) ≡ Some at
        named_it = ap (option_and_then quota_of) there ∙ quota

        by_chain : (o : Option (List PlacedCell)) → files at ≡ o → IsSomeAnd o (AreQuotasOf d n at) → IsSomeAnd (files_now at) (AreQuotasOf now n at) → AreQuotas now.pages (Some at) records
        by_chain None none quotas quotas_then = absurd quotas
        by_chain (Some cs) some quotas quotas_then = (
          cs,
          links_of now.pages at cs (subst (λ o. IsSomeAnd o (AreQuotasOf now n at)) (k.quotas at named_it ∙ some) quotas_then).quotas,
          are.2 ∙ ap records_of (links_same d.pages at are.0 cs are.1 (links_of d.pages at cs quotas.quotas)),
        )

    shape_now : IsOriginal now.pages n entry shape
    shape_now = record {
      none = stood.is.none;
      chains = its;
      has = record {
        places = d.tags n;
        directory = record { directory = files_now_are.directory; begins = begins.begins };
        files = files_now_are;
      };
      files = λ t. stood.is.files t ∙ ap (option_and_then seen_in) (own_chains t);
      shown = shown_now.shows;
      limits = record { records = stood.is.limits.records; quotas = quotas_still entry.quota refl stood.is.limits.records stood.is.limits.quotas; each = stood.is.limits.each };
    }

    agree : AgreeOnShape d.contents now.contents shape
    agree t seen at page home stands = by_chain (its t) refl (sym (ap (option_and_then seen_in) (own_chains t)) ∙ sym (stood.is.files t) ∙ at)
      where
        by_chain : (o : Option (List PlacedCell)) → its t ≡ o → option_and_then seen_in o ≡ Some seen → d.contents home ≡ now.contents home
        by_chain None none seen_is = absurd (none_not seen seen_is)
        by_chain (Some cs) some seen_is =
            let m = begun t cs some in
            sym (k.bytes home (m.at, page, tagged t cs some, ap (λ o. option_map_or (λ cs. places_of cs page) o Absent) m.is ∙ seen_place cs seen page home stands seen_is))

    pub slot_stays_as : StandsSlot now n entry shape fileset
    slot_stays_as = record {
      is = shape_now;
      filled = fills d.contents now.contents shape fileset agree stood.filled;
      set = subst (λ (ps : List TagPlace). StandsAsSet n ps now.space now.cells now.pages shape.shown) (sym k.tags)
          (record { chains = its; indexes = stood.set.indexes; stands = shown_now; whole = stood.set.whole; bare = stood.set.bare; low = stood.set.low });
    }

-- and so it is where the table says the same of it
pub slot_stays_so : (n : ℕ) (d now : DomainNow) (files files_now : Files) (indexes indexes_now : IndexesAt) → StandsBelow d files indexes → StandsBelow now files_now indexes_now → KeepsSlot n d now files files_now indexes indexes_now
    → (entry : FilesetEntry) (shape : FilesetShape) (fileset : FilesetSlot) → item_in d n ≡ Some (slot.Original entry) → StandsSlot d n entry shape fileset → StandsSlot now n entry shape fileset
slot_stays_so n d now files files_now indexes indexes_now below after k =
    slot_stays_as n d now files files_now indexes indexes_now below after
    (record {
      quota = ap (option_and_then quota_of) k.item;
      tags = k.tags;
      chains = k.chains;
      quotas = k.quotas;
      homes = k.homes;
      pages = k.pages;
      held = k.held;
      bytes = k.bytes;
    })
