-- The filesets of a domain stand on where no page of them changes, nor its bytes.
use Rattle.std.proofs.Common.{◌≡◌, ◌∙◌, ℕ, true, false, List, [], ◌∷◌, Option, Some, None, IfSome, IsSomeAnd, Contains, is_some, slice_get, refl, sym, ap, subst, arith, ⊎_elim}
use Rattle.std.specs.List.{AllByRecursion}
use Rattle.std.specs.Option.{option_and_then, option_map_or}
use Rattle.domain_standing.specs.domain_base.declared.place.CellAt.{CellAt}
use Rattle.domain_standing.specs.domain_base.declared.place.Home.{Home}
use Rattle.domain_standing.specs.domain_base.declared.place.Tag.{Tag}
use Rattle.domain_standing.specs.page_store.Pages.{Pages}
use Rattle.domain_standing.specs.cell_records.declared.record.Record.{Record}
use Rattle.domain_standing.specs.metadata_cells.CellPage.{cell_at, home_of}
use Rattle.domain_standing.specs.metadata_cells.Chain.{PlacedCell, records_of}
use Rattle.domain_standing.specs.tag_dirs.Directory.{IsDirectoryAt}
use Rattle.domain_standing.specs.tag_dirs.declared.dir.TagPlace.{TagPlace}
use Rattle.domain_standing.proofs.OfTagDirs.Reading.{same_directory}
use Rattle.domain_standing.specs.extent_maps.declared.run.PagePlace.TheVariants.{Absent, At}
use Rattle.domain_standing.specs.free_cells.Cells.{table_of}
use Rattle.domain_standing.specs.file_chains.FileChanges.{AreOnTables}
use Rattle.domain_standing.specs.file_chains.Files.{places_of}
use Rattle.domain_standing.specs.fileset_files.Files.{AreFiles, Chains, place_at}
use Rattle.domain_standing.specs.fileset_files.Shown.{index_of}
use Rattle.domain_standing.proofs.OfFilesetFiles.Created.{allocated_beside, one_chains}
use Rattle.domain_standing.specs.index_pages.Homes.{AreIndexHomes}
use Rattle.domain_standing.proofs.OfIndexPages.Homes.{one_list}
use Rattle.domain_standing.specs.stored_set.Elsewhere.{AllStay}
use Rattle.domain_standing.proofs.OfStoredSet.AnotherSet.{stands_again}
use Rattle.domain_standing.specs.stored_set.Sets.{StandsAsSet}
use Rattle.domain_standing.specs.fileset_model.Filesets.{FilesetMap}
use Rattle.domain_standing.specs.fileset_table.Table.{entry_of}
use Rattle.domain_standing.specs.fileset_table.declared.slot.FilesetEntry.{FilesetEntry}
use Rattle.domain_standing.specs.fileset_table.declared.slot.SlotItem.{SlotItem}
use Rattle.domain_standing.specs.fileset_table.declared.slot.SlotItem.TheVariants as slot
use Rattle.domain_standing.specs.release_list.Standing.{Files, place_in}
use Rattle.domain_standing.specs.release_steps.Tags.{AreAmong}
use Rattle.domain_standing.proofs.OfReleaseSteps.Tags.{IsNamed, named}
use Rattle.domain_standing.proofs.OfDomainLayout.OneShape.{links_same}
use Rattle.domain_standing.specs.domain_layout.CellRules.{of_clone}
use Rattle.domain_standing.specs.domain_layout.Filled.{Contents}
use Rattle.domain_standing.specs.domain_layout.Layout.{first_tag_of}
use Rattle.domain_standing.specs.domain_layout.Seen.{seen_in}
use Rattle.domain_standing.specs.domain_layout.Shape.{AreQuotas, FilesetShape, HasFileset, IsOriginal, IsShapeOf}
use Rattle.domain_standing.specs.domain_layout.TagRules.{quota_of}
use Rattle.domain_standing.specs.domain_layout.Agreeing.{AgreeOn, AgreeOnShape}
use Rattle.domain_standing.proofs.OfDomainLayout.FilledAlike.{filled_at_homes}
use Rattle.domain_standing.specs.Chains.{AreQuotasOf, HasFilesAmong, IndexesAt, IsRemoved, StandsInSlot}
use Rattle.domain_standing.specs.Domain.{DomainNow, all_of, item_in}
use Rattle.domain_standing.specs.Holders.{Holder, Holds}
use Rattle.domain_standing.specs.Holders.Holder.{of_cells, of_file, of_index, of_tags}
use Rattle.domain_standing.specs.Slots.{StandSlots}
use Rattle.standing_laws.specs.Leads.{StandsBelow}
use Rattle.standing_laws.specs.OtherPages.{KeepsBytes, KeepsPages, KeepsPlaces}
use Rattle.standing_laws.proofs.HomeLists.{in_get}
use Rattle.standing_laws.proofs.OtherSlots.{links_of, seen_place}
use Rattle.standing_laws.proofs.OthersStand.{IsOfFilesets, SaysWhere, member_on, of_filesets, placed, quotas_kept, says_more}

none_not : {X : Type 0} (x : X) → ¬ None ≡ Some x
none_not x is = cc

absent_not : (home : Home) → ¬ Absent ≡ At home
absent_not home is = cc

module _ (d : DomainNow) (files : Files) (indexes : IndexesAt) (below : StandsBelow d files indexes) (pages : Pages) (contents : Contents)
    (keeps : (holder : Holder) (home : Home) → IsOfFilesets holder → Holds d files indexes holder home → pages home ≡ d.pages home)
    (bytes : (at : CellAt) (page : ℕ) (home : Home) → Holds d files indexes (of_file at page) home → contents home ≡ d.contents home) where
  abbrev keeps_where : (holder : Holder) (home : Home) → SaysWhere holder → Holds d files indexes holder home → pages home ≡ d.pages home
  keeps_where = λ holder home says held. keeps holder home (says_more holder says) held

  on_table : (home : Home) → Contains (table_of d.cells home.vol) home.page → pages home ≡ d.pages home
  on_table home on = keeps of_cells home tt (member_on d files indexes below pages contents keeps_where home.vol home.page on, on)

  module _ (n : ℕ) (entry : FilesetEntry) (shape : FilesetShape) (there : item_in d n ≡ Some (slot.Original entry)) (is : IsOriginal d.pages n entry shape) (set : StandsAsSet n (d.tags n) d.space d.cells d.pages shape.shown) where
    abbrev its : Chains
    its = set.chains

    begins : IsDirectoryAt d.pages entry.first_tag (d.tags n)
    begins = below.tables.laid.tags n (slot.Original entry) there

    has : HasFilesAmong d files n
    has = ⊎_elim
        (λ among. among)
        (λ empty. absurd (subst IsRemoved there empty.removed))
        (subst (λ o. StandsInSlot d files n (option_and_then first_tag_of o)) there (below.chains.slots n))

    same_chains : has.chains ≡ its
    same_chains = λ k t. one_chains d.pages n (d.tags n) has.chains its has.are set.stands.together.files t k

    among : AreAmong (all_of d files) (d.tags n) its
    among = subst (AreAmong (all_of d files) (d.tags n)) same_chains has.among

    begun : (t : Tag) (cs : List PlacedCell) → its t ≡ Some cs → IsNamed files cs
    begun t cs some = named files its t cs some (among.same t)

    -- ---- the pages of its files and indexes

    in_file : (t : Tag) (page : ℕ) (home : Home) → place_at its t page ≡ At home → (at : CellAt) × (place_in files at page ≡ At home)
    in_file t page home at = by_chain (its t) refl at
      where
        by_chain : (o : Option (List PlacedCell)) → its t ≡ o → option_map_or (λ cs. places_of cs page) o Absent ≡ At home → (a : CellAt) × (place_in files a page ≡ At home)
        by_chain None none at = absurd (absent_not home at)
        by_chain (Some cs) some at = let m = begun t cs some in (m.at, ap (λ o. option_map_or (λ cs. places_of cs page) o Absent) m.is ∙ at)

    page_same : (t : Tag) (page : ℕ) (home : Home) → place_at its t page ≡ At home → pages home ≡ d.pages home
    page_same t page home at = let f = in_file t page home at in keeps (of_file f.0 page) home tt f.1

    index_there : (t : Tag) (home : Home) → Contains (set.indexes t) home → (at : CellAt) × Contains (indexes at) home
    index_there t home inside = by_chain (its t) refl
      where
        its_index : (o : Option (List PlacedCell)) → its t ≡ o → AreIndexHomes d.pages (option_and_then index_of o) (set.indexes t)
        its_index o is_o = subst (λ o. AreIndexHomes d.pages (option_and_then index_of o) (set.indexes t)) is_o (set.stands.indexed t)

        by_chain : (o : Option (List PlacedCell)) → its t ≡ o → (at : CellAt) × Contains (indexes at) home
        by_chain None none =
            let nothing : Contains [] home = subst (λ (homes : List Home). Contains homes home) (one_list d.pages None (set.indexes t) [] (its_index None none) tt) inside in
            absurd (omega (arith, nothing.1))
        by_chain (Some cs) some =
            let m = begun t cs some in (
              m.at,
              subst (λ (homes : List Home). Contains homes home)
                  (one_list d.pages (index_of cs) (set.indexes t) (indexes m.at) (its_index (Some cs) some) (subst (λ o. AreIndexHomes d.pages (option_and_then index_of o) (indexes m.at)) m.is (below.chains.indexed m.at)))
                  inside,
            )

    index_same : (t : Tag) (home : Home) → Contains (set.indexes t) home → pages home ≡ d.pages home
    index_same t home inside =
        let it = index_there t home inside in
        let place = in_get (indexes it.0) home it.1 in
        keeps (of_index it.0 place.0) home tt place.1

    -- ---- its set

    cells_same : (cs : List PlacedCell) → AreOnTables d.cells cs → AllByRecursion (λ (c : PlacedCell). cell_at pages c.at ≡ cell_at d.pages c.at) cs
    cells_same [] on = tt
    cells_same (c ∷ cs) on = (
      ap (λ (o : Option (List ℕ)). cell_at (λ _. o) c.at) (on_table (home_of c.at) on.0),
      cells_same cs on.1,
    )

    stays : AllStay (d.tags n) d.space d.cells d.pages pages its set.indexes
    stays = record {
      allocated = allocated_beside d.space d.cells d.pages pages on_table set.stands.together.allocated;
      on_tables = set.stands.together.on_tables;
      cells_stay = λ t. by_chain (its t) (set.stands.together.on_tables t);
      tags = λ home has_it. record { same = keeps (of_tags n) home tt has_it; apart = set.stands.together.tag_pages home has_it };
      pages = λ t page home at. record { same = page_same t page home at; apart = (set.stands.together.file_pages t page home at).apart };
      index_pages = λ t home inside. record { same = index_same t home inside; apart = (set.stands.stand t home inside).apart };
    }
      where
        by_chain : (o : Option (List PlacedCell)) → IfSome o (AreOnTables d.cells) → IfSome o (AllByRecursion (λ (c : PlacedCell). cell_at pages c.at ≡ cell_at d.pages c.at))
        by_chain None on = tt
        by_chain (Some cs) on = cells_same cs on

    pub set_now : StandsAsSet n (d.tags n) d.space d.cells pages shape.shown
    set_now = record {
      chains = its;
      indexes = set.indexes;
      stands = stands_again n (d.tags n) d.space d.space d.cells d.cells d.pages pages its set.indexes shape.shown set.stands stays;
      whole = set.whole;
      bare = set.bare;
      low = set.low;
    }

    -- ---- its shape

    own_chains : (t : Tag) → is.chains t ≡ its t
    own_chains =
        let h = is.has in
        one_chains d.pages n (d.tags n) is.chains its
        (subst (λ (ps : List TagPlace). AreFiles n ps d.pages is.chains) (same_directory d.pages entry.first_tag h.places (d.tags n) h.directory begins) h.files) set.stands.together.files

    quotas_still : (o : Option CellAt) → entry.quota ≡ o → (records : List Record) → AreQuotas d.pages o records → AreQuotas pages o records
    quotas_still None none records are = are
    quotas_still (Some at) quota records are = by_chain (files at) refl (below.chains.quotas n at (ap (option_and_then quota_of) there ∙ quota))
      where
        by_chain : (o : Option (List PlacedCell)) → files at ≡ o → IsSomeAnd o (AreQuotasOf d n at) → AreQuotas pages (Some at) records
        by_chain None none quotas = absurd quotas
        by_chain (Some cs) some quotas = (
          cs,
          links_of pages at cs (quotas_kept d files indexes below pages contents keeps_where n at cs some quotas),
          are.2 ∙ ap records_of (links_same d.pages at are.0 cs are.1 (links_of d.pages at cs quotas.quotas)),
        )

    pub shape_now : IsOriginal pages n entry shape
    unfolding set_now
    shape_now = record {
      none = is.none;
      chains = its;
      has = record {
        places = d.tags n;
        directory = record { directory = set_now.stands.together.files.directory; begins = begins.begins };
        files = set_now.stands.together.files;
      };
      files = λ t. is.files t ∙ ap (option_and_then seen_in) (own_chains t);
      shown = set_now.stands.shows;
      limits = record { records = is.limits.records; quotas = quotas_still entry.quota refl is.limits.records is.limits.quotas; each = is.limits.each };
    }

    -- ---- its bytes

    pub bytes_same : AgreeOnShape d.contents contents shape
    bytes_same t seen at page home stands = by_chain (its t) refl (sym (ap (option_and_then seen_in) (own_chains t)) ∙ sym (is.files t) ∙ at)
      where
        by_chain : (o : Option (List PlacedCell)) → its t ≡ o → option_and_then seen_in o ≡ Some seen → d.contents home ≡ contents home
        by_chain None none seen_is = absurd (none_not seen seen_is)
        by_chain (Some cs) some seen_is =
            let m = begun t cs some in
            sym (bytes m.at page home (ap (λ o. option_map_or (λ cs. places_of cs page) o Absent) m.is ∙ seen_place cs seen page home stands seen_is))

  -- ---- all of them

  module _ (all : FilesetMap) (slots : StandSlots d all) where
    shape_of : (n : ℕ) (entry : FilesetEntry) → item_in d n ≡ Some (slot.Original entry) → IsSomeAnd (slots.shapes entry.name) (IsOriginal d.pages n entry)
    shape_of n entry there = slots.are.each n (slot.Original entry) there

    original_now : (n : ℕ) (entry : FilesetEntry) → item_in d n ≡ Some (slot.Original entry) → IsSomeAnd (slots.shapes entry.name) (IsOriginal pages n entry)
    original_now n entry there = by_shape (slots.shapes entry.name) refl (shape_of n entry there)
      where
        by_shape : (o : Option FilesetShape) → slots.shapes entry.name ≡ o → IsSomeAnd o (IsOriginal d.pages n entry) → IsSomeAnd o (IsOriginal pages n entry)
        by_shape None some is = absurd is
        by_shape (Some shape) some is = shape_now n entry shape there is (slots.sets n entry shape there some)

    each_now : (n : ℕ) (item : SlotItem) → slice_get d.table.slots n ≡ Some item → IfSome (entry_of item) (λ entry. IsShapeOf d.pages d.table n item (slots.shapes entry.name)) → IfSome (entry_of item) (λ entry. IsShapeOf pages d.table n item (slots.shapes entry.name))
    each_now n slot.Free there is = is
    each_now n (slot.Original entry) there is = original_now n entry there
    each_now n (slot.Clone of clone entry) there is = absurd (true_not_false (ap of_clone (sym there) ∙ slots.no_clone n))
      where
        true_not_false : true ≡ false → ⊥
        true_not_false e = cc
    each_now n (slot.Removed first_tag quota) there is = is

    pub agree : AgreeOn d.contents contents slots.shapes
    agree name shape some = by_slot (slots.are.only name (ap is_some some))
      where
        by_item : (n : ℕ) (item : SlotItem) → slice_get d.table.slots n ≡ Some item → IsSomeAnd (entry_of item) (λ entry. entry.name ≡ name) → AgreeOnShape d.contents contents shape
        by_item n slot.Free there is_named = absurd is_named
        by_item n (slot.Original entry) there is_named =
            let some_shape : slots.shapes entry.name ≡ Some shape = ap slots.shapes is_named ∙ some in
            bytes_same n entry shape there (subst (λ o. IsSomeAnd o (IsOriginal d.pages n entry)) some_shape (shape_of n entry there)) (slots.sets n entry shape there some_shape)
        by_item n (slot.Clone of clone entry) there is_named = absurd (true_not_false (ap of_clone (sym there) ∙ slots.no_clone n))
          where
            true_not_false : true ≡ false → ⊥
            true_not_false e = cc
        by_item n (slot.Removed first_tag quota) there is_named = absurd is_named

        by_slot : HasFileset d.table name → AgreeOnShape d.contents contents shape
        by_slot h = by_item h.number h.item h.there h.named

    pub slots_on : StandSlots (placed d files indexes below pages contents keeps_where) all
    slots_on = record {
      shapes = slots.shapes;
      are = record { each = λ n item there. each_now n item there (slots.are.each n item there); only = slots.are.only };
      filled = filled_at_homes d.contents contents slots.shapes all agree slots.filled;
      sets = λ n entry shape there some. set_now n entry shape there (subst (λ o. IsSomeAnd o (IsOriginal d.pages n entry)) some (shape_of n entry there)) (slots.sets n entry shape there some);
      no_clone = slots.no_clone;
    }

pub slots_kept : (d now : DomainNow) (files : Files) (indexes : IndexesAt) (all : FilesetMap) → StandsBelow d files indexes → KeepsPlaces d now → KeepsPages d now files indexes → KeepsBytes d now files indexes → StandSlots d all → StandSlots now all
slots_kept d now files indexes all below same keeps bytes slots = subst (λ (x : DomainNow). StandSlots x all) (sym same)
    (slots_on d files indexes below now.pages now.contents (λ holder home is held. let of = of_filesets holder is in keeps home holder held of.0 of.1) (λ a page home held. let of = of_filesets (of_file a page) tt in bytes home (of_file a page) held of.0 of.1) all slots)
