-- A domain stands on where an original joins its table whose tag directory is one new page.
use Rattle.std.proofs.Common.{◌≡◌, ◌∙◌, ◌⊎◌, ⊎_elim, inl, inr, ℕ, zero, suc, ◌<◌, ◌≤◌, ◌==◌, ◌||◌, ◌&&◌, Bool, true, false, not, cond, List, [], ◌∷◌, length, Option, Some, None, IfSome, IsSomeAnd, Contains, slice_get, slice_index, slice_set, refl, sym, ap, subst, arith}
use Rattle.std.proofs.lemmas.Bool.{both_ways, cases_Bool, eq-eqb, eqb-true, false_from_ne_true, or_left, true≢false}
use Rattle.std.specs.FinSet.{contains}
use Rattle.std.specs.List.{AllByRecursion}
use Rattle.std.specs.Option.{option_and_then, option_map_or}
use Rattle.domain_standing.specs.domain_base.declared.place.CellAt.{CellAt}
use Rattle.domain_standing.specs.domain_base.declared.place.Home.{Home}
use Rattle.domain_standing.specs.domain_base.declared.place.Tag.{Tag}
use Rattle.domain_standing.specs.log_ring.Homes.{IsMember}
use Rattle.domain_standing.specs.page_store.Pages.{Pages, same_home}
use Rattle.domain_standing.specs.cell_records.declared.record.Leftover.TheVariants.{Remove, Trim}
use Rattle.domain_standing.specs.cell_records.declared.record.Record.{Record}
use Rattle.domain_standing.specs.cell_records.declared.record.Record.TheVariants as written
use Rattle.domain_standing.specs.metadata_cells.Cell.{Cell, record_of}
use Rattle.domain_standing.specs.metadata_cells.CellPage.{home_of, is_free_in}
use Rattle.domain_standing.specs.metadata_cells.Chain.{PlacedCell, StandsAt, places as cell_places}
use Rattle.domain_standing.specs.metadata_cells.declared.head.CellKind.TheVariants.{Chain, Primary, Quota, Volume}
use Rattle.domain_standing.proofs.OfMetadataCells.Changed.{homes_same, same_itself}
use Rattle.domain_standing.proofs.OfMetadataCells.Unique.{one_stands}
use Rattle.domain_standing.specs.tag_dirs.Directory.{cell_of, has_home}
use Rattle.domain_standing.specs.tag_dirs.TagPage.{IsNewPage}
use Rattle.domain_standing.specs.tag_dirs.declared.dir.TagPlace.{TagPlace}
use Rattle.domain_standing.specs.extent_maps.declared.run.PagePlace.TheVariants.{Absent, At}
use Rattle.domain_standing.specs.free_cells.Cells.{table_of}
use Rattle.domain_standing.specs.free_space.Spaces.{CanTake, Spaces, change_volume, volume_of}
use Rattle.domain_standing.specs.free_space.VolumeSpace.{IsFreePage, VolumeSpace, is_waiting, with_page}
use Rattle.domain_standing.proofs.OfFreeSpace.Places.{free_can, held_taken}
use Rattle.domain_standing.specs.file_chains.Allocated.{AreAllocated}
use Rattle.domain_standing.specs.file_chains.FileChanges.{AreOnTables}
use Rattle.domain_standing.specs.file_chains.Files.{IsFile}
use Rattle.domain_standing.proofs.OfFileChains.ChainChanges.{stand_file}
use Rattle.domain_standing.specs.fileset_files.Files.{AreFiles, IsOf, LeadsToFile, first_record, is_removed, says_remove}
use Rattle.domain_standing.specs.fileset_files.Shown.{index_of}
use Rattle.domain_standing.specs.fileset_files.Together.{IsHeldApart}
use Rattle.domain_standing.proofs.OfFilesetFiles.Created.{allocated_beside, stands_by_page}
use Rattle.domain_standing.proofs.OfFilesetFiles.Grown.{allocated_taken}
use Rattle.domain_standing.proofs.OfFilesetFiles.NewDirectory.{new_names_none}
use Rattle.domain_standing.proofs.OfFilesetFiles.OneChain.{file_by}
use Rattle.domain_standing.proofs.OfFilesetFiles.Tags.{cell_same, directory_same, pages_same}
use Rattle.domain_standing.specs.index_pages.Homes.{AreIndexHomes}
use Rattle.domain_standing.proofs.OfIndexPages.Homes.{kept_same}
use Rattle.domain_standing.specs.fileset_table.Page.{IsTablePage}
use Rattle.domain_standing.specs.fileset_table.Table.{Table, with_slot}
use Rattle.domain_standing.specs.fileset_table.declared.slot.FilesetEntry.{FilesetEntry}
use Rattle.domain_standing.specs.fileset_table.declared.slot.SlotItem.{SlotItem}
use Rattle.domain_standing.specs.fileset_table.declared.slot.SlotItem.TheVariants as slot
use Rattle.domain_standing.proofs.OfFilesetTable.Leaving.{get_other}
use Rattle.domain_standing.specs.release_list.Listed.{left_of, leftover_in}
use Rattle.domain_standing.specs.release_list.Standing.{Files, IsFileOrQuotas, IsQuotaCell, IsQuotas, IsStanding, place_in}
use Rattle.domain_standing.specs.release_list.Steps.{IsWell}
use Rattle.domain_standing.proofs.OfReleaseList.Spread.{none_not, some_same}
use Rattle.domain_standing.proofs.OfReleaseList.Standings.{chain_by, each_from, low_home, quota_first, stand_chain, standing}
use Rattle.domain_standing.specs.release_steps.Calls.{StandsWell}
use Rattle.domain_standing.specs.release_steps.Links.{homes_of}
use Rattle.domain_standing.specs.release_steps.Tags.{AreAmong}
use Rattle.domain_standing.proofs.OfReleaseSteps.StillAmong.{file_of_tag}
use Rattle.domain_standing.proofs.OfReleaseSteps.Tags.{has_attributes}
use Rattle.domain_standing.proofs.OfDomainLayout.Reached.{member_or_none}
use Rattle.domain_standing.specs.Space.{IsFreeAt}
use Rattle.domain_standing.specs.domain_layout.CellRules.{IsFirstPlace, has_first_records, has_its_kinds, has_kind, is_good_first, item_of, keeps_well, of_clone, of_original, say_removed}
use Rattle.domain_standing.specs.domain_layout.Filled.{Contents}
use Rattle.domain_standing.specs.domain_layout.Layout.{AreTagPlaces, IsCellTable, IsPageAt, first_tag_of}
use Rattle.domain_standing.specs.domain_layout.Owners.{IsOnTable}
use Rattle.domain_standing.specs.domain_layout.Reached.{first_cells}
use Rattle.domain_standing.specs.domain_layout.TagRules.{IsLate, quota_of}
use Rattle.domain_standing.specs.Chains.{AreQuotasOf, HasEmptyTags, HasFilesAmong, IndexesAt, IsQuotaOf, IsQuotaToGo, IsRemoved, IsSomebodys, IsTagged, StandChains, StandsInSlot}
use Rattle.domain_standing.specs.Domain.{DomainNow, all_of, item_in, layout_of, named_by}
use Rattle.domain_standing.specs.Holders.{AreHeldAt, AreHeldOn, Holder, Holds, HoldsOwned, IsUnheld}
use Rattle.domain_standing.specs.Holders.Holder.{of_cells, of_file, of_index, of_log, of_table, of_tags, of_volume}
use Rattle.domain_standing.specs.Rest.{HasNoHoles, IsOfOriginal, SaysTheRest, StaysInOriginal}
use Rattle.domain_standing.specs.Tables.{HasVolumeCell, StandTables, first_place}
use Rattle.standing_laws.specs.Leads.{StandsBelow, fileset_now}
use Rattle.standing_laws.specs.NewFileset.{JoinsEmpty, no_chains}
use Rattle.standing_laws.specs.Slots.{StandsSlot}
use Rattle.standing_laws.specs.SlotsStay.{IsPageOfSlot, KeepsSlot, OthersStand}
use Rattle.standing_laws.proofs.CellsNow.{all_in, later_chain, placed}
use Rattle.standing_laws.proofs.IndexSpaces.{Is, NoHome, SpacesMove, ThereMoves, VolumeMoves, held_still, moves_page}
use Rattle.standing_laws.proofs.HomeLists.{in_get}
use Rattle.standing_laws.proofs.IndexWell.{listed_has}
use Rattle.standing_laws.proofs.RestRecords.{good_records, good_removed}
use Rattle.standing_laws.proofs.SlotStays.{slot_stays_so}
use Rattle.standing_laws.proofs.TablesStand.{first_in, index_in}
use Rattle.standing_laws.proofs.TablesTaken.{unheld_taken}

-- a record says that all is to be removed
remove_said : (o : Option Record) → option_and_then leftover_in o ≡ Some Remove → option_map_or says_remove o false ≡ true
remove_said None is = absurd (none_not Remove is)
remove_said (Some (written.Pending Remove)) is = refl
remove_said (Some (written.Pending Trim)) is = absurd (trim_not (some_same Trim Remove is))
  where
    trim_not : Trim ≡ Remove → ⊥
    trim_not e = cc
remove_said (Some (written.Attributes kind uid gid flags size keep links birth unsynced)) is = absurd (none_not Remove is)
remove_said (Some (written.CloneFile vol cell page frozen)) is = absurd (none_not Remove is)
remove_said (Some (written.Extents rows)) is = absurd (none_not Remove is)
remove_said (Some (written.ShortExtents rows)) is = absurd (none_not Remove is)
remove_said (Some (written.Holes rows)) is = absurd (none_not Remove is)
remove_said (Some (written.UserQuota id files blocks)) is = absurd (none_not Remove is)
remove_said (Some (written.GroupQuota id files blocks)) is = absurd (none_not Remove is)
remove_said (Some (written.DirIndex vol page entries)) is = absurd (none_not Remove is)
remove_said (Some (written.Parent slot seq)) is = absurd (none_not Remove is)
remove_said (Some (written.Stripe width mark vols)) is = absurd (none_not Remove is)
remove_said (Some (written.Volume vol pages bitmap_pages)) is = absurd (none_not Remove is)
remove_said (Some (written.DenseExtents rows)) is = absurd (none_not Remove is)
remove_said (Some (written.ShortDense rows)) is = absurd (none_not Remove is)

-- a slot that is there has what is put into it
pub get_set : (xs : List SlotItem) (n : ℕ) (y x : SlotItem) → slice_get xs n ≡ Some x → slice_get (slice_set xs n y) n ≡ Some y
get_set [] n y x is = absurd (none_not x is)
get_set (z ∷ xs) zero y x is = refl
get_set (z ∷ xs) (suc n) y x is = get_set xs n y x is

module _ (d : DomainNow) (files : Files) (indexes : IndexesAt) (below : StandsBelow d files indexes) (number : ℕ) (entry : FilesetEntry) (free_slot : item_in d number ≡ Some slot.Free) (no_quota : entry.quota ≡ None) (low : 1 ≤ entry.first_tag.vol) (can : CanTake d.space entry.first_tag.vol entry.first_tag.page)
    (pages : Pages) (contents : Contents) (fresh : IsSomeAnd (pages entry.first_tag) (IsNewPage 0)) (says : (home : Home) → d.frame.anchor.table ≡ Some home → IsSomeAnd (pages home) (λ page. IsTablePage page (with_slot number (slot.Original entry) d.table)))
    (others : (home : Home) → ¬ d.frame.anchor.table ≡ Some home → ¬ home ≡ entry.first_tag → pages home ≡ d.pages home)
  where
    abbrev first_home : Home
    first_home = entry.first_tag

    abbrev place : TagPlace
    place = record { index = 0; home = first_home }

    abbrev table_now : Table
    table_now = with_slot number (slot.Original entry) d.table

    abbrev space_now : Spaces
    space_now = change_volume (with_page first_home.page) d.space first_home.vol

    abbrev pub begun : DomainNow
    begun = record d { table = table_now; tags = λ n. cond (n == number) (place ∷ []) (d.tags n); pages = pages; contents = contents; space = space_now }

    number_or_not : (n : ℕ) → (n ≡ number) ⊎ (¬ n ≡ number)
    number_or_not n = ⊎_elim
        (λ same. inl (eqb-true n number same))
        (λ apart. inr (λ same. both_ways (n == number) apart (eq-eqb n number same)))
        (cases_Bool (n == number))

    not_number : (n : ℕ) → ¬ n ≡ number → (n == number) ≡ false
    not_number n differ = false_from_ne_true (n == number) (λ same. differ (eqb-true n number same))

    -- ---- slots

    item_here : item_in begun number ≡ Some (slot.Original entry)
    item_here = get_set d.table.slots number (slot.Original entry) slot.Free free_slot

    item_other : (n : ℕ) → ¬ n ≡ number → item_in begun n ≡ item_in d n
    item_other n differ = get_other d.table.slots number n (slot.Original entry) (not_number n differ)

    pub tags_here : begun.tags number ≡ place ∷ []
    tags_here = ap (λ (b : Bool). cond b (place ∷ []) (d.tags number)) (eq-eqb number number refl)

    pub tags_other : (n : ℕ) → ¬ n ≡ number → begun.tags n ≡ d.tags n
    tags_other n differ = ap (λ (b : Bool). cond b (place ∷ []) (d.tags n)) (not_number n differ)

    no_tags : d.tags number ≡ []
    no_tags = subst (λ o. StandsInSlot d files number (option_and_then first_tag_of o)) free_slot (below.chains.slots number)

    -- what is removed, names quota cells or has tags is another
    not_removed : (n : ℕ) → IsRemoved (item_in d n) → ¬ n ≡ number
    not_removed n removed same = subst IsRemoved (ap (item_in d) same ∙ free_slot) removed

    not_quota : (n : ℕ) (at : CellAt) → IsQuotaOf d n at → ¬ n ≡ number
    not_quota n at quota same = none_not at (sym (ap (option_and_then quota_of) (ap (item_in d) same ∙ free_slot)) ∙ quota)

    not_tagged : (n : ℕ) (tag : Tag) (at : CellAt) → cell_of d.pages (d.tags n) tag ≡ Some at → ¬ n ≡ number
    not_tagged n tag at leads same = none_not at (sym (ap (λ (ps : List TagPlace). cell_of d.pages ps tag) (ap d.tags same ∙ no_tags)) ∙ leads)

    -- ---- pages

    unheld : IsUnheld d files indexes first_home
    unheld = unheld_taken d files indexes below.owned first_home low can

    page_same : (holder : Holder) (home : Home) → Holds d files indexes holder home → ¬ holder ≡ of_table → pages home ≡ d.pages home
    page_same holder home held other = others home (λ at. other (below.owned.once home holder of_table held at)) (λ e. unheld holder (subst (Holds d files indexes holder) e held))

    member_on : (vol p : ℕ) → Contains (table_of d.cells vol) p → IsMember d.frame.anchor vol
    member_on vol p on = ⊎_elim
        (λ member. member)
        (λ none. let e : length (table_of d.cells vol) ≡ 0 = ap length (below.tables.cells.others vol none) in absurd (omega (arith, e, on.1)))
        (member_or_none d.frame.anchor vol)

    on_table : (home : Home) → Contains (table_of d.cells home.vol) home.page → pages home ≡ d.pages home
    on_table home on = page_same of_cells home (member_on home.vol home.page on, on) (λ e. cc)

    tag_page : (n : ℕ) (home : Home) → has_home (d.tags n) home ≡ true → pages home ≡ d.pages home
    tag_page n home has = page_same (of_tags n) home has (λ e. cc)

    stands_on : (at : CellAt) (cell : Cell) → Contains (table_of d.cells at.vol) at.page → StandsAt d.pages at cell → StandsAt pages at cell
    stands_on at cell on stands = stands_by_page d.pages pages at cell (on_table (home_of at) on) stands

    stands_back : (at : CellAt) (cell : Cell) → Contains (table_of d.cells at.vol) at.page → StandsAt pages at cell → StandsAt d.pages at cell
    stands_back at cell on stands = stands_by_page pages d.pages at cell (sym (on_table (home_of at) on)) stands

    stand_still : (cs : List PlacedCell) → AreOnTables d.cells cs → AllByRecursion (λ (c : PlacedCell). StandsAt d.pages c.at c.cell) cs → AllByRecursion (λ (c : PlacedCell). StandsAt pages c.at c.cell) cs
    stand_still [] on stand = tt
    stand_still (c ∷ cs) on stand = (stands_on c.at c.cell on.0 stand.0, stand_still cs on.1 stand.1)

    on_was : (at : CellAt) (cell : Cell) → IsOnTable pages (layout_of begun) at cell → IsOnTable d.pages (layout_of d) at cell
    on_was at cell on = record { member = on.member; table = on.table; stands = stands_back at cell on.table on.stands }

    -- ---- tag directories

    none_are : AreFiles number (place ∷ []) pages no_chains
    none_are = new_names_none number pages (place ∷ []) (record { home = first_home; one = refl; page = fresh })

    other_lead : (n : ℕ) (tag : Tag) → cell_of pages (d.tags n) tag ≡ cell_of d.pages (d.tags n) tag
    other_lead n tag = by_item (item_in d n) refl
      where
        nothing : d.tags n ≡ [] → cell_of pages (d.tags n) tag ≡ cell_of d.pages (d.tags n) tag
        nothing none = ap (λ (ps : List TagPlace). cell_of pages ps tag) none ∙ sym (ap (λ (ps : List TagPlace). cell_of d.pages ps tag) none)

        by_first : (o : Option Home) → AreTagPlaces d.pages o (d.tags n) → cell_of pages (d.tags n) tag ≡ cell_of d.pages (d.tags n) tag
        by_first None none = nothing none
        by_first (Some first) are = cell_same d.pages pages (d.tags n) are.directory (pages_same d.pages pages (d.tags n) (tag_page n)) tag

        by_item : (o : Option SlotItem) → item_in d n ≡ o → cell_of pages (d.tags n) tag ≡ cell_of d.pages (d.tags n) tag
        by_item None at = nothing (subst (λ o. StandsInSlot d files n (option_and_then first_tag_of o)) at (below.chains.slots n))
        by_item (Some item) at = by_first (first_tag_of item) (below.tables.laid.tags n item at)

    lead_now : (n : ℕ) → ¬ n ≡ number → (tag : Tag) → cell_of pages (begun.tags n) tag ≡ cell_of d.pages (d.tags n) tag
    lead_now n differ tag = ap (λ (ps : List TagPlace). cell_of pages ps tag) (tags_other n differ) ∙ other_lead n tag

    lead_here : (tag : Tag) → cell_of pages (begun.tags number) tag ≡ None
    lead_here tag = ap (λ (ps : List TagPlace). cell_of pages ps tag) tags_here ∙ none_are.none tag refl

    other_places : (n : ℕ) (first : Option Home) → AreTagPlaces d.pages first (d.tags n) → AreTagPlaces pages first (d.tags n)
    other_places n None are = are
    other_places n (Some first) are = record { directory = directory_same d.pages pages (d.tags n) are.directory (pages_same d.pages pages (d.tags n) (tag_page n)); begins = are.begins }

    own_places : AreTagPlaces pages (first_tag_of (slot.Original entry)) (place ∷ [])
    own_places = record { directory = none_are.directory; begins = refl }

    places_now : (n : ℕ) (item : SlotItem) → item_in begun n ≡ Some item → AreTagPlaces pages (first_tag_of item) (begun.tags n)
    places_now n item there = ⊎_elim
        (λ same.
        let it : slot.Original entry ≡ item = some_same (slot.Original entry) item (sym item_here ∙ sym (ap (item_in begun) same) ∙ there) in
        subst (λ (k : ℕ). AreTagPlaces pages (first_tag_of item) (begun.tags k)) (sym same)
        (subst (AreTagPlaces pages (first_tag_of item)) (sym tags_here) (subst (λ (x : SlotItem). AreTagPlaces pages (first_tag_of x) (place ∷ [])) it own_places)))
        (λ differ. subst (AreTagPlaces pages (first_tag_of item)) (sym (tags_other n differ)) (other_places n (first_tag_of item) (below.tables.laid.tags n item (sym (item_other n differ) ∙ there))))
        (number_or_not n)

    -- ---- tables

    table_says : (o : Option Home) → d.frame.anchor.table ≡ o → IsSomeAnd o (λ home. IsSomeAnd (d.pages home) (λ page. IsTablePage page d.table)) → IsSomeAnd o (λ home. IsSomeAnd (pages home) (λ page. IsTablePage page table_now))
    table_says None at is = absurd is
    table_says (Some home) at is = says home at

    cells_now : (vol : ℕ) → IsMember d.frame.anchor vol → IsCellTable pages vol (first_cells d.frame vol) (table_of d.cells vol)
    cells_now vol member =
        let was : IsCellTable d.pages vol (first_cells d.frame vol) (table_of d.cells vol) = below.tables.laid.cells vol member in
        record {
          begins = was.begins;
          some = was.some;
          each = λ k within. subst (λ o. IsSomeAnd o (IsPageAt (table_of d.cells vol) k)) (sym (on_table (record { vol = vol; page = slice_index (table_of d.cells vol) k }) (index_in (table_of d.cells vol) k within))) (was.each k within);
        }

    volume_now : (vol : ℕ) → IsMember d.frame.anchor vol → HasVolumeCell begun vol
    volume_now vol member =
        let cell = below.tables.volumes vol member in
        let was : IsCellTable d.pages vol (first_cells d.frame vol) (table_of d.cells vol) = below.tables.laid.cells vol member in
        record { cell = cell.cell; stands = stands_on (first_place d.frame vol) cell.cell (first_in (table_of d.cells vol) (first_cells d.frame vol) was.begins) cell.stands; says = cell.says }

    free_there : (at : CellAt) → IsFreeAt d.pages (layout_of d) at → IsFreeAt pages (layout_of begun) at
    free_there at f = record { member = f.member; table = f.table; within = f.within; free = subst (λ o. IsSomeAnd o (λ page. is_free_in page at.cell ≡ true)) (sym (on_table (home_of at) f.table)) f.free }

    free_back : (at : CellAt) → IsFreeAt pages (layout_of begun) at → IsFreeAt d.pages (layout_of d) at
    free_back at f = record { member = f.member; table = f.table; within = f.within; free = subst (λ o. IsSomeAnd o (λ page. is_free_in page at.cell ≡ true)) (on_table (home_of at) f.table) f.free }

    tables_on : StandTables begun
    tables_on = record {
      laid = record {
        version = below.tables.laid.version;
        table = table_says d.frame.anchor.table refl below.tables.laid.table;
        cells = cells_now;
        tags = places_now;
      };
      log = below.tables.log;
      few = below.tables.few;
      may = below.tables.may;
      volumes = volume_now;
      cells = record {
        tables = λ vol member. refl;
        others = below.tables.cells.others;
        closed = below.tables.cells.closed;
        free = λ at. ((λ is. free_there at ((below.tables.cells.free at).0 is)), (λ f. (below.tables.cells.free at).1 (free_back at f)));
      };
    }

    -- ---- what pages are held for

    abbrev Was : Holder → Home → Type 0
    Was = Holds d files indexes

    abbrev IsNow : Holder → Home → Type 0
    IsNow = Holds begun files indexes

    one_home : (x : Home) → has_home (place ∷ []) x ≡ true → x ≡ first_home
    one_home x has = ⊎_elim
        (λ same. homes_same x first_home same)
        (λ other. absurd (true≢false (sym has ∙ ap (λ (b : Bool). b || false) other)))
        (cases_Bool (same_home x first_home))

    back : (h : Holder) (x : Home) → IsNow h x → Was h x ⊎ ((h ≡ of_tags number) × (x ≡ first_home))
    back of_volume x is = inl is
    back of_log x is = inl is
    back of_table x is = inl is
    back of_cells x is = inl is
    back (of_tags n) x is = ⊎_elim
        (λ same. inr (ap of_tags same, one_home x (ap (λ (ps : List TagPlace). has_home ps x) (sym (ap begun.tags same ∙ tags_here)) ∙ is)))
        (λ differ. inl (ap (λ (ps : List TagPlace). has_home ps x) (sym (tags_other n differ)) ∙ is))
        (number_or_not n)
    back (of_index at k) x is = inl is
    back (of_file at page) x is = inl is

    on : (h : Holder) (x : Home) → Was h x → IsNow h x
    on of_volume x was = was
    on of_log x was = was
    on of_table x was = was
    on of_cells x was = was
    on (of_tags n) x was = ⊎_elim
        (λ same. absurd (true≢false (sym was ∙ ap (λ (ps : List TagPlace). has_home ps x) (ap d.tags same ∙ no_tags))))
        (λ differ. ap (λ (ps : List TagPlace). has_home ps x) (tags_other n differ) ∙ was)
        (number_or_not n)
    on (of_index at k) x was = was
    on (of_file at page) x was = was

    here : IsNow (of_tags number) first_home
    here = ap (λ (ps : List TagPlace). has_home ps first_home) tags_here ∙ or_left (same_home first_home first_home) false (same_itself first_home)

    once : (x : Home) (a b : Holder) → IsNow a x → IsNow b x → a ≡ b
    once x a b is_a is_b = ⊎_elim
        (λ was_a. ⊎_elim
        (λ was_b. below.owned.once x a b was_a was_b)
        (λ new_b. absurd (unheld a (subst (Was a) new_b.1 was_a)))
        (back b x is_b))
        (λ new_a. ⊎_elim
        (λ was_b. absurd (unheld b (subst (Was b) new_a.1 was_b)))
        (λ new_b. new_a.0 ∙ sym new_b.0)
        (back b x is_b))
        (back a x is_a)

    moves : SpacesMove (Is first_home) NoHome d.space space_now
    moves = moves_page d.space space_now first_home low refl

    unheld_now : (x : Home) → IsUnheld d files indexes x → ¬ x ≡ first_home → IsUnheld begun files indexes x
    unheld_now x none apart h is = ⊎_elim (none h) (λ new_one. apart new_one.1) (back h x is)

    module _ (vol : ℕ) (v w : VolumeSpace) (there : volume_of d.space vol ≡ Some v) (held : AreHeldOn d files indexes vol v) (m : VolumeMoves vol (Is first_home) NoHome v w) where
      abbrev at : ℕ → Home
      at page = record { vol = vol; page = page }

      came_free : (page : ℕ) → at page ≡ first_home → is_waiting v page ≡ false
      came_free page same =
          let may : CanTake d.space vol page = subst (λ (x : Home). CanTake d.space x.vol x.page) (sym same) can in
          (subst (λ (o : Option VolumeSpace). IsSomeAnd o (λ x. (x.is_open ≡ true) × IsFreePage x page)) there may).1.settled

      settled : (page : ℕ) → is_waiting v page ≡ false → is_waiting w page ≡ false
      settled page none = false_from_ne_true (is_waiting w page) (λ waits. ⊎_elim (λ did. both_ways (is_waiting v page) none did) (λ no_one. no_one) (m.waits_back page waits))

      free_then : (page : ℕ) → page < w.pages → contains w.used page ≡ false → IsUnheld begun files indexes (at page) × (is_waiting w page ≡ false)
      free_then page within unused =
          let before : page < v.pages = (let p = m.pages in omega (arith, within, p)) in
          let was = (held.free page before).0 (false_from_ne_true (contains v.used page) (λ used. both_ways (contains w.used page) unused (m.used_on page used))) in
          (unheld_now (at page) was.0 (λ same. both_ways (contains w.used page) unused (m.used_more page same)), settled page was.1)

      then_free : (page : ℕ) → page < w.pages → IsUnheld begun files indexes (at page) × (is_waiting w page ≡ false) → contains w.used page ≡ false
      then_free page within is =
          let before : page < v.pages = (let p = m.pages in omega (arith, within, p)) in
          let unused = (held.free page before).1 ((λ h was. is.0 h (on h (at page) was)), false_from_ne_true (is_waiting v page) (λ waits. both_ways (is_waiting w page) is.1 (m.waits_on page waits))) in
          false_from_ne_true (contains w.used page) (λ used. ⊎_elim
          (λ was. both_ways (contains v.used page) unused was)
          (λ same. is.0 (of_tags number) (subst (IsNow (of_tags number)) (sym same) here))
          (m.used_back page used))

      held_now : AreHeldOn begun files indexes vol w
      held_now = record {
        count = m.pages ∙ held.count;
        opened = ((λ is. held.opened.0 (sym m.opened ∙ is)), (λ is. m.opened ∙ held.opened.1 is));
        free = λ page within. (free_then page within, then_free page within);
        waits = λ page waiting. ⊎_elim
            (λ did. unheld_now (at page) (held.waits page did) (λ same. both_ways (is_waiting v page) (came_free page same) did))
            (λ none. absurd none)
            (m.waits_back page waiting);
      }

    spaces_on : (vol : ℕ) → 1 ≤ vol → AreHeldAt begun files indexes vol (volume_of space_now vol)
    spaces_on vol from = by_volumes (volume_of d.space vol) (volume_of space_now vol) refl (below.owned.spaces vol from) (moves vol from)
      where
        by_volumes : (a b : Option VolumeSpace) → volume_of d.space vol ≡ a → AreHeldAt d files indexes vol a → ThereMoves vol (Is first_home) NoHome a b → AreHeldAt begun files indexes vol b
        by_volumes None None there none m = none
        by_volumes None (Some w) there none m = absurd m
        by_volumes (Some v) None there held m = absurd m
        by_volumes (Some v) (Some w) there held m = (held.0, held_now vol v w there held.1 m)

    owned_on : HoldsOwned begun files indexes
    owned_on = record { once = once; spaces = spaces_on }

    -- ---- chains

    standing_was : (a : CellAt) (cs : List PlacedCell) → files a ≡ Some cs → IsStanding d.cells d.pages a cs
    standing_was a cs there = standing d.space d.cells d.pages files below.chains.well.together a cs there

    standing_now : (a : CellAt) (cs : List PlacedCell) → files a ≡ Some cs → IsStanding d.cells pages a cs
    standing_now a cs there =
        let was = standing_was a cs there in
        record { stands = chain_by d.pages pages a cs (stand_still cs was.on_tables (stand_chain d.pages a cs was.stands)) was.stands; on_tables = was.on_tables }

    allocated_now : AreAllocated space_now d.cells pages
    allocated_now = allocated_beside space_now d.cells d.pages pages on_table (allocated_taken d.space d.cells d.pages first_home below.chains.well.together.allocated)

    still_apart : (home : Home) → 1 ≤ home.vol → IsHeldApart d.space d.cells home → IsHeldApart space_now d.cells home
    still_apart home from is = record { held = held_still (Is first_home) NoHome d.space space_now moves home from (λ none. none) is.held; off_table = is.off_table }

    well_on : IsWell (all_of begun files)
    well_on =
        let well = below.chains.well in
        record {
          together = record {
            allocated = allocated_now;
            each = each_from d.cells pages files standing_now;
            apart = well.together.apart;
            held = λ a p home there. still_apart home (low_home d.space d.cells d.pages files well.together a p home there) (well.together.held a p home there);
            once = well.together.once;
            one_deep = well.together.one_deep;
          };
          listed = record {
            each = well.listed.each;
            once = well.listed.once;
            order = well.listed.order;
            pages_once = well.listed.pages_once;
            pages_low = well.listed.pages_low;
            pages_held = λ home inside. still_apart home (well.listed.pages_low home inside) (well.listed.pages_held home inside);
            pages_apart = well.listed.pages_apart;
          };
        }

    -- the new directory has no file
    among_none : AreAmong (all_of begun files) (place ∷ []) no_chains
    among_none = record {
      same = λ tag. refl;
      live = λ tag. tt;
      trimmed = λ e inside tag starts. absurd (none_not e.at starts);
      low = λ home has. subst (λ (x : Home). 1 ≤ x.vol) (sym (one_home home has)) low;
      no_tags = λ a page home at. false_from_ne_true (has_home (place ∷ []) home) (λ has. unheld (of_file a page) (subst (λ (x : Home). place_in files a page ≡ At x) (one_home home has) at));
      not_listed = λ home inside. false_from_ne_true (has_home (place ∷ []) home) (λ has. listed_not home inside (one_home home has));
    }
      where
        listed_not : (home : Home) → Contains d.list.tag_pages home → ¬ home ≡ first_home
        listed_not home inside same =
            let empty = below.chains.tag_pages home inside in
            unheld (of_tags empty.0) (subst (Was (of_tags empty.0)) same (listed_has (d.tags empty.0) home (subst (λ (hs : List Home). Contains hs home) (sym empty.1.listed) inside)))

    pub stood : StandsWell number (fileset_now begun number no_chains files)
    stood = subst (λ (ps : List TagPlace). StandsWell number (record { places = ps; chains = no_chains; domain = all_of begun files })) (sym tags_here) (record {
      well = well_on;
      together = record {
        files = none_are;
        allocated = allocated_now;
        on_tables = λ tag. tt;
        tag_pages = λ home has. subst (IsHeldApart space_now d.cells) (sym (one_home home has)) first_apart;
        file_pages = λ tag page home at. absurd (absent home at);
        once = λ s t p q home at again. absurd (absent home at);
      };
      among = among_none;
    })
      where
        absent : (home : Home) → ¬ Absent ≡ At home
        absent home e = cc

        first_apart : IsHeldApart space_now d.cells first_home
        first_apart = record {
          held = held_taken d.space first_home.vol first_home.page (free_can d.space first_home.vol first_home.page can);
          off_table = λ on_it. unheld of_cells (member_on first_home.vol first_home.page on_it, on_it);
        }

    own_slot : HasFilesAmong begun files number
    own_slot = record { chains = no_chains; are = stood.together.files; among = stood.among }

    module _ (n : ℕ) (differ : ¬ n ≡ number) (has : HasFilesAmong d files n) where
      leads_on : (tag : Tag) (cs : List PlacedCell) → has.chains tag ≡ Some cs → LeadsToFile n (d.tags n) d.pages tag cs → LeadsToFile n (d.tags n) pages tag cs
      leads_on tag cs is was = record {
        leads = subst (λ o. IsSomeAnd o (λ a. IsFile pages a cs)) (sym (other_lead n tag)) (by_cell (cell_of d.pages (d.tags n) tag) was.leads);
        is_of = was.is_of;
        kinds = was.kinds;
      }
        where
          by_list : (a : CellAt) (xs : List PlacedCell) → has.chains tag ≡ Some xs → IsFile d.pages a xs → IsFile pages a xs
          by_list a [] is file = absurd file
          by_list a (first ∷ rest) is file =
              let there = file_of_tag files has.chains tag (first ∷ rest) a (has.among.same tag) is (ap Some file.0) in
              file_by d.pages pages a (first ∷ rest) (stand_still (first ∷ rest) (standing_was a (first ∷ rest) there).on_tables (stand_file d.pages a (first ∷ rest) file)) file

          by_cell : (o : Option CellAt) → IsSomeAnd o (λ a. IsFile d.pages a cs) → IsSomeAnd o (λ a. IsFile pages a cs)
          by_cell None leads = leads
          by_cell (Some a) leads = by_list a cs is leads

      files_on : HasFilesAmong begun files n
      files_on =
          let among = has.among in
          record {
            chains = has.chains;
            are = subst (λ (ps : List TagPlace). AreFiles n ps pages has.chains) (sym (tags_other n differ)) (record {
              directory = directory_same d.pages pages (d.tags n) has.are.directory (pages_same d.pages pages (d.tags n) (tag_page n));
              none = λ tag is. other_lead n tag ∙ has.are.none tag is;
              some = λ tag. by_chain tag (has.chains tag) refl (has.are.some tag);
              apart = has.are.apart;
            });
            among = subst (λ (ps : List TagPlace). AreAmong (all_of begun files) ps has.chains) (sym (tags_other n differ))
                (record { same = among.same; live = among.live; trimmed = among.trimmed; low = among.low; no_tags = among.no_tags; not_listed = among.not_listed });
          }
        where
          by_chain : (tag : Tag) (o : Option (List PlacedCell)) → has.chains tag ≡ o → IfSome o (LeadsToFile n (d.tags n) d.pages tag) → IfSome o (LeadsToFile n (d.tags n) pages tag)
          by_chain tag None is was = tt
          by_chain tag (Some cs) is was = leads_on tag cs is was

    empty_on : (n : ℕ) → HasEmptyTags d n → HasEmptyTags begun n
    empty_on n empty =
        let differ = not_removed n empty.removed in
        record {
          removed = subst IsRemoved (sym (item_other n differ)) empty.removed;
          none = λ tag. lead_now n differ tag ∙ empty.none tag;
          listed = ap homes_of (tags_other n differ) ∙ empty.listed;
        }

    slot_on : (n : ℕ) → ¬ n ≡ number → (o : Option Home) → StandsInSlot d files n o → StandsInSlot begun files n o
    slot_on n differ None none = tags_other n differ ∙ none
    slot_on n differ (Some first) in_slot = ⊎_elim (λ has. inl (files_on n differ has)) (λ empty. inr (empty_on n empty)) in_slot

    slots_on : (n : ℕ) → StandsInSlot begun files n (named_by first_tag_of begun n)
    slots_on n = ⊎_elim
        (λ same. subst (λ (k : ℕ). StandsInSlot begun files k (named_by first_tag_of begun k)) (sym same)
        (subst (λ o. StandsInSlot begun files number (option_and_then first_tag_of o)) (sym item_here) (inl own_slot)))
        (λ differ. subst (λ o. StandsInSlot begun files n (option_and_then first_tag_of o)) (sym (item_other n differ)) (slot_on n differ (named_by first_tag_of d n) (below.chains.slots n)))
        (number_or_not n)

    -- quota cells are named by the others
    quota_was : (n : ℕ) (a : CellAt) → IsQuotaOf begun n a → IsQuotaOf d n a
    quota_was n a quota = ⊎_elim
        (λ same. absurd (none_not a (sym no_quota ∙ sym (ap (option_and_then quota_of) (ap (item_in begun) same ∙ item_here)) ∙ quota)))
        (λ differ. sym (ap (option_and_then quota_of) (item_other n differ)) ∙ quota)
        (number_or_not n)

    quota_now : (n : ℕ) (a : CellAt) → IsQuotaOf d n a → IsQuotaOf begun n a
    quota_now n a quota = ap (option_and_then quota_of) (item_other n (not_quota n a quota)) ∙ quota

    quotas_on : (n : ℕ) (a : CellAt) (o : Option (List PlacedCell)) → files a ≡ o → IsSomeAnd o (AreQuotasOf d n a) → IsSomeAnd o (AreQuotasOf begun n a)
    quotas_on n a None is are = are
    quotas_on n a (Some cs) is are = record { quotas = quotas (standing_now a cs is).stands; of = are.of; once = are.once }
      where
        no_attributes : first_record 1 cs ≡ None
        no_attributes = quota_first d.pages a cs are.quotas 1 (λ e. omega (arith, e)) (λ e. omega (arith, e))

        quotas : IsFileOrQuotas pages a cs → IsQuotas pages a cs
        quotas either = ⊎_elim (λ file. absurd (has_attributes pages a cs file no_attributes)) (λ are_now. are_now) either

    indexed_on : (a : CellAt) → AreIndexHomes pages (option_and_then index_of (files a)) (indexes a)
    indexed_on a =
        kept_same d.pages pages (option_and_then index_of (files a)) (indexes a) (below.chains.indexed a)
        (λ home inside. let k = in_get (indexes a) home inside in page_same (of_index a k.0) home k.1 (λ e. cc))

    tagged_on : (a : CellAt) → IsTagged d a → IsTagged begun a
    tagged_on a it = (it.0, it.1, lead_now it.0 (not_tagged it.0 it.1 a it.2) it.1 ∙ it.2)

    named_on : (a : CellAt) (cs : List PlacedCell) → IsSomebodys d a cs → IsSomebodys begun a cs
    named_on a cs of = ⊎_elim
        (λ it. inl (tagged_on a it))
        (λ rest. inr (⊎_elim (λ left. inl left) (λ quota. inr (quota.0, quota_now quota.0 a quota.1)) rest))
        of

    to_go_on : (a : CellAt) → IsQuotaToGo d a → IsQuotaToGo begun a
    to_go_on a go = (go.0, subst IsRemoved (sym (item_other go.0 (not_removed go.0 go.1))) go.1, quota_now go.0 a go.2)

    chains_on : StandChains begun files indexes
    chains_on = record {
      well = well_on;
      slots = slots_on;
      quotas = λ n a quota. quotas_on n a (files a) refl (below.chains.quotas n a (quota_was n a quota));
      indexed = indexed_on;
      used = λ a cell on_it. below.chains.used a cell (on_was a cell on_it);
      named = λ a cs there. named_on a cs (below.chains.named a cs there);
      to_do = λ a left. let listed = below.chains.to_do a left in (listed.0, listed.1, listed.2);
      listed = λ a listed. ⊎_elim (λ left. inl left) (λ go. inr (to_go_on a go)) (below.chains.listed a (listed.0, listed.1, listed.2));
      tag_pages = λ home inside. let empty = below.chains.tag_pages home inside in (empty.0, empty_on empty.0 empty.1);
    }

    -- ---- single cells

    -- what stood in the slot that a head names
    item_same : (o : Option ℕ) → ¬ o ≡ Some number → option_and_then (slice_get table_now.slots) o ≡ option_and_then (slice_get d.table.slots) o
    item_same None differ = refl
    item_same (Some n) differ = item_other n (λ same. differ (ap Some same))

    -- a file that is not to be removed is of another fileset
    its_fileset : (a : CellAt) (first : PlacedCell) (rest : List PlacedCell) → files a ≡ Some (first ∷ rest) → (first.cell.head.fileset ≡ Some number → is_removed (first ∷ rest) ≡ true)
    its_fileset a first rest there of = ⊎_elim
        (λ it. absurd (not_tagged it.0 it.1 a it.2 (of_tag it.0 it.1 (named_by first_tag_of d it.0) (below.chains.slots it.0) it.2)))
        (λ more. ⊎_elim
        (λ left. removed left)
        (λ quota. absurd (not_quota quota.0 a quota.1 (of_quota quota.0 (subst (λ o. IsSomeAnd o (AreQuotasOf d quota.0 a)) there (below.chains.quotas quota.0 a quota.1)))))
        more)
        (below.chains.named a (first ∷ rest) there)
      where
        removed : left_of (first ∷ rest) ≡ Some Remove → is_removed (first ∷ rest) ≡ true
        removed left = remove_said (record_of 6 first.cell.records) left

        of_quota : (n : ℕ) → AreQuotasOf d n a (first ∷ rest) → n ≡ number
        of_quota n are = some_same n number (sym are.of ∙ of)

        of_tag : (n : ℕ) (tag : Tag) (o : Option Home) → StandsInSlot d files n o → cell_of d.pages (d.tags n) tag ≡ Some a → n ≡ number
        of_tag n tag None empty leads = absurd (none_not a (sym (ap (λ (ps : List TagPlace). cell_of d.pages ps tag) empty) ∙ leads))
        of_tag n tag (Some home) in_slot leads = ⊎_elim (λ h. in_files h (h.chains tag) refl (h.are.some tag)) (λ e. absurd (none_not a (sym (e.none tag) ∙ leads))) in_slot
          where
            in_files : (h : HasFilesAmong d files n) → (o : Option (List PlacedCell)) → h.chains tag ≡ o → IfSome o (LeadsToFile n (d.tags n) d.pages tag) → n ≡ number
            in_files h None is some = absurd (none_not a (sym (h.are.none tag is) ∙ leads))
            in_files h (Some cs) is some = by_list cs is some.is_of (subst (λ o. IsSomeAnd o (λ x. IsFile d.pages x cs)) leads some.leads)
              where
                by_list : (cs : List PlacedCell) → h.chains tag ≡ Some cs → IsOf n tag cs → IsFile d.pages a cs → n ≡ number
                by_list [] is is_of file = absurd file
                by_list (f ∷ r) is is_of file =
                    let same : f ∷ r ≡ first ∷ rest = some_same (f ∷ r) (first ∷ rest) (sym (file_of_tag files h.chains tag (f ∷ r) a (h.among.same tag) is (ap Some file.0)) ∙ there) in
                    some_same n number (sym is_of.2 ∙ ap head_fileset same ∙ of)
                  where
                    head_fileset : List PlacedCell → Option ℕ
                    head_fileset [] = None
                    head_fileset (c ∷ cs) = c.cell.head.fileset

    -- a first cell says that all of its file goes, or a slot in which the same stands
    item_or_removed : (a : CellAt) (first : PlacedCell) (rest : List PlacedCell) → files a ≡ Some (first ∷ rest) → (item_of table_now first.cell.head ≡ item_of d.table first.cell.head) ⊎ (is_removed (first ∷ rest) ≡ true)
    item_or_removed a first rest there = by_fileset first.cell.head.fileset refl
      where
        by_fileset : (o : Option ℕ) → first.cell.head.fileset ≡ o → (item_of table_now first.cell.head ≡ item_of d.table first.cell.head) ⊎ (is_removed (first ∷ rest) ≡ true)
        by_fileset None is = inl (item_same first.cell.head.fileset (λ same. none_not number (sym is ∙ same)))
        by_fileset (Some n) is = ⊎_elim
            (λ same. inr (its_fileset a first rest there (is ∙ ap Some same)))
            (λ differ. inl (item_same first.cell.head.fileset (λ same. differ (some_same n number (sym is ∙ same)))))
            (number_or_not n)

    good_same : (cell : Cell) → item_of table_now cell.head ≡ item_of d.table cell.head → is_good_first table_now cell ≡ is_good_first d.table cell
    good_same cell same = ap (λ (o : Option SlotItem). has_first_records cell.records
        && (say_removed cell.records
        || ((not (of_original o) || (has_its_kinds false cell.records && option_map_or (λ r. keeps_well r (has_kind 6 cell.records)) (record_of 1 cell.records) false))
        && (not (of_clone o) || has_its_kinds true cell.records)))) same

    -- a first cell in use begins a chain
    module _ (a : CellAt) (cell : Cell) (it : IsOnTable d.pages (layout_of d) a cell) (primary : cell.head.kind ≡ Primary) where
      good_was : is_good_first d.table cell ≡ true
      good_was = below.rest.firsts a cell it primary

      not_first_place : ¬ IsFirstPlace d.frame a
      not_first_place first =
          let volume = below.tables.volumes a.vol it.member in
          let at_first : first_place d.frame a.vol ≡ a = λ i. record { vol = a.vol; page = sym first.0 i; cell = sym first.1 i } in
          let same = one_stands d.pages a volume.cell cell (subst (λ (x : CellAt). StandsAt d.pages x volume.cell) at_first volume.stands) it.stands in
          let e : Volume ≡ Primary = sym volume.says.kind ∙ ap (λ (c : Cell). c.head.kind) same ∙ primary in absurd (cc)

      good_first : (start : CellAt) (first : PlacedCell) (rest : List PlacedCell) → files start ≡ Some (first ∷ rest) → first.cell ≡ cell → is_good_first table_now cell ≡ true
      good_first start first rest there same = ⊎_elim
          (λ item. good_same cell (subst (λ (c : Cell). item_of table_now c.head ≡ item_of d.table c.head) same item) ∙ good_was)
          (λ removed. good_removed table_now cell (good_records d.table cell good_was) (ap (λ (c : Cell). say_removed c.records) (sym same) ∙ removed))
          (item_or_removed start first rest there)

      in_chain : (start : CellAt) (cs : List PlacedCell) → files start ≡ Some cs → Contains (cell_places cs) a → is_good_first table_now cell ≡ true
      in_chain start [] there inside = absurd (omega (arith, inside.1))
      in_chain start (first ∷ rest) there inside = by_place (placed (first ∷ rest) a inside)
        where
          chain : IsFileOrQuotas d.pages start (first ∷ rest)
          chain = (standing_was start (first ∷ rest) there).stands

          all_stand : AllByRecursion (λ (c : PlacedCell). StandsAt d.pages c.at c.cell) (first ∷ rest)
          all_stand = stand_chain d.pages start (first ∷ rest) chain

          its_cell : (c : PlacedCell) → Contains (first ∷ rest) c → c.at ≡ a → c.cell ≡ cell
          its_cell c within at_it = one_stands d.pages a c.cell cell (subst (λ (x : CellAt). StandsAt d.pages x c.cell) at_it (all_in (λ (c : PlacedCell). StandsAt d.pages c.at c.cell) (first ∷ rest) all_stand c within)) it.stands

          later_not : (c : PlacedCell) → Contains rest c → ¬ c.cell.head.kind ≡ Primary
          later_not c within is_primary = ⊎_elim
              (λ file.
              let kind = all_in (λ (x : PlacedCell). x.cell.head.kind ≡ Chain) rest (later_chain d.pages first.cell.head rest (inl file.1.primary) file.1.links.follow) c within in
              let e : Primary ≡ Chain = sym is_primary ∙ kind in absurd (cc))
              (λ quotas.
              let kind = all_in (λ (x : PlacedCell). IsQuotaCell x.cell) rest quotas.1.cells.1 c within in
              let e : Primary ≡ Quota = sym is_primary ∙ kind.kind in absurd (cc))
              chain

          by_place : (c : PlacedCell) × Contains (first ∷ rest) c × (c.at ≡ a) → is_good_first table_now cell ≡ true
          by_place (c, (zero, within, is), at_it) = good_first start first rest there (ap (λ (x : PlacedCell). x.cell) is ∙ its_cell c (zero, within, is) at_it)
          by_place (c, (suc k, within, is), at_it) = absurd (later_not c (k, omega (arith, within), is) (ap (λ (x : Cell). x.head.kind) (its_cell c (suc k, within, is) at_it) ∙ primary))

      good_now : is_good_first table_now cell ≡ true
      good_now = ⊎_elim
          (λ first. absurd (not_first_place first))
          (λ inside. by_files inside.0 (files inside.0) refl inside.1)
          (below.chains.used a cell it)
        where
          by_files : (start : CellAt) (o : Option (List PlacedCell)) → files start ≡ o → IsSomeAnd o (λ cs. Contains (cell_places cs) a) → is_good_first table_now cell ≡ true
          by_files start None there inside = absurd inside
          by_files start (Some cs) there inside = in_chain start cs there inside

    -- a tag leads to a cell on a table
    module _ (n : ℕ) (tag : Tag) (a : CellAt) (leads : cell_of d.pages (d.tags n) tag ≡ Some a) where
      in_files : HasFilesAmong d files n → Contains (table_of d.cells a.vol) a.page
      in_files h = by_chain (h.chains tag) refl
        where
          by_list : (cs : List PlacedCell) → h.chains tag ≡ Some cs → IsFile d.pages a cs → Contains (table_of d.cells a.vol) a.page
          by_list [] is file = absurd file
          by_list (first ∷ rest) is file =
              let there = file_of_tag files h.chains tag (first ∷ rest) a (h.among.same tag) is (ap Some file.0) in
              subst (λ (x : CellAt). Contains (table_of d.cells x.vol) x.page) file.0 (standing_was a (first ∷ rest) there).on_tables.0

          by_chain : (o : Option (List PlacedCell)) → h.chains tag ≡ o → Contains (table_of d.cells a.vol) a.page
          by_chain None is = absurd (none_not a (sym (h.are.none tag is) ∙ leads))
          by_chain (Some cs) is = by_list cs is (subst (λ o. IsSomeAnd o (λ x. IsFile d.pages x cs)) leads (subst (λ o. IfSome o (LeadsToFile n (d.tags n) d.pages tag)) is (h.are.some tag)).leads)

      tag_on_table : (o : Option Home) → StandsInSlot d files n o → Contains (table_of d.cells a.vol) a.page
      tag_on_table None empty = absurd (none_not a (sym (ap (λ (ps : List TagPlace). cell_of d.pages ps tag) empty) ∙ leads))
      tag_on_table (Some first) in_slot = ⊎_elim in_files (λ e. absurd (none_not a (sym (e.none tag) ∙ leads))) in_slot

    births_on : (a : CellAt) (cell : Cell) (value : Record) → IsOfOriginal begun a → StandsAt pages a cell → record_of 1 cell.records ≡ Some value → ¬ IsLate d.table.made value
    births_on a cell value o stands has = ⊎_elim
        (λ same. absurd (none_not a (sym (lead_here o.tag) ∙ sym (ap (λ (k : ℕ). cell_of pages (begun.tags k) o.tag) same) ∙ o.leads)))
        (λ differ.
        let leads : cell_of d.pages (d.tags o.number) o.tag ≡ Some a = sym (lead_now o.number differ o.tag) ∙ o.leads in
        below.rest.births a cell value (record { number = o.number; original = ap of_original (sym (item_other o.number differ)) ∙ o.original; tag = o.tag; leads = leads })
        (stands_back a cell (tag_on_table o.number o.tag a leads (named_by first_tag_of d o.number) (below.chains.slots o.number)) stands) has)
        (number_or_not o.number)

    holes_on : (a : CellAt) (cs : List PlacedCell) → files a ≡ Some cs → StaysInOriginal begun cs → AllByRecursion HasNoHoles cs
    holes_on a [] there stays = absurd stays
    holes_on a (first ∷ rest) there stays = ⊎_elim
        (λ item. below.rest.holes a (first ∷ rest) there (ap of_original (sym item) ∙ stays.0, stays.1))
        (λ removed. absurd (true≢false (sym removed ∙ stays.1)))
        (item_or_removed a first rest there)

    rest_on : SaysTheRest begun files
    rest_on = record {
      kinds = λ a cell it. below.rest.kinds a cell (on_was a cell it);
      firsts = λ a cell it primary. good_now a cell (on_was a cell it) primary;
      births = births_on;
      holes = holes_on;
    }

    pub below_begun : StandsBelow begun files indexes
    below_begun = record { tables = tables_on; chains = chains_on; owned = owned_on; rest = rest_on }

    -- ---- the filesets of other slots

    -- by what a page of another slot is held for
    record IsHeldFor (home : Home) : Type 0 where
      holder : Holder
      holds : Was holder home
      no_table : ¬ holder ≡ of_table

    held_for : (n : ℕ) (home : Home) → IsPageOfSlot n d files indexes home → IsHeldFor home
    held_for n home of = ⊎_elim
        (λ has. record { holder = of_tags n; holds = has; no_table = λ e. cc })
        (λ rest. ⊎_elim
        (λ f. record { holder = of_file f.0 f.1; holds = f.3; no_table = λ e. cc })
        (λ i. record { holder = of_index i.0 i.1; holds = i.3; no_table = λ e. cc })
        rest)
        of

    pub keeps_begun : ((home : Home) → pages home ≡ d.pages home → contents home ≡ d.contents home) → (n : ℕ) → ¬ n ≡ number → KeepsSlot n d begun files files indexes indexes
    keeps_begun bytes n differ = record {
      item = item_other n differ;
      tags = tags_other n differ;
      chains = λ a it. refl;
      quotas = λ a quota. refl;
      homes = λ a it. refl;
      pages = λ home of. let h = held_for n home of in page_same h.holder home h.holds h.no_table;
      held = λ home of from is. held_still (Is first_home) NoHome d.space space_now moves home from (λ none. none) is;
      bytes = λ home of. let h = held_for n home (inr (inl of)) in bytes home (page_same h.holder home h.holds h.no_table);
    }

-- ---- the laws

module _ (number : ℕ) (entry : FilesetEntry) (d now : DomainNow) (files : Files) (indexes : IndexesAt) (below : StandsBelow d files indexes) (s : JoinsEmpty number entry d now) where
  says_it : (home : Home) → d.frame.anchor.table ≡ Some home → IsSomeAnd (now.pages home) (λ page. IsTablePage page (with_slot number (slot.Original entry) d.table))
  says_it home at = subst (λ (t : Table). IsSomeAnd (now.pages home) (λ page. IsTablePage page t)) s.table (s.says home at)

  abbrev it : DomainNow
  it = begun d files indexes below number entry s.free_slot s.no_quota s.low s.free now.pages now.contents s.fresh says_it s.others

  tags_is : it.tags ≡ now.tags
  tags_is = λ i n. by_number n (n == number) refl i
    where
      by_number : (n : ℕ) (b : Bool) → (n == number) ≡ b → it.tags n ≡ now.tags n
      by_number n true same = ap (λ (b : Bool). cond b (record { index = 0; home = entry.first_tag } ∷ []) (d.tags n)) same ∙ sym s.tags ∙ ap now.tags (sym (eqb-true n number same))
      by_number n false apart = ap (λ (b : Bool). cond b (record { index = 0; home = entry.first_tag } ∷ []) (d.tags n)) apart ∙ sym (s.other_tags n (λ same. both_ways (n == number) apart (eq-eqb n number same)))

  it_is : it ≡ now
  it_is = λ i. record now { frame = sym s.frame i; table = sym s.table i; tags = tags_is i; space = sym s.taken i; cells = sym s.cells i; list = sym s.list i }

  pub empty_begins : StandsBelow now files indexes × StandsWell number (fileset_now now number no_chains files)
  empty_begins = (
    subst (λ (x : DomainNow). StandsBelow x files indexes) it_is (below_begun d files indexes below number entry s.free_slot s.no_quota s.low s.free now.pages now.contents s.fresh says_it s.others),
    subst (λ (x : DomainNow). StandsWell number (fileset_now x number no_chains files)) it_is (stood d files indexes below number entry s.free_slot s.no_quota s.low s.free now.pages now.contents s.fresh says_it s.others),
  )

  pub now_item : item_in now number ≡ Some (slot.Original entry)
  now_item = ap (λ (t : Table). slice_get t.slots number) s.table ∙ get_set d.table.slots number (slot.Original entry) slot.Free s.free_slot

  pub others_begun : OthersStand number d now
  others_begun bytes n differ other shape fileset there stood =
      subst (λ (x : DomainNow). StandsSlot x n other shape fileset) it_is
      (slot_stays_so n d it files files indexes indexes below (below_begun d files indexes below number entry s.free_slot s.no_quota s.low s.free now.pages now.contents s.fresh says_it s.others)
      (keeps_begun d files indexes below number entry s.free_slot s.no_quota s.low s.free now.pages now.contents s.fresh says_it s.others bytes n differ) other shape fileset there stood)
