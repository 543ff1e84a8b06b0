-- A domain in which a slot comes free, once nothing is left of what was removed from it but the pages of
-- its tag directory: the tables, the tags of the others, and what pages are held for.
use Rattle.std.proofs.Common.{◌&&◌, ◌<◌, ◌==◌, ◌||◌, ◌∙◌, ◌∷◌, ◌≡◌, ◌≤◌, ◌⊎◌, ⊎_elim, true≢false, Bool, Contains, IfSome, IsSomeAnd, List, None, Option, Some, [], ap, arith, cond, false, inl, inr, length, not, refl, slice_get, slice_index, subst, suc, sym, true, ℕ}
use Rattle.std.proofs.lemmas.Bool.{both_ways, cases_Bool, eq-eqb, eqb-true, false_from_ne_true, or_cases}
use Rattle.std.specs.FinSet.{contains}
use Rattle.std.specs.List.{AllByRecursion}
use Rattle.std.specs.Option.{option_and_then, option_map_or}
use Rattle.domain_changes.specs.domain_base.declared.place.CellAt.{CellAt}
use Rattle.domain_changes.specs.domain_base.declared.place.Home.{Home}
use Rattle.domain_changes.specs.domain_base.declared.place.Tag.{Tag}
use Rattle.domain_changes.specs.log_ring.Homes.{IsMember}
use Rattle.domain_changes.specs.page_store.Pages.{Pages, same_home}
use Rattle.domain_changes.specs.cell_records.declared.record.Record.{Record}
use Rattle.domain_changes.specs.metadata_cells.Cell.{Cell, record_of}
use Rattle.domain_changes.specs.metadata_cells.CellPage.{home_of, is_free_in}
use Rattle.domain_changes.specs.metadata_cells.Chain.{PlacedCell, StandsAt}
use Rattle.domain_changes.proofs.OfMetadataCells.Changed.{homes_same}
use Rattle.domain_changes.specs.tag_dirs.Directory.{cell_of, has_home}
use Rattle.domain_changes.specs.tag_dirs.declared.dir.TagPlace.{TagPlace}
use Rattle.domain_changes.specs.extent_maps.declared.run.PagePlace.TheVariants.{At}
use Rattle.domain_changes.specs.free_cells.Cells.{table_of}
use Rattle.domain_changes.specs.free_space.Spaces.{Spaces, volume_of}
use Rattle.domain_changes.specs.free_space.VolumeSpace.{VolumeSpace, is_waiting}
use Rattle.domain_changes.specs.file_chains.Allocated.{AreAllocated}
use Rattle.domain_changes.specs.file_chains.FileChanges.{AreOnTables}
use Rattle.domain_changes.specs.file_chains.Files.{IsFile}
use Rattle.domain_changes.proofs.OfFileChains.ChainChanges.{stand_file}
use Rattle.domain_changes.specs.fileset_files.Files.{AreFiles, LeadsToFile, first_record}
use Rattle.domain_changes.specs.fileset_files.Shown.{index_of}
use Rattle.domain_changes.specs.fileset_files.Together.{IsHeldApart}
use Rattle.domain_changes.proofs.OfFilesetFiles.Created.{allocated_beside, stands_by_page}
use Rattle.domain_changes.proofs.OfFilesetFiles.OneChain.{file_by}
use Rattle.domain_changes.proofs.OfFilesetFiles.Tags.{cell_same, directory_same, pages_same}
use Rattle.domain_changes.specs.index_pages.Homes.{AreIndexHomes}
use Rattle.domain_changes.proofs.OfIndexPages.Homes.{kept_same}
use Rattle.domain_changes.specs.fileset_table.Page.{IsTablePage}
use Rattle.domain_changes.specs.fileset_table.Table.{Table, with_slot}
use Rattle.domain_changes.specs.fileset_table.declared.slot.SlotItem.{SlotItem}
use Rattle.domain_changes.proofs.OfFilesetTable.Leaving.{get_other}
use Rattle.domain_changes.specs.release_list.Standing.{Files, IsFileOrQuotas, IsQuotas, IsStanding, place_in}
use Rattle.domain_changes.specs.release_list.Steps.{IsWell}
use Rattle.domain_changes.proofs.OfReleaseList.Spread.{none_not, some_same}
use Rattle.domain_changes.proofs.OfReleaseList.Standings.{chain_by, each_from, low_home, quota_first, stand_chain, standing}
use Rattle.domain_changes.specs.release_steps.Links.{homes_of}
use Rattle.domain_changes.specs.release_steps.Tags.{AreAmong}
use Rattle.domain_changes.proofs.OfReleaseSteps.StillAmong.{file_of_tag}
use Rattle.domain_changes.proofs.OfReleaseSteps.Tags.{has_attributes}
use Rattle.domain_changes.proofs.OfDomainLayout.Reached.{member_or_none}
use Rattle.domain_changes.specs.domain_layout.CellRules.{has_first_records, has_its_kinds, has_kind, is_good_first, keeps_well, of_clone, of_original, say_removed}
use Rattle.domain_changes.specs.domain_layout.Filled.{Contents}
use Rattle.domain_changes.specs.domain_layout.Layout.{AreTagPlaces, IsCellTable, IsPageAt, first_tag_of}
use Rattle.domain_changes.specs.domain_layout.Owners.{IsOnTable}
use Rattle.domain_changes.specs.domain_layout.Reached.{first_cells}
use Rattle.domain_changes.specs.domain_layout.TagRules.{IsLate, quota_of}
use Rattle.domain_changes.specs.domain_standing.Chains.{AreQuotasOf, HasEmptyTags, HasFilesAmong, IndexesAt, IsQuotaOf, IsQuotaToGo, IsRemoved, IsSomebodys, IsTagged, StandChains, StandsInSlot}
use Rattle.domain_changes.specs.domain_standing.Domain.{DomainNow, all_of, item_in, layout_of, named_by}
use Rattle.domain_changes.specs.domain_standing.Holders.{AreHeldAt, AreHeldOn, Holder, Holds, HoldsOwned, IsUnheld}
use Rattle.domain_changes.specs.domain_standing.Holders.Holder.{of_cells, of_file, of_index, of_log, of_table, of_tags, of_volume}
use Rattle.domain_changes.specs.domain_standing.Rest.{HasNoHoles, IsOfOriginal, SaysTheRest, StaysInOriginal}
use Rattle.domain_changes.specs.domain_standing.Tables.{HasVolumeCell, StandTables, first_place}
use Rattle.domain_changes.specs.standing_laws.Leads.{StandsBelow}
use Rattle.domain_changes.proofs.OfStandingLaws.IndexSpaces.{Among, NoHome, SpacesMove, ThereMoves, VolumeMoves, held_still, moves_away}
use Rattle.domain_changes.proofs.OfStandingLaws.HomeLists.{in_get}
use Rattle.domain_changes.proofs.OfStandingLaws.IndexWell.{listed_has}
use Rattle.domain_changes.proofs.OfStandingLaws.TablesStand.{first_in, index_in}
use Rattle.domain_changes.specs.index_pages.Changes.{with_waiting_at}
use Rattle.domain_changes.proofs.OfStandingLaws.FilesetBegins.{get_set}
use Rattle.release_changes.specs.Emptying.{IsLeftOver}
use Rattle.domain_changes.proofs.OfStoredSet.GivenBack.{allocated_while}
use Rattle.domain_changes.specs.fileset_table.declared.slot.SlotItem.TheVariants as slot

-- the home of a page of a directory is among those of its pages
pub has_listed : (places : List TagPlace) (home : Home) → has_home places home ≡ true → Contains (homes_of places) home
has_listed [] home has = absurd (true≢false (sym has))
has_listed (p ∷ places) home has = ⊎_elim
    (λ same. (0, omega arith, sym (homes_same home p.home same)))
    (λ later. let it = has_listed places home later in (suc it.0, omega (arith, it.1), it.2))
    (or_cases (same_home home p.home) (has_home places home) has)

module _ (d : DomainNow) (files : Files) (indexes : IndexesAt) (below : StandsBelow d files indexes) (number group : ℕ) (left : IsLeftOver number d) (pages : Pages) (contents : Contents)
    (says : (home : Home) → d.frame.anchor.table ≡ Some home → IsSomeAnd (pages home) (λ page. IsTablePage page (with_slot number slot.Free d.table)))
    (others : (home : Home) → ¬ d.frame.anchor.table ≡ Some home → has_home (d.tags number) home ≡ false → pages home ≡ d.pages home)
  where
    abbrev pub homes : List Home
    homes = homes_of (d.tags number)

    abbrev pub table_now : Table
    table_now = with_slot number slot.Free d.table

    abbrev pub space_now : Spaces
    space_now = with_waiting_at homes group d.space

    abbrev pub freed : DomainNow
    freed = record d { table = table_now; tags = λ n. cond (n == number) [] (d.tags n); pages = pages; contents = contents; space = space_now }

    pub number_or_not : (n : ℕ) → (n ≡ number) ⊎ (¬ n ≡ number)
    number_or_not n = ⊎_elim
        (λ same. inl (eqb-true n number same))
        (λ apart. inr (λ same. both_ways (n == number) apart (eq-eqb n number same)))
        (cases_Bool (n == number))

    not_number : (n : ℕ) → ¬ n ≡ number → (n == number) ≡ false
    not_number n differ = false_from_ne_true (n == number) (λ same. differ (eqb-true n number same))

    -- ---- slots

    pub item_here : item_in freed number ≡ Some slot.Free
    item_here = get_set d.table.slots number slot.Free (slot.Removed left.first_tag None) left.was

    pub item_other : (n : ℕ) → ¬ n ≡ number → item_in freed n ≡ item_in d n
    item_other n differ = get_other d.table.slots number n slot.Free (not_number n differ)

    pub tags_here : freed.tags number ≡ []
    tags_here = ap (λ (b : Bool). cond b [] (d.tags number)) (eq-eqb number number refl)

    pub tags_other : (n : ℕ) → ¬ n ≡ number → freed.tags n ≡ d.tags n
    tags_other n differ = ap (λ (b : Bool). cond b [] (d.tags n)) (not_number n differ)

    -- what names quota cells or has a tag that is used is another
    pub not_quota : (n : ℕ) (at : CellAt) → IsQuotaOf d n at → ¬ n ≡ number
    not_quota n at quota same = none_not at (sym (ap (option_and_then quota_of) (ap (item_in d) same ∙ left.was)) ∙ quota)

    pub not_tagged : (n : ℕ) (tag : Tag) (at : CellAt) → cell_of d.pages (d.tags n) tag ≡ Some at → ¬ n ≡ number
    not_tagged n tag at leads same = none_not at (sym (ap (λ (k : ℕ). cell_of d.pages (d.tags k) tag) same ∙ left.unused tag) ∙ leads)

    -- ---- pages

    -- a page that is held for something else than the table and these tags is as it was
    pub page_same : (holder : Holder) (home : Home) → Holds d files indexes holder home → ¬ holder ≡ of_table → ¬ holder ≡ of_tags number → pages home ≡ d.pages home
    page_same holder home held no_table no_tags = others home (λ at. no_table (below.owned.once home holder of_table held at))
        (false_from_ne_true (has_home (d.tags number) home) (λ has. no_tags (below.owned.once home holder (of_tags number) held has)))

    pub member_on : (vol p : ℕ) → Contains (table_of d.cells vol) p → IsMember d.frame.anchor vol
    member_on vol p on = ⊎_elim
        (λ member. member)
        (λ none. let e : length (table_of d.cells vol) ≡ 0 = ap length (below.tables.cells.others vol none) in absurd (omega (arith, e, on.1)))
        (member_or_none d.frame.anchor vol)

    pub on_table : (home : Home) → Contains (table_of d.cells home.vol) home.page → pages home ≡ d.pages home
    on_table home on = page_same of_cells home (member_on home.vol home.page on, on) (λ e. cc) (λ e. cc)

    other_tags : (n : ℕ) → ¬ n ≡ number → of_tags n ≡ of_tags number → ⊥
    other_tags n differ same = differ (tag_number n number same)
      where
        tag_number : (a b : ℕ) → of_tags a ≡ of_tags b → a ≡ b
        tag_number a b e = cc

    pub tag_page : (n : ℕ) → ¬ n ≡ number → (home : Home) → has_home (d.tags n) home ≡ true → pages home ≡ d.pages home
    tag_page n differ home has = page_same (of_tags n) home has (λ e. cc) (other_tags n differ)

    pub stands_on : (at : CellAt) (cell : Cell) → Contains (table_of d.cells at.vol) at.page → StandsAt d.pages at cell → StandsAt pages at cell
    stands_on at cell on stands = stands_by_page d.pages pages at cell (on_table (home_of at) on) stands

    pub stands_back : (at : CellAt) (cell : Cell) → Contains (table_of d.cells at.vol) at.page → StandsAt pages at cell → StandsAt d.pages at cell
    stands_back at cell on stands = stands_by_page pages d.pages at cell (sym (on_table (home_of at) on)) stands

    pub stand_still : (cs : List PlacedCell) → AreOnTables d.cells cs → AllByRecursion (λ (c : PlacedCell). StandsAt d.pages c.at c.cell) cs → AllByRecursion (λ (c : PlacedCell). StandsAt pages c.at c.cell) cs
    stand_still [] on stand = tt
    stand_still (c ∷ cs) on stand = (stands_on c.at c.cell on.0 stand.0, stand_still cs on.1 stand.1)

    pub on_was : (at : CellAt) (cell : Cell) → IsOnTable pages (layout_of freed) at cell → IsOnTable d.pages (layout_of d) at cell
    on_was at cell on = record { member = on.member; table = on.table; stands = stands_back at cell on.table on.stands }

    -- ---- tag directories

    pub other_lead : (n : ℕ) → ¬ n ≡ number → (tag : Tag) → cell_of pages (d.tags n) tag ≡ cell_of d.pages (d.tags n) tag
    other_lead n differ tag = by_item (item_in d n) refl
      where
        nothing : d.tags n ≡ [] → cell_of pages (d.tags n) tag ≡ cell_of d.pages (d.tags n) tag
        nothing none = ap (λ (ps : List TagPlace). cell_of pages ps tag) none ∙ sym (ap (λ (ps : List TagPlace). cell_of d.pages ps tag) none)

        by_first : (o : Option Home) → AreTagPlaces d.pages o (d.tags n) → cell_of pages (d.tags n) tag ≡ cell_of d.pages (d.tags n) tag
        by_first None none = nothing none
        by_first (Some first) are = cell_same d.pages pages (d.tags n) are.directory (pages_same d.pages pages (d.tags n) (tag_page n differ)) tag

        by_item : (o : Option SlotItem) → item_in d n ≡ o → cell_of pages (d.tags n) tag ≡ cell_of d.pages (d.tags n) tag
        by_item None at = nothing (subst (λ o. StandsInSlot d files n (option_and_then first_tag_of o)) at (below.chains.slots n))
        by_item (Some item) at = by_first (first_tag_of item) (below.tables.laid.tags n item at)

    pub lead_now : (n : ℕ) → ¬ n ≡ number → (tag : Tag) → cell_of pages (freed.tags n) tag ≡ cell_of d.pages (d.tags n) tag
    lead_now n differ tag = ap (λ (ps : List TagPlace). cell_of pages ps tag) (tags_other n differ) ∙ other_lead n differ tag

    pub lead_here : (tag : Tag) → cell_of pages (freed.tags number) tag ≡ None
    lead_here tag = ap (λ (ps : List TagPlace). cell_of pages ps tag) tags_here

    other_places : (n : ℕ) → ¬ n ≡ number → (first : Option Home) → AreTagPlaces d.pages first (d.tags n) → AreTagPlaces pages first (d.tags n)
    other_places n differ None are = are
    other_places n differ (Some first) are = record { directory = directory_same d.pages pages (d.tags n) are.directory (pages_same d.pages pages (d.tags n) (tag_page n differ)); begins = are.begins }

    places_now : (n : ℕ) (item : SlotItem) → item_in freed n ≡ Some item → AreTagPlaces pages (first_tag_of item) (freed.tags n)
    places_now n item there = ⊎_elim
        (λ same.
        let it : slot.Free ≡ item = some_same slot.Free item (sym item_here ∙ sym (ap (item_in freed) same) ∙ there) in
        subst (λ (k : ℕ). AreTagPlaces pages (first_tag_of item) (freed.tags k)) (sym same)
        (subst (λ (x : SlotItem). AreTagPlaces pages (first_tag_of x) (freed.tags number)) it tags_here))
        (λ differ. subst (AreTagPlaces pages (first_tag_of item)) (sym (tags_other n differ)) (other_places n differ (first_tag_of item) (below.tables.laid.tags n item (sym (item_other n differ) ∙ there))))
        (number_or_not n)

    -- ---- tables

    table_says : (o : Option Home) → d.frame.anchor.table ≡ o → IsSomeAnd o (λ home. IsSomeAnd (d.pages home) (λ page. IsTablePage page d.table)) → IsSomeAnd o (λ home. IsSomeAnd (pages home) (λ page. IsTablePage page table_now))
    table_says None at is = absurd is
    table_says (Some home) at is = says home at

    cells_now : (vol : ℕ) → IsMember d.frame.anchor vol → IsCellTable pages vol (first_cells d.frame vol) (table_of d.cells vol)
    cells_now vol member =
        let was : IsCellTable d.pages vol (first_cells d.frame vol) (table_of d.cells vol) = below.tables.laid.cells vol member in
        record {
          begins = was.begins;
          some = was.some;
          each = λ k within. subst (λ o. IsSomeAnd o (IsPageAt (table_of d.cells vol) k)) (sym (on_table (record { vol = vol; page = slice_index (table_of d.cells vol) k }) (index_in (table_of d.cells vol) k within))) (was.each k within);
        }

    volume_now : (vol : ℕ) → IsMember d.frame.anchor vol → HasVolumeCell freed vol
    volume_now vol member =
        let cell = below.tables.volumes vol member in
        let was : IsCellTable d.pages vol (first_cells d.frame vol) (table_of d.cells vol) = below.tables.laid.cells vol member in
        record { cell = cell.cell; stands = stands_on (first_place d.frame vol) cell.cell (first_in (table_of d.cells vol) (first_cells d.frame vol) was.begins) cell.stands; says = cell.says }

    pub tables_on : StandTables freed
    tables_on = record {
      laid = record {
        version = below.tables.laid.version;
        table = table_says d.frame.anchor.table refl below.tables.laid.table;
        cells = cells_now;
        tags = places_now;
      };
      log = below.tables.log;
      few = below.tables.few;
      may = below.tables.may;
      volumes = volume_now;
      cells = record {
        tables = λ vol member. refl;
        others = below.tables.cells.others;
        closed = below.tables.cells.closed;
        free = λ at. (
          (λ is.
              let f = (below.tables.cells.free at).0 is in
              record { member = f.member; table = f.table; within = f.within; free = subst (λ o. IsSomeAnd o (λ page. is_free_in page at.cell ≡ true)) (sym (on_table (home_of at) f.table)) f.free }),
          (λ f. (below.tables.cells.free at).1 (record { member = f.member; table = f.table; within = f.within; free = subst (λ o. IsSomeAnd o (λ page. is_free_in page at.cell ≡ true)) (on_table (home_of at) f.table) f.free })),
        );
      };
    }

    -- ---- what pages are held for

    abbrev pub Was : Holder → Home → Type 0
    Was = Holds d files indexes

    abbrev pub IsNow : Holder → Home → Type 0
    IsNow = Holds freed files indexes

    pub back : (h : Holder) (x : Home) → IsNow h x → Was h x × (¬ h ≡ of_tags number)
    back of_volume x is = (is, λ e. cc)
    back of_log x is = (is, λ e. cc)
    back of_table x is = (is, λ e. cc)
    back of_cells x is = (is, λ e. cc)
    back (of_tags n) x is = ⊎_elim
        (λ same. absurd (true≢false (sym is ∙ ap (λ (ps : List TagPlace). has_home ps x) (ap freed.tags same ∙ tags_here))))
        (λ differ. (ap (λ (ps : List TagPlace). has_home ps x) (sym (tags_other n differ)) ∙ is, other_tags n differ))
        (number_or_not n)
    back (of_index at k) x is = (is, λ e. cc)
    back (of_file at page) x is = (is, λ e. cc)

    on : (h : Holder) (x : Home) → Was h x → IsNow h x ⊎ (has_home (d.tags number) x ≡ true)
    on of_volume x was = inl was
    on of_log x was = inl was
    on of_table x was = inl was
    on of_cells x was = inl was
    on (of_tags n) x was = ⊎_elim
        (λ same. inr (ap (λ (k : ℕ). has_home (d.tags k) x) (sym same) ∙ was))
        (λ differ. inl (ap (λ (ps : List TagPlace). has_home ps x) (tags_other n differ) ∙ was))
        (number_or_not n)
    on (of_index at k) x was = inl was
    on (of_file at page) x was = inl was

    pub low_homes : (home : Home) → Contains homes home → 1 ≤ home.vol
    low_homes home inside = left.low home (listed_has (d.tags number) home inside)

    pub moves : SpacesMove NoHome (Among homes) d.space space_now
    moves = moves_away homes group d.space low_homes

    -- a page of the directory is held for nothing then
    gone_unheld : (x : Home) → Contains homes x → IsUnheld freed files indexes x
    gone_unheld x inside h is = let was = back h x is in was.1 (below.owned.once x h (of_tags number) was.0 (listed_has (d.tags number) x inside))

    unheld_was : (x : Home) → IsUnheld freed files indexes x → ¬ Contains homes x → IsUnheld d files indexes x
    unheld_was x none stays h was = ⊎_elim (none h) (λ has. stays (has_listed (d.tags number) x has)) (on h x was)

    module _ (vol : ℕ) (v w : VolumeSpace) (held : AreHeldOn d files indexes vol v) (m : VolumeMoves vol NoHome (Among homes) v w) where
      abbrev at : ℕ → Home
      at page = record { vol = vol; page = page }

      -- a page that goes was used
      gone_used : (page : ℕ) → page < v.pages → Contains homes (at page) → contains v.used page ≡ true
      gone_used page within inside = ⊎_elim
          (λ used. used)
          (λ unused. absurd (((held.free page within).0 unused).0 (of_tags number) (listed_has (d.tags number) (at page) inside)))
          (cases_Bool (contains v.used page))

      free_then : (page : ℕ) → page < w.pages → contains w.used page ≡ false → IsUnheld freed files indexes (at page) × (is_waiting w page ≡ false)
      free_then page within unused =
          let before : page < v.pages = (let p = m.pages in omega (arith, within, p)) in
          let was_unused : contains v.used page ≡ false = false_from_ne_true (contains v.used page) (λ used. both_ways (contains w.used page) unused (m.used_on page used)) in
          let was = (held.free page before).0 was_unused in (
            (λ h is. was.0 h (back h (at page) is).0),
            false_from_ne_true (is_waiting w page) (λ waits. ⊎_elim (λ did. both_ways (is_waiting v page) was.1 did) (λ goes. both_ways (contains v.used page) was_unused (gone_used page before goes)) (m.waits_back page waits)),
          )

      then_free : (page : ℕ) → page < w.pages → IsUnheld freed files indexes (at page) × (is_waiting w page ≡ false) → contains w.used page ≡ false
      then_free page within is =
          let before : page < v.pages = (let p = m.pages in omega (arith, within, p)) in
          let stays : ¬ Contains homes (at page) = λ goes. both_ways (is_waiting w page) is.1 (m.waits_more page goes) in
          let settled : is_waiting v page ≡ false = false_from_ne_true (is_waiting v page) (λ waits. both_ways (is_waiting w page) is.1 (m.waits_on page waits)) in
          let unused = (held.free page before).1 (unheld_was (at page) is.0 stays, settled) in
          false_from_ne_true (contains w.used page) (λ used. ⊎_elim (λ was. both_ways (contains v.used page) unused was) (λ none. none) (m.used_back page used))

      held_now : AreHeldOn freed files indexes vol w
      held_now = record {
        count = m.pages ∙ held.count;
        opened = ((λ is. held.opened.0 (sym m.opened ∙ is)), (λ is. m.opened ∙ held.opened.1 is));
        free = λ page within. (free_then page within, then_free page within);
        waits = λ page waiting. ⊎_elim
            (λ did. λ h is. held.waits page did h (back h (at page) is).0)
            (λ goes. gone_unheld (at page) goes)
            (m.waits_back page waiting);
      }

    spaces_on : (vol : ℕ) → 1 ≤ vol → AreHeldAt freed files indexes vol (volume_of space_now vol)
    spaces_on vol from = by_volumes (volume_of d.space vol) (volume_of space_now vol) (below.owned.spaces vol from) (moves vol from)
      where
        by_volumes : (a b : Option VolumeSpace) → AreHeldAt d files indexes vol a → ThereMoves vol NoHome (Among homes) a b → AreHeldAt freed files indexes vol b
        by_volumes None None none m = none
        by_volumes None (Some w) none m = absurd m
        by_volumes (Some v) None held m = absurd m
        by_volumes (Some v) (Some w) held m = (held.0, held_now vol v w held.1 m)

    pub owned_on : HoldsOwned freed files indexes
    owned_on = record { once = λ x a b is_a is_b. below.owned.once x a b (back a x is_a).0 (back b x is_b).0; spaces = spaces_on }

    -- ---- chains

    standing_was : (a : CellAt) (cs : List PlacedCell) → files a ≡ Some cs → IsStanding d.cells d.pages a cs
    standing_was a cs there = standing d.space d.cells d.pages files below.chains.well.together a cs there

    standing_now : (a : CellAt) (cs : List PlacedCell) → files a ≡ Some cs → IsStanding d.cells pages a cs
    standing_now a cs there =
        let was = standing_was a cs there in
        record { stands = chain_by d.pages pages a cs (stand_still cs was.on_tables (stand_chain d.pages a cs was.stands)) was.stands; on_tables = was.on_tables }

    -- a page of the directory is on no table of cells, and no file's
    no_table : (home : Home) → Contains homes home → ¬ Contains (table_of d.cells home.vol) home.page
    no_table home inside on = cells_not (below.owned.once home of_cells (of_tags number) (member_on home.vol home.page on, on) (listed_has (d.tags number) home inside))
      where
        cells_not : of_cells ≡ of_tags number → ⊥
        cells_not e = cc

    no_file : (a : CellAt) (page : ℕ) (home : Home) → place_in files a page ≡ At home → ¬ Contains homes home
    no_file a page home there inside = file_not (below.owned.once home (of_file a page) (of_tags number) there (listed_has (d.tags number) home inside))
      where
        file_not : of_file a page ≡ of_tags number → ⊥
        file_not e = cc

    allocated_now : AreAllocated space_now d.cells pages
    allocated_now = allocated_beside space_now d.cells d.pages pages on_table (allocated_while group homes d.space d.cells d.pages low_homes no_table below.chains.well.together.allocated)

    still_apart : (home : Home) → 1 ≤ home.vol → ¬ Contains homes home → IsHeldApart d.space d.cells home → IsHeldApart space_now d.cells home
    still_apart home from stays is = record { held = held_still NoHome (Among homes) d.space space_now moves home from stays is.held; off_table = is.off_table }

    not_listed : (home : Home) → ¬ Contains d.list.tag_pages home
    not_listed home inside = let e : length d.list.tag_pages ≡ 0 = ap length left.none_listed in omega (arith, e, inside.1)

    well_on : IsWell (all_of freed files)
    well_on =
        let well = below.chains.well in
        record {
          together = record {
            allocated = allocated_now;
            each = each_from d.cells pages files standing_now;
            apart = well.together.apart;
            held = λ a p home there. still_apart home (low_home d.space d.cells d.pages files well.together a p home there) (no_file a p home there) (well.together.held a p home there);
            once = well.together.once;
            one_deep = well.together.one_deep;
          };
          listed = record {
            each = well.listed.each;
            once = well.listed.once;
            order = well.listed.order;
            pages_once = well.listed.pages_once;
            pages_low = well.listed.pages_low;
            pages_held = λ home inside. absurd (not_listed home inside);
            pages_apart = well.listed.pages_apart;
          };
        }

    module _ (n : ℕ) (differ : ¬ n ≡ number) (has : HasFilesAmong d files n) where
      leads_on : (tag : Tag) (cs : List PlacedCell) → has.chains tag ≡ Some cs → LeadsToFile n (d.tags n) d.pages tag cs → LeadsToFile n (d.tags n) pages tag cs
      leads_on tag cs is was = record {
        leads = subst (λ o. IsSomeAnd o (λ a. IsFile pages a cs)) (sym (other_lead n differ tag)) (by_cell (cell_of d.pages (d.tags n) tag) was.leads);
        is_of = was.is_of;
        kinds = was.kinds;
      }
        where
          by_list : (a : CellAt) (xs : List PlacedCell) → has.chains tag ≡ Some xs → IsFile d.pages a xs → IsFile pages a xs
          by_list a [] is file = absurd file
          by_list a (first ∷ rest) is file =
              let there = file_of_tag files has.chains tag (first ∷ rest) a (has.among.same tag) is (ap Some file.0) in
              file_by d.pages pages a (first ∷ rest) (stand_still (first ∷ rest) (standing_was a (first ∷ rest) there).on_tables (stand_file d.pages a (first ∷ rest) file)) file

          by_cell : (o : Option CellAt) → IsSomeAnd o (λ a. IsFile d.pages a cs) → IsSomeAnd o (λ a. IsFile pages a cs)
          by_cell None leads = leads
          by_cell (Some a) leads = by_list a cs is leads

      by_chain : (tag : Tag) (o : Option (List PlacedCell)) → has.chains tag ≡ o → IfSome o (LeadsToFile n (d.tags n) d.pages tag) → IfSome o (LeadsToFile n (d.tags n) pages tag)
      by_chain tag None is was = tt
      by_chain tag (Some cs) is was = leads_on tag cs is was

      pub are_on : AreFiles n (d.tags n) pages has.chains
      are_on = record {
        directory = directory_same d.pages pages (d.tags n) has.are.directory (pages_same d.pages pages (d.tags n) (tag_page n differ));
        none = λ tag is. other_lead n differ tag ∙ has.are.none tag is;
        some = λ tag. by_chain tag (has.chains tag) refl (has.are.some tag);
        apart = has.are.apart;
      }

      files_on : HasFilesAmong freed files n
      files_on =
          let among = has.among in
          record {
            chains = has.chains;
            are = subst (λ (ps : List TagPlace). AreFiles n ps pages has.chains) (sym (tags_other n differ)) are_on;
            among = subst (λ (ps : List TagPlace). AreAmong (all_of freed files) ps has.chains) (sym (tags_other n differ))
                (record { same = among.same; live = among.live; trimmed = among.trimmed; low = among.low; no_tags = among.no_tags; not_listed = among.not_listed });
          }

    -- what is removed from another slot, and has no tag that is used
    empty_on : (n : ℕ) → ¬ n ≡ number → HasEmptyTags d n → HasEmptyTags freed n
    empty_on n differ empty = record {
      removed = subst IsRemoved (sym (item_other n differ)) empty.removed;
      none = λ tag. lead_now n differ tag ∙ empty.none tag;
      listed = ap homes_of (tags_other n differ) ∙ empty.listed;
    }

    slot_on : (n : ℕ) → ¬ n ≡ number → (o : Option Home) → StandsInSlot d files n o → StandsInSlot freed files n o
    slot_on n differ None none = tags_other n differ ∙ none
    slot_on n differ (Some first) in_slot = ⊎_elim (λ has. inl (files_on n differ has)) (λ empty. inr (empty_on n differ empty)) in_slot

    slots_on : (n : ℕ) → StandsInSlot freed files n (named_by first_tag_of freed n)
    slots_on n = ⊎_elim
        (λ same. subst (λ (k : ℕ). StandsInSlot freed files k (named_by first_tag_of freed k)) (sym same)
        (subst (λ o. StandsInSlot freed files number (option_and_then first_tag_of o)) (sym item_here) tags_here))
        (λ differ. subst (λ o. StandsInSlot freed files n (option_and_then first_tag_of o)) (sym (item_other n differ)) (slot_on n differ (named_by first_tag_of d n) (below.chains.slots n)))
        (number_or_not n)

    -- quota cells are named by the others
    quota_was : (n : ℕ) (a : CellAt) → IsQuotaOf freed n a → IsQuotaOf d n a
    quota_was n a quota = ⊎_elim
        (λ same. absurd (none_not a (sym (ap (option_and_then quota_of) (ap (item_in freed) same ∙ item_here)) ∙ quota)))
        (λ differ. sym (ap (option_and_then quota_of) (item_other n differ)) ∙ quota)
        (number_or_not n)

    quota_now : (n : ℕ) (a : CellAt) → IsQuotaOf d n a → IsQuotaOf freed n a
    quota_now n a quota = ap (option_and_then quota_of) (item_other n (not_quota n a quota)) ∙ quota

    quotas_on : (n : ℕ) (a : CellAt) (o : Option (List PlacedCell)) → files a ≡ o → IsSomeAnd o (AreQuotasOf d n a) → IsSomeAnd o (AreQuotasOf freed n a)
    quotas_on n a None is are = are
    quotas_on n a (Some cs) is are = record { quotas = quotas (standing_now a cs is).stands; of = are.of; once = are.once }
      where
        no_attributes : first_record 1 cs ≡ None
        no_attributes = quota_first d.pages a cs are.quotas 1 (λ e. omega (arith, e)) (λ e. omega (arith, e))

        quotas : IsFileOrQuotas pages a cs → IsQuotas pages a cs
        quotas either = ⊎_elim (λ file. absurd (has_attributes pages a cs file no_attributes)) (λ are_now. are_now) either

    indexed_on : (a : CellAt) → AreIndexHomes pages (option_and_then index_of (files a)) (indexes a)
    indexed_on a =
        kept_same d.pages pages (option_and_then index_of (files a)) (indexes a) (below.chains.indexed a)
        (λ home inside. let k = in_get (indexes a) home inside in page_same (of_index a k.0) home k.1 (λ e. cc) (λ e. cc))

    tagged_on : (a : CellAt) → IsTagged d a → IsTagged freed a
    tagged_on a it = (it.0, it.1, lead_now it.0 (not_tagged it.0 it.1 a it.2) it.1 ∙ it.2)

    named_on : (a : CellAt) (cs : List PlacedCell) → IsSomebodys d a cs → IsSomebodys freed a cs
    named_on a cs of = ⊎_elim
        (λ it. inl (tagged_on a it))
        (λ rest. inr (⊎_elim (λ left. inl left) (λ quota. inr (quota.0, quota_now quota.0 a quota.1)) rest))
        of

    to_go_on : (a : CellAt) → IsQuotaToGo d a → IsQuotaToGo freed a
    to_go_on a go = (go.0, subst IsRemoved (sym (item_other go.0 (not_quota go.0 a go.2))) go.1, quota_now go.0 a go.2)

    pub chains_on : StandChains freed files indexes
    chains_on = record {
      well = well_on;
      slots = slots_on;
      quotas = λ n a quota. quotas_on n a (files a) refl (below.chains.quotas n a (quota_was n a quota));
      indexed = indexed_on;
      used = λ a cell on_it. below.chains.used a cell (on_was a cell on_it);
      named = λ a cs there. named_on a cs (below.chains.named a cs there);
      to_do = λ a left. let listed = below.chains.to_do a left in (listed.0, listed.1, listed.2);
      listed = λ a listed. ⊎_elim (λ left. inl left) (λ go. inr (to_go_on a go)) (below.chains.listed a (listed.0, listed.1, listed.2));
      tag_pages = λ home inside. absurd (not_listed home inside);
    }

    -- ---- single cells

    -- what is asked of a first cell, by what is in its slot: as little of what is free as of what is
    -- being removed
    item_said : (o : Option ℕ) → (of_original (option_and_then (slice_get table_now.slots) o) ≡ of_original (option_and_then (slice_get d.table.slots) o))
        × (of_clone (option_and_then (slice_get table_now.slots) o) ≡ of_clone (option_and_then (slice_get d.table.slots) o))
    item_said None = (refl, refl)
    item_said (Some n) = ⊎_elim
        (λ same.
        let here : slice_get table_now.slots n ≡ Some slot.Free = ap (slice_get table_now.slots) same ∙ item_here in
        let was : slice_get d.table.slots n ≡ Some (slot.Removed left.first_tag None) = ap (slice_get d.table.slots) same ∙ left.was in
        (ap of_original here ∙ sym (ap of_original was), ap of_clone here ∙ sym (ap of_clone was)))
        (λ differ. (ap of_original (item_other n differ), ap of_clone (item_other n differ)))
        (number_or_not n)

    good_same : (cell : Cell) → is_good_first table_now cell ≡ is_good_first d.table cell
    good_same cell =
        let said = item_said cell.head.fileset in
        (λ i. has_first_records cell.records
        && (say_removed cell.records
        || ((not (said.0 i) || (has_its_kinds false cell.records && option_map_or (λ r. keeps_well r (has_kind 6 cell.records)) (record_of 1 cell.records) false))
        && (not (said.1 i) || has_its_kinds true cell.records))))

    -- a tag leads to a cell on a table
    module _ (n : ℕ) (tag : Tag) (a : CellAt) (leads : cell_of d.pages (d.tags n) tag ≡ Some a) where
      in_files : HasFilesAmong d files n → Contains (table_of d.cells a.vol) a.page
      in_files h = by_chain (h.chains tag) refl
        where
          by_list : (cs : List PlacedCell) → h.chains tag ≡ Some cs → IsFile d.pages a cs → Contains (table_of d.cells a.vol) a.page
          by_list [] is file = absurd file
          by_list (first ∷ rest) is file =
              let there = file_of_tag files h.chains tag (first ∷ rest) a (h.among.same tag) is (ap Some file.0) in
              subst (λ (x : CellAt). Contains (table_of d.cells x.vol) x.page) file.0 (standing_was a (first ∷ rest) there).on_tables.0

          by_chain : (o : Option (List PlacedCell)) → h.chains tag ≡ o → Contains (table_of d.cells a.vol) a.page
          by_chain None is = absurd (none_not a (sym (h.are.none tag is) ∙ leads))
          by_chain (Some cs) is = by_list cs is (subst (λ o. IsSomeAnd o (λ x. IsFile d.pages x cs)) leads (subst (λ o. IfSome o (LeadsToFile n (d.tags n) d.pages tag)) is (h.are.some tag)).leads)

      tag_on_table : (o : Option Home) → StandsInSlot d files n o → Contains (table_of d.cells a.vol) a.page
      tag_on_table None empty = absurd (none_not a (sym (ap (λ (ps : List TagPlace). cell_of d.pages ps tag) empty) ∙ leads))
      tag_on_table (Some first) in_slot = ⊎_elim in_files (λ e. absurd (none_not a (sym (e.none tag) ∙ leads))) in_slot

    births_on : (a : CellAt) (cell : Cell) (value : Record) → IsOfOriginal freed a → StandsAt pages a cell → record_of 1 cell.records ≡ Some value → ¬ IsLate d.table.made value
    births_on a cell value o stands has = ⊎_elim
        (λ same. absurd (none_not a (sym (lead_here o.tag) ∙ sym (ap (λ (k : ℕ). cell_of pages (freed.tags k) o.tag) same) ∙ o.leads)))
        (λ differ.
        let leads : cell_of d.pages (d.tags o.number) o.tag ≡ Some a = sym (lead_now o.number differ o.tag) ∙ o.leads in
        below.rest.births a cell value (record { number = o.number; original = ap of_original (sym (item_other o.number differ)) ∙ o.original; tag = o.tag; leads = leads })
        (stands_back a cell (tag_on_table o.number o.tag a leads (named_by first_tag_of d o.number) (below.chains.slots o.number)) stands) has)
        (number_or_not o.number)

    holes_on : (a : CellAt) (cs : List PlacedCell) → files a ≡ Some cs → StaysInOriginal freed cs → AllByRecursion HasNoHoles cs
    holes_on a [] there stays = absurd stays
    holes_on a (first ∷ rest) there stays = below.rest.holes a (first ∷ rest) there (sym (item_said first.cell.head.fileset).0 ∙ stays.0, stays.1)

    rest_on : SaysTheRest freed files
    rest_on = record {
      kinds = λ a cell it. below.rest.kinds a cell (on_was a cell it);
      firsts = λ a cell it primary. good_same cell ∙ below.rest.firsts a cell (on_was a cell it) primary;
      births = births_on;
      holes = holes_on;
    }

    pub below_freed : StandsBelow freed files indexes
    below_freed = record { tables = tables_on; chains = chains_on; owned = owned_on; rest = rest_on }
