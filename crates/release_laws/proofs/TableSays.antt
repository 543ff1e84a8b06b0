-- A domain comes to stand where its fileset table says less of quota cells than it did.
use Rattle.std.proofs.Common.{◌≡◌, ◌⊎◌, ◌∙◌, ⊎_elim, inl, inr, ℕ, true, List, [], ◌∷◌, length, Option, Some, None, IfSome, IsSomeAnd, Contains, slice_get, slice_index, refl, sym, ap, subst, arith}
use Rattle.std.specs.List.{AllByRecursion}
use Rattle.std.specs.Option.{option_and_then}
use Rattle.standing_laws.specs.domain_base.declared.place.CellAt.{CellAt}
use Rattle.standing_laws.specs.domain_base.declared.place.Home.{Home}
use Rattle.standing_laws.specs.domain_base.declared.place.Tag.{Tag}
use Rattle.standing_laws.specs.log_ring.Homes.{IsMember}
use Rattle.standing_laws.specs.page_store.Pages.{Pages}
use Rattle.standing_laws.specs.cell_records.declared.record.Record.{Record}
use Rattle.standing_laws.specs.metadata_cells.Cell.{Cell, record_of}
use Rattle.standing_laws.specs.metadata_cells.CellPage.{home_of, is_free_in}
use Rattle.standing_laws.specs.metadata_cells.Chain.{PlacedCell, StandsAt}
use Rattle.standing_laws.specs.tag_dirs.Directory.{cell_of, has_home}
use Rattle.standing_laws.specs.tag_dirs.declared.dir.TagPlace.{TagPlace}
use Rattle.standing_laws.specs.free_cells.Cells.{table_of}
use Rattle.standing_laws.specs.free_space.Spaces.{volume_of}
use Rattle.standing_laws.specs.free_space.VolumeSpace.{VolumeSpace}
use Rattle.standing_laws.specs.file_chains.FileChanges.{AreOnTables}
use Rattle.standing_laws.specs.file_chains.Files.{IsFile}
use Rattle.standing_laws.proofs.OfFileChains.ChainChanges.{stand_file}
use Rattle.standing_laws.specs.fileset_files.Files.{AreFiles, LeadsToFile, first_record}
use Rattle.standing_laws.specs.fileset_files.Shown.{index_of}
use Rattle.standing_laws.proofs.OfFilesetFiles.Created.{allocated_beside, stands_by_page}
use Rattle.standing_laws.proofs.OfFilesetFiles.OneChain.{file_by}
use Rattle.standing_laws.proofs.OfFilesetFiles.Tags.{cell_same, directory_same, pages_same}
use Rattle.standing_laws.specs.index_pages.Homes.{AreIndexHomes}
use Rattle.standing_laws.proofs.OfIndexPages.Homes.{kept_same}
use Rattle.standing_laws.specs.fileset_table.Page.{IsTablePage}
use Rattle.standing_laws.specs.fileset_table.Table.{Table}
use Rattle.standing_laws.specs.fileset_table.declared.slot.SlotItem.{SlotItem}
use Rattle.standing_laws.specs.cell_records.declared.record.Leftover.TheVariants.{Remove}
use Rattle.standing_laws.specs.release_list.Listed.{left_of}
use Rattle.standing_laws.specs.release_list.Standing.{Files, IsQuotas, IsStanding}
use Rattle.standing_laws.specs.release_list.Steps.{IsWell}
use Rattle.standing_laws.proofs.OfReleaseList.Spread.{none_not}
use Rattle.standing_laws.proofs.OfReleaseList.Standings.{chain_by, each_from, quota_first, stand_chain, standing}
use Rattle.standing_laws.proofs.OfReleaseSteps.StillAmong.{file_of_tag}
use Rattle.standing_laws.proofs.OfReleaseSteps.Tags.{has_attributes}
use Rattle.standing_laws.proofs.OfDomainLayout.Reached.{member_or_none}
use Rattle.standing_laws.specs.domain_standing.Space.{IsFreeAt}
use Rattle.standing_laws.specs.domain_layout.CellRules.{IsFirstPlace, is_good_first, of_original}
use Rattle.standing_laws.specs.domain_layout.Filled.{Contents}
use Rattle.standing_laws.specs.domain_layout.Layout.{AreTagPlaces, IsCellTable, IsPageAt, first_tag_of}
use Rattle.standing_laws.specs.domain_layout.Owners.{IsOnTable}
use Rattle.standing_laws.specs.domain_layout.Reached.{first_cells}
use Rattle.standing_laws.specs.domain_layout.TagRules.{IsLate, quota_of}
use Rattle.standing_laws.specs.domain_standing.Chains.{AreQuotasOf, HasEmptyTags, HasFilesAmong, IndexesAt, IsInChain, IsOnList, IsRemoved, IsSomebodys, IsTagged, IsToDo, StandChains, StandsInSlot}
use Rattle.standing_laws.specs.domain_standing.Domain.{DomainNow, all_of, layout_of, named_by}
use Rattle.standing_laws.specs.domain_standing.Holders.{AreHeldAt, Holder, Holds, HoldsOwned}
use Rattle.standing_laws.specs.domain_standing.Holders.Holder.{of_cells, of_file, of_index, of_log, of_table, of_tags, of_volume}
use Rattle.standing_laws.specs.domain_standing.Rest.{IsOfOriginal, SaysTheRest, StaysInOriginal}
use Rattle.standing_laws.specs.domain_standing.Tables.{HasVolumeCell, StandTables, first_place}
use Rattle.standing_laws.specs.Leads.{StandsBelow}
use Rattle.standing_laws.proofs.HomeLists.{in_get}
use Rattle.standing_laws.proofs.OthersStand.{SaysWhere}
use Rattle.standing_laws.proofs.TablesStand.{first_in, index_in}

-- a table that says less of slots but for their quota cells: what is in them begins where it did, with
-- its tags, and what is an original was one
pub record NamesTheRest (was now : Table) : Type 0 where
  pub made : now.made ≡ was.made
  pub firsts : (n : ℕ) → option_and_then first_tag_of (slice_get now.slots n) ≡ option_and_then first_tag_of (slice_get was.slots n)
  pub removed : (n : ℕ) → IsRemoved (slice_get was.slots n) → IsRemoved (slice_get now.slots n)
  pub original : (n : ℕ) → of_original (slice_get now.slots n) ≡ true → of_original (slice_get was.slots n) ≡ true
  pub good : (cell : Cell) → is_good_first was cell ≡ true → is_good_first now cell ≡ true

-- a table names the quota cells of a slot
abbrev pub NamesQuota : Table → ℕ → CellAt → Type 0
NamesQuota table n at = option_and_then quota_of (slice_get table.slots n) ≡ Some at

-- all of a domain that stands but for its filesets, where quota cells are those that a table names
-- which it does not have yet
pub record StandsBut (table : Table) (d : DomainNow) (files : Files) (indexes : IndexesAt) : Type 0 where
  pub tables : StandTables d
  pub owned : HoldsOwned d files indexes
  pub rest : SaysTheRest d files
  pub well : IsWell (all_of d files)
  pub slots : (n : ℕ) → StandsInSlot d files n (named_by first_tag_of d n)
  pub quotas : (n : ℕ) (at : CellAt) → NamesQuota table n at → IsSomeAnd (files at) (AreQuotasOf d n at)
  pub indexed : (at : CellAt) → AreIndexHomes d.pages (option_and_then index_of (files at)) (indexes at)
  pub used : (at : CellAt) (cell : Cell) → IsOnTable d.pages (layout_of d) at cell → IsFirstPlace d.frame at ⊎ IsInChain files at
  pub named : (at : CellAt) (chain : List PlacedCell) → files at ≡ Some chain → IsTagged d at ⊎ (left_of chain ≡ Some Remove) ⊎ ((n : ℕ) × NamesQuota table n at)
  pub to_do : (at : CellAt) → IsToDo files at → IsOnList d at
  pub listed : (at : CellAt) → IsOnList d at → IsToDo files at ⊎ ((n : ℕ) × IsRemoved (slice_get d.table.slots n) × NamesQuota table n at)
  pub tag_pages : (home : Home) → Contains d.list.tag_pages home → (n : ℕ) × HasEmptyTags d n

module _ (d : DomainNow) (files : Files) (indexes : IndexesAt) (table_now : Table) (below : StandsBut table_now d files indexes) (pages : Pages) (contents : Contents)
    (keeps : (holder : Holder) (home : Home) → SaysWhere holder → Holds d files indexes holder home → pages home ≡ d.pages home) where
  -- ---- pages of cells

  pub member_on : (vol p : ℕ) → Contains (table_of d.cells vol) p → IsMember d.frame.anchor vol
  member_on vol p on = ⊎_elim
      (λ member. member)
      (λ none. let e : length (table_of d.cells vol) ≡ 0 = ap length (below.tables.cells.others vol none) in absurd (omega (arith, e, on.1)))
      (member_or_none d.frame.anchor vol)

  on_table : (home : Home) → Contains (table_of d.cells home.vol) home.page → pages home ≡ d.pages home
  on_table home on = keeps of_cells home tt (member_on home.vol home.page on, on)

  pub stands_on : (at : CellAt) (cell : Cell) → Contains (table_of d.cells at.vol) at.page → StandsAt d.pages at cell → StandsAt pages at cell
  stands_on at cell on stands = stands_by_page d.pages pages at cell (on_table (home_of at) on) stands

  stands_back : (at : CellAt) (cell : Cell) → Contains (table_of d.cells at.vol) at.page → StandsAt pages at cell → StandsAt d.pages at cell
  stands_back at cell on stands = stands_by_page pages d.pages at cell (sym (on_table (home_of at) on)) stands

  pub stand_still : (cs : List PlacedCell) → AreOnTables d.cells cs → AllByRecursion (λ (c : PlacedCell). StandsAt d.pages c.at c.cell) cs → AllByRecursion (λ (c : PlacedCell). StandsAt pages c.at c.cell) cs
  stand_still [] on stand = tt
  stand_still (c ∷ cs) on stand = (stands_on c.at c.cell on.0 stand.0, stand_still cs on.1 stand.1)

  -- ---- tag directories

  tag_pages : (n : ℕ) (home : Home) → has_home (d.tags n) home ≡ true → pages home ≡ d.pages home
  tag_pages n home has = keeps (of_tags n) home tt has

  pub tags_now : (n : ℕ) (first : Option Home) → AreTagPlaces d.pages first (d.tags n) → AreTagPlaces pages first (d.tags n)
  tags_now n None are = are
  tags_now n (Some first) are = record { directory = directory_same d.pages pages (d.tags n) are.directory (pages_same d.pages pages (d.tags n) (tag_pages n)); begins = are.begins }

  pub cells_lead : (n : ℕ) (tag : Tag) → cell_of pages (d.tags n) tag ≡ cell_of d.pages (d.tags n) tag
  cells_lead n tag = by_item (slice_get d.table.slots n) refl
    where
      nothing : d.tags n ≡ [] → cell_of pages (d.tags n) tag ≡ cell_of d.pages (d.tags n) tag
      nothing none = ap (λ (ps : List TagPlace). cell_of pages ps tag) none ∙ sym (ap (λ (ps : List TagPlace). cell_of d.pages ps tag) none)

      by_first : (o : Option Home) → AreTagPlaces d.pages o (d.tags n) → cell_of pages (d.tags n) tag ≡ cell_of d.pages (d.tags n) tag
      by_first None none = nothing none
      by_first (Some first) are = cell_same d.pages pages (d.tags n) are.directory (pages_same d.pages pages (d.tags n) (tag_pages n)) tag

      by_item : (o : Option SlotItem) → slice_get d.table.slots n ≡ o → cell_of pages (d.tags n) tag ≡ cell_of d.pages (d.tags n) tag
      by_item None at = nothing (subst (λ o. StandsInSlot d files n (option_and_then first_tag_of o)) at (below.slots n))
      by_item (Some item) at = by_first (first_tag_of item) (below.tables.laid.tags n item at)

  -- ---- tables of cells

  cells_now : (vol : ℕ) → IsMember d.frame.anchor vol → IsCellTable pages vol (first_cells d.frame vol) (table_of d.cells vol)
  cells_now vol member =
      let was : IsCellTable d.pages vol (first_cells d.frame vol) (table_of d.cells vol) = below.tables.laid.cells vol member in
      record {
        begins = was.begins;
        some = was.some;
        each = λ place within. subst (λ o. IsSomeAnd o (IsPageAt (table_of d.cells vol) place)) (sym (on_table (record { vol = vol; page = slice_index (table_of d.cells vol) place }) (index_in (table_of d.cells vol) place within))) (was.each place within);
      }

  -- ---- chains

  pub standing_was : (at : CellAt) (cs : List PlacedCell) → files at ≡ Some cs → IsStanding d.cells d.pages at cs
  standing_was at cs there = standing d.space d.cells d.pages files below.well.together at cs there

  standing_now : (at : CellAt) (cs : List PlacedCell) → files at ≡ Some cs → IsStanding d.cells pages at cs
  standing_now at cs there =
      let was = standing_was at cs there in
      record { stands = chain_by d.pages pages at cs (stand_still cs was.on_tables (stand_chain d.pages at cs was.stands)) was.stands; on_tables = was.on_tables }

  module _ (n : ℕ) (has : HasFilesAmong d files n) where
    leads_on : (tag : Tag) (cs : List PlacedCell) → has.chains tag ≡ Some cs → LeadsToFile n (d.tags n) d.pages tag cs → LeadsToFile n (d.tags n) pages tag cs
    leads_on tag cs is was = record {
      leads = subst (λ o. IsSomeAnd o (λ a. IsFile pages a cs)) (sym (cells_lead n tag)) (by_cell (cell_of d.pages (d.tags n) tag) was.leads);
      is_of = was.is_of;
      kinds = was.kinds;
    }
      where
        by_list : (a : CellAt) (xs : List PlacedCell) → has.chains tag ≡ Some xs → IsFile d.pages a xs → IsFile pages a xs
        by_list a [] is file = absurd file
        by_list a (first ∷ rest) is file =
            let there = file_of_tag files has.chains tag (first ∷ rest) a (has.among.same tag) is (ap Some file.0) in
            file_by d.pages pages a (first ∷ rest) (stand_still (first ∷ rest) (standing_was a (first ∷ rest) there).on_tables (stand_file d.pages a (first ∷ rest) file)) file

        by_cell : (o : Option CellAt) → IsSomeAnd o (λ a. IsFile d.pages a cs) → IsSomeAnd o (λ a. IsFile pages a cs)
        by_cell None leads = leads
        by_cell (Some a) leads = by_list a cs is leads

    pub are_on : AreFiles n (d.tags n) pages has.chains
    are_on = record {
      directory = directory_same d.pages pages (d.tags n) has.are.directory (pages_same d.pages pages (d.tags n) (tag_pages n));
      none = λ tag is. cells_lead n tag ∙ has.are.none tag is;
      some = λ tag. by_chain tag (has.chains tag) refl (has.are.some tag);
      apart = has.are.apart;
    }
      where
        by_chain : (tag : Tag) (o : Option (List PlacedCell)) → has.chains tag ≡ o → IfSome o (LeadsToFile n (d.tags n) d.pages tag) → IfSome o (LeadsToFile n (d.tags n) pages tag)
        by_chain tag None is was = tt
        by_chain tag (Some cs) is was = leads_on tag cs is was

  pub quotas_kept : (n : ℕ) (at : CellAt) (cs : List PlacedCell) → files at ≡ Some cs → AreQuotasOf d n at cs → IsQuotas pages at cs
  quotas_kept n at cs is are = ⊎_elim (λ file. absurd (has_attributes pages at cs file no_attributes)) (λ are_now. are_now) (standing_now at cs is).stands
    where
      no_attributes : first_record 1 cs ≡ None
      no_attributes = quota_first d.pages at cs are.quotas 1 (λ e. omega (arith, e)) (λ e. omega (arith, e))

  indexed_on : (at : CellAt) → AreIndexHomes pages (option_and_then index_of (files at)) (indexes at)
  indexed_on at =
      kept_same d.pages pages (option_and_then index_of (files at)) (indexes at) (below.indexed at)
      (λ home inside. let k = in_get (indexes at) home inside in keeps (of_index at k.0) home tt k.1)

  -- ---- single cells

  -- a tag of a slot leads to a cell on a table
  module _ (n : ℕ) (tag : Tag) (at : CellAt) (leads : cell_of d.pages (d.tags n) tag ≡ Some at) where
    in_files : HasFilesAmong d files n → Contains (table_of d.cells at.vol) at.page
    in_files h = by_chain (h.chains tag) refl
      where
        by_list : (cs : List PlacedCell) → h.chains tag ≡ Some cs → IsFile d.pages at cs → Contains (table_of d.cells at.vol) at.page
        by_list [] is file = absurd file
        by_list (first ∷ rest) is file =
            let there = file_of_tag files h.chains tag (first ∷ rest) at (h.among.same tag) is (ap Some file.0) in
            subst (λ (a : CellAt). Contains (table_of d.cells a.vol) a.page) file.0 (standing_was at (first ∷ rest) there).on_tables.0

        by_chain : (o : Option (List PlacedCell)) → h.chains tag ≡ o → Contains (table_of d.cells at.vol) at.page
        by_chain None is = absurd (none_not at (sym (h.are.none tag is) ∙ leads))
        by_chain (Some cs) is = by_list cs is (subst (λ o. IsSomeAnd o (λ a. IsFile d.pages a cs)) leads (subst (λ o. IfSome o (LeadsToFile n (d.tags n) d.pages tag)) is (h.are.some tag)).leads)

    tagged_on : (o : Option Home) → StandsInSlot d files n o → Contains (table_of d.cells at.vol) at.page
    tagged_on None empty = absurd (none_not at (sym (ap (λ (ps : List TagPlace). cell_of d.pages ps tag) empty) ∙ leads))
    tagged_on (Some first) in_slot = ⊎_elim in_files (λ e. absurd (none_not at (sym (e.none tag) ∙ leads))) in_slot

  -- ---- with the table

  module _ (re : NamesTheRest d.table table_now) (says : IsSomeAnd d.frame.anchor.table (λ home. IsSomeAnd (pages home) (λ page. IsTablePage page table_now))) where
    abbrev pub retabled : DomainNow
    retabled = record d { table = table_now; pages = pages; contents = contents }

    on_was : (at : CellAt) (cell : Cell) → IsOnTable pages (layout_of retabled) at cell → IsOnTable d.pages (layout_of d) at cell
    on_was at cell on = record { member = on.member; table = on.table; stands = stands_back at cell on.table on.stands }

    -- ---- tables

    volume_now : (vol : ℕ) → IsMember d.frame.anchor vol → HasVolumeCell retabled vol
    volume_now vol member =
        let cell = below.tables.volumes vol member in
        let was : IsCellTable d.pages vol (first_cells d.frame vol) (table_of d.cells vol) = below.tables.laid.cells vol member in
        record { cell = cell.cell; stands = stands_on (first_place d.frame vol) cell.cell (first_in (table_of d.cells vol) (first_cells d.frame vol) was.begins) cell.stands; says = cell.says }

    free_there : (at : CellAt) → IsFreeAt d.pages (layout_of d) at → IsFreeAt pages (layout_of retabled) at
    free_there at f = record { member = f.member; table = f.table; within = f.within; free = subst (λ o. IsSomeAnd o (λ page. is_free_in page at.cell ≡ true)) (sym (on_table (home_of at) f.table)) f.free }

    free_back : (at : CellAt) → IsFreeAt pages (layout_of retabled) at → IsFreeAt d.pages (layout_of d) at
    free_back at f = record { member = f.member; table = f.table; within = f.within; free = subst (λ o. IsSomeAnd o (λ page. is_free_in page at.cell ≡ true)) (on_table (home_of at) f.table) f.free }

    -- where the tags of a slot stood, by what is in it now
    places_were : (n : ℕ) (item : SlotItem) → slice_get table_now.slots n ≡ Some item → AreTagPlaces d.pages (first_tag_of item) (d.tags n)
    places_were n item there = by_item (slice_get d.table.slots n) refl (sym (re.firsts n) ∙ ap (option_and_then first_tag_of) there)
      where
        by_item : (o : Option SlotItem) → slice_get d.table.slots n ≡ o → option_and_then first_tag_of o ≡ first_tag_of item → AreTagPlaces d.pages (first_tag_of item) (d.tags n)
        by_item None at is = subst (λ o. AreTagPlaces d.pages o (d.tags n)) is (subst (λ o. StandsInSlot d files n (option_and_then first_tag_of o)) at (below.slots n))
        by_item (Some was) at is = subst (λ o. AreTagPlaces d.pages o (d.tags n)) is (below.tables.laid.tags n was at)

    tables_on : StandTables retabled
    tables_on = record {
      laid = record {
        version = below.tables.laid.version;
        table = says;
        cells = cells_now;
        tags = λ n item there. tags_now n (first_tag_of item) (places_were n item there);
      };
      log = below.tables.log;
      few = below.tables.few;
      may = below.tables.may;
      volumes = volume_now;
      cells = record {
        tables = λ vol member. refl;
        others = below.tables.cells.others;
        closed = below.tables.cells.closed;
        free = λ at. ((λ is. free_there at ((below.tables.cells.free at).0 is)), (λ f. (below.tables.cells.free at).1 (free_back at f)));
      };
    }

    -- ---- what pages are held for

    held_back : (h : Holder) (home : Home) → Holds retabled files indexes h home → Holds d files indexes h home
    held_back of_volume home is = is
    held_back of_log home is = is
    held_back of_table home is = is
    held_back of_cells home is = is
    held_back (of_tags n) home is = is
    held_back (of_index at k) home is = is
    held_back (of_file at page) home is = is

    held_on : (h : Holder) (home : Home) → Holds d files indexes h home → Holds retabled files indexes h home
    held_on of_volume home is = is
    held_on of_log home is = is
    held_on of_table home is = is
    held_on of_cells home is = is
    held_on (of_tags n) home is = is
    held_on (of_index at k) home is = is
    held_on (of_file at page) home is = is

    space_on : (vol : ℕ) (o : Option VolumeSpace) → AreHeldAt d files indexes vol o → AreHeldAt retabled files indexes vol o
    space_on vol None none = none
    space_on vol (Some v) held = (
      held.0,
      record {
        count = held.1.count;
        opened = held.1.opened;
        free = λ page within. (
          (λ unused. let was = (held.1.free page within).0 unused in ((λ h is. was.0 h (held_back h (record { vol = vol; page = page }) is)), was.1)),
          (λ is. (held.1.free page within).1 ((λ h was. is.0 h (held_on h (record { vol = vol; page = page }) was)), is.1)),
        );
        waits = λ page waiting h is. held.1.waits page waiting h (held_back h (record { vol = vol; page = page }) is);
      },
    )

    owned_on : HoldsOwned retabled files indexes
    owned_on = record {
      once = λ home one other a b. below.owned.once home one other (held_back one home a) (held_back other home b);
      spaces = λ vol low. space_on vol (volume_of d.space vol) (below.owned.spaces vol low);
    }

    -- ---- chains

    well_on : IsWell (all_of retabled files)
    well_on =
        let well = below.well in
        record {
          together = record {
            allocated = allocated_beside d.space d.cells d.pages pages on_table well.together.allocated;
            each = each_from d.cells pages files standing_now;
            apart = well.together.apart;
            held = well.together.held;
            once = well.together.once;
            one_deep = well.together.one_deep;
          };
          listed = well.listed;
        }

    files_on : (n : ℕ) → HasFilesAmong d files n → HasFilesAmong retabled files n
    files_on n has =
        let among = has.among in
        record {
          chains = has.chains;
          are = are_on n has;
          among = record { same = among.same; live = among.live; trimmed = among.trimmed; low = among.low; no_tags = among.no_tags; not_listed = among.not_listed };
        }

    empty_on : (n : ℕ) → HasEmptyTags d n → HasEmptyTags retabled n
    empty_on n empty = record { removed = re.removed n empty.removed; none = λ tag. cells_lead n tag ∙ empty.none tag; listed = empty.listed }

    slot_on : (n : ℕ) (o : Option Home) → StandsInSlot d files n o → StandsInSlot retabled files n o
    slot_on n None none = none
    slot_on n (Some first) stood = ⊎_elim (λ has. inl (files_on n has)) (λ empty. inr (empty_on n empty)) stood

    quotas_on : (n : ℕ) (at : CellAt) (o : Option (List PlacedCell)) → files at ≡ o → IsSomeAnd o (AreQuotasOf d n at) → IsSomeAnd o (AreQuotasOf retabled n at)
    quotas_on n at None is are = are
    quotas_on n at (Some cs) is are = record { quotas = quotas_kept n at cs is are; of = are.of; once = are.once }

    named_on : (at : CellAt) (cs : List PlacedCell) → IsTagged d at ⊎ (left_of cs ≡ Some Remove) ⊎ ((n : ℕ) × NamesQuota table_now n at) → IsSomebodys retabled at cs
    named_on at cs of = ⊎_elim
        (λ it. inl (it.0, it.1, cells_lead it.0 it.1 ∙ it.2))
        (λ rest. inr rest)
        of

    chains_on : StandChains retabled files indexes
    chains_on = record {
      well = well_on;
      slots = λ n. subst (StandsInSlot retabled files n) (sym (re.firsts n)) (slot_on n (named_by first_tag_of d n) (below.slots n));
      quotas = λ n at quota. quotas_on n at (files at) refl (below.quotas n at quota);
      indexed = indexed_on;
      used = λ at cell on. below.used at cell (on_was at cell on);
      named = λ at cs there. named_on at cs (below.named at cs there);
      to_do = λ at left. let on = below.to_do at left in (on.0, on.1, on.2);
      listed = λ at on. ⊎_elim (λ left. inl left) (λ quota. inr (quota.0, re.removed quota.0 quota.1, quota.2)) (below.listed at (on.0, on.1, on.2));
      tag_pages = λ home inside. let empty = below.tag_pages home inside in (empty.0, empty_on empty.0 empty.1);
    }

    -- ---- single cells

    births_on : (at : CellAt) (cell : Cell) (value : Record) → IsOfOriginal retabled at → StandsAt pages at cell → record_of 1 cell.records ≡ Some value → ¬ IsLate table_now.made value
    births_on at cell value o stands has =
        let leads : cell_of d.pages (d.tags o.number) o.tag ≡ Some at = sym (cells_lead o.number o.tag) ∙ o.leads in
        subst (λ (made : ℕ). ¬ IsLate made value) (sym re.made)
        (below.rest.births at cell value (record { number = o.number; original = re.original o.number o.original; tag = o.tag; leads = leads })
        (stands_back at cell (tagged_on o.number o.tag at leads (named_by first_tag_of d o.number) (below.slots o.number)) stands) has)

    stayed : (chain : List PlacedCell) → StaysInOriginal retabled chain → StaysInOriginal d chain
    stayed [] stays = stays
    stayed (first ∷ rest) stays = (by_fileset first.cell.head.fileset stays.0, stays.1)
      where
        by_fileset : (o : Option ℕ) → of_original (option_and_then (slice_get table_now.slots) o) ≡ true → of_original (option_and_then (slice_get d.table.slots) o) ≡ true
        by_fileset None is = is
        by_fileset (Some n) is = re.original n is

    rest_on : SaysTheRest retabled files
    rest_on = record {
      kinds = λ at cell on. below.rest.kinds at cell (on_was at cell on);
      firsts = λ at cell on primary. re.good cell (below.rest.firsts at cell (on_was at cell on) primary);
      births = births_on;
      holes = λ at chain is stays. below.rest.holes at chain is (stayed chain stays);
    }

    pub below_on : StandsBelow retabled files indexes
    below_on = record { tables = tables_on; chains = chains_on; owned = owned_on; rest = rest_on }
