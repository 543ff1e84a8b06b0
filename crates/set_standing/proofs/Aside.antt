-- The original in another slot is as it was where one file of a slot changes, and no cell is taken.
use Rattle.std.proofs.Common.{◌≡◌, ◌∙◌, ℕ, suc, ◌≤◌, true, false, List, [], ◌∷◌, Option, Some, None, IfSome, Contains, slice_get, refl, sym, ap, subst, arith, ⊎_elim}
use Rattle.std.specs.List.{AllByRecursion}
use Rattle.std.specs.Option.{option_and_then, option_map_or}
use Rattle.standing_laws.specs.domain_base.declared.place.CellAt.{CellAt}
use Rattle.standing_laws.specs.domain_base.declared.place.Home.{Home}
use Rattle.standing_laws.specs.domain_base.declared.place.Tag.{Tag}
use Rattle.standing_laws.specs.page_store.Pages.{Pages}
use Rattle.standing_laws.specs.metadata_cells.CellPage.{cell_at}
use Rattle.standing_laws.specs.metadata_cells.Chain.{LinksFrom, PlacedCell, StandsAt, is_at, places}
use Rattle.standing_laws.specs.tag_dirs.Directory.{IsDirectoryAt, has_home}
use Rattle.standing_laws.specs.tag_dirs.declared.dir.TagPlace.{TagPlace}
use Rattle.standing_laws.proofs.OfTagDirs.Reading.{same_directory}
use Rattle.standing_laws.specs.extent_maps.declared.run.PagePlace.TheVariants.{Absent, At}
use Rattle.standing_laws.specs.free_cells.Cells.{Cells, table_of}
use Rattle.standing_laws.specs.file_chains.Allocated.{AreAllocated}
use Rattle.standing_laws.specs.file_chains.FileChanges.{AreOnTables}
use Rattle.standing_laws.specs.file_chains.Files.{places_of}
use Rattle.standing_laws.proofs.OfFileChains.ChainChanges.{at_apart}
use Rattle.standing_laws.specs.fileset_files.Files.{AreFiles, Chains, IsOf, LeadsToFile, first_record, place_at}
use Rattle.standing_laws.specs.fileset_files.Shown.{index_of}
use Rattle.standing_laws.specs.fileset_files.Together.{AreFilesOnTables, IsHeldApart}
use Rattle.standing_laws.proofs.OfFilesetFiles.Created.{one_chains}
use Rattle.standing_laws.specs.index_pages.Homes.{AreIndexHomes}
use Rattle.standing_laws.proofs.OfIndexPages.Homes.{one_list}
use Rattle.standing_laws.specs.stored_set.Elsewhere.{AllStay}
use Rattle.standing_laws.specs.stored_set.Standing.{StandsShown}
use Rattle.standing_laws.proofs.OfStoredSet.AnotherSet.{stands_again}
use Rattle.standing_laws.specs.stored_set.Sets.{StandsAsSet}
use Rattle.standing_laws.specs.fileset_model.declared.fileset.FilesetSlot.{FilesetSlot}
use Rattle.standing_laws.specs.fileset_table.Table.{Table}
use Rattle.standing_laws.specs.fileset_table.declared.slot.FilesetEntry.{FilesetEntry}
use Rattle.standing_laws.specs.fileset_table.declared.slot.SlotItem.TheVariants as slot
use Rattle.standing_laws.specs.release_list.Standing.{Files, IsFileOrQuotas, IsStanding, place_in}
use Rattle.standing_laws.proofs.OfReleaseList.Spread.{none_not, some_same}
use Rattle.standing_laws.proofs.OfReleaseList.Standings.{apart_by, chain_by, chain_inside, linked_at, low_home, not_nil, quota_first, stand_chain, standing}
use Rattle.standing_laws.specs.release_steps.Calls.{StandsWell}
use Rattle.standing_laws.specs.release_steps.Tags.{AreAmong}
use Rattle.standing_laws.proofs.OfReleaseSteps.Tags.{IsNamed, named}
use Rattle.standing_laws.specs.domain_layout.CellRules.{of_clone}
use Rattle.standing_laws.specs.domain_layout.Layout.{first_tag_of}
use Rattle.standing_laws.specs.domain_layout.Seen.{seen_in}
use Rattle.standing_laws.specs.domain_layout.Shape.{AreLimits, FilesetShape, IsOriginal}
use Rattle.standing_laws.specs.domain_layout.Agreeing.{AgreeOnShape}
use Rattle.standing_laws.proofs.OfDomainLayout.FilledAlike.{fills}
use Rattle.standing_laws.specs.domain_standing.Chains.{AreQuotasOf, HasFilesAmong, IndexesAt, IsOfFileset, IsRemoved, StandsInSlot}
use Rattle.standing_laws.specs.domain_standing.Domain.{DomainNow, all_of, item_in}
use Rattle.standing_laws.specs.domain_standing.Holders.{Holder, Holds}
use Rattle.standing_laws.specs.domain_standing.Holders.Holder.{of_file, of_index, of_tags, of_volume}
use Rattle.standing_laws.specs.Leads.{StandsBelow, fileset_now}
use Rattle.standing_laws.specs.SlotParents.{HaveParentsIn, StandsForSome}
use Rattle.standing_laws.specs.Slots.{StandsSlot}
use Rattle.standing_laws.proofs.HomeLists.{in_get}
use Rattle.standing_laws.proofs.IndexWas.{index_low_was}
use Rattle.standing_laws.proofs.OtherSlots.{seen_place}
use Rattle.standing_laws.proofs.ParentsElsewhere.{FilesStay, slot_parents}
use Rattle.set_standing.specs.Around.{BytesFollow, StaysAround}
use Rattle.set_standing.specs.Follow.{FilesFollow, Said}
use Rattle.set_standing.proofs.Besides.{IsBeside, IsOff, is_off}
use Rattle.set_standing.proofs.OwnLimits.{limits_still}

absent_not : (home : Home) → ¬ Absent ≡ At home
absent_not home is = cc

links_from : (pages : Pages) (at : CellAt) (cs : List PlacedCell) → IsFileOrQuotas pages at cs → LinksFrom pages at cs
links_from pages at [] are = absurd (not_nil pages at are)
links_from pages at (first ∷ rest) are = linked_at pages at first rest are

module _ (number : ℕ) (start : CellAt) (d now : DomainNow) (files : Files) (indexes : IndexesAt) (below : StandsBelow d files indexes) (mine : List PlacedCell) (there : files start ≡ Some mine) (mine_of : IsOfFileset number mine) (says : ¬ first_record 1 mine ≡ None) (tags : (n : ℕ) → ¬ n ≡ number → now.tags n ≡ d.tags n) (same_cells : now.cells ≡ d.cells)
    (allocated : AreAllocated now.space now.cells now.pages) (cell : (at : CellAt) → Contains (table_of d.cells at.vol) at.page → is_at start at ≡ false → cell_at now.pages at ≡ cell_at d.pages at) (page : (home : Home) → IsOff number start d files indexes home → now.pages home ≡ d.pages home)
    (held : (home : Home) → IsOff number start d files indexes home → IsHeldApart d.space d.cells home → IsHeldApart now.space d.cells home) (bytes : BytesFollow d now) where
  -- ---- cells of other chains

  mine_stands : IsStanding d.cells d.pages start mine
  mine_stands = standing d.space d.cells d.pages files below.chains.well.together start mine there

  each_kept : (cs : List PlacedCell) → AreOnTables d.cells cs → ((at : CellAt) → Contains (places cs) at → ¬ start ≡ at) → AllByRecursion (λ (c : PlacedCell). cell_at now.pages c.at ≡ cell_at d.pages c.at) cs
  each_kept [] on apart = tt
  each_kept (c ∷ cs) on apart = (
    cell c.at on.0 (at_apart start c.at (apart c.at (0, omega arith, refl))),
    each_kept cs on.1 (λ at inside. apart at (suc inside.0, omega (arith, inside.1), inside.2)),
  )

  each_stands : (cs : List PlacedCell) → AllByRecursion (λ (c : PlacedCell). cell_at now.pages c.at ≡ cell_at d.pages c.at) cs → AllByRecursion (λ (c : PlacedCell). StandsAt d.pages c.at c.cell) cs → AllByRecursion (λ (c : PlacedCell). StandsAt now.pages c.at c.cell) cs
  each_stands [] kept stand = tt
  each_stands (c ∷ cs) kept stand = (record { bytes = stand.0.bytes; there = kept.0 ∙ stand.0.there; is = stand.0.is }, each_stands cs kept.1 stand.1)

  module _ (at : CellAt) (cs : List PlacedCell) (other : ¬ at ≡ start) (is : files at ≡ Some cs) where
    its_standing : IsStanding d.cells d.pages at cs
    its_standing = standing d.space d.cells d.pages files below.chains.well.together at cs is

    no_start : (a : CellAt) → Contains (places cs) a → ¬ start ≡ a
    no_start a inside same =
        apart_by d.space d.cells d.pages files below.chains.well.together at start cs mine is there other a inside
        (subst (Contains (places mine)) same (chain_inside d.pages start mine mine_stands.stands))

    chain_kept : AllByRecursion (λ (c : PlacedCell). cell_at now.pages c.at ≡ cell_at d.pages c.at) cs
    chain_kept = each_kept cs its_standing.on_tables no_start

    chain_now : IsFileOrQuotas now.pages at cs
    chain_now = chain_by d.pages now.pages at cs (each_stands cs chain_kept (stand_chain d.pages at cs its_standing.stands)) its_standing.stands

  module _ (n : ℕ) (entry : FilesetEntry) (shape : FilesetShape) (fileset : FilesetSlot) (differ : ¬ n ≡ number) (slot_there : slice_get d.table.slots n ≡ Some (slot.Original entry)) (stood : StandsSlot d n entry shape fileset) where
    abbrev its : Chains
    its = stood.set.chains

    -- ---- its files

    begins : IsDirectoryAt d.pages entry.first_tag (d.tags n)
    begins = below.tables.laid.tags n (slot.Original entry) slot_there

    has : HasFilesAmong d files n
    has = ⊎_elim
        (λ among. among)
        (λ empty. absurd (subst IsRemoved slot_there empty.removed))
        (subst (λ o. StandsInSlot d files n (option_and_then first_tag_of o)) slot_there (below.chains.slots n))

    among : AreAmong (all_of d files) (d.tags n) its
    among = subst (AreAmong (all_of d files) (d.tags n)) (λ k t. one_chains d.pages n (d.tags n) has.chains its has.are stood.set.stands.together.files t k) has.among

    well : StandsWell n (fileset_now d n its files)
    well = record { well = below.chains.well; together = stood.set.stands.together; among = among }

    begun : (t : Tag) (cs : List PlacedCell) → its t ≡ Some cs → IsNamed files cs
    begun t cs some = named files its t cs some (among.same t)

    two_numbers : (cs : List PlacedCell) → IsOfFileset n cs → IsOfFileset number cs → ⊥
    two_numbers [] one other = one
    two_numbers (first ∷ rest) one other = differ (some_same n number (sym one ∙ other))

    of_its : (t : Tag) (cs : List PlacedCell) → IsOf n t cs → IsOfFileset n cs
    of_its t [] of = of
    of_its t (first ∷ rest) of = of.2

    -- none of them begins where the one does that changes
    not_start : (at : CellAt) (cs : List PlacedCell) → files at ≡ Some cs → IsOfFileset n cs → ¬ at ≡ start
    not_start at cs is of same = two_numbers mine (subst (IsOfFileset n) (some_same cs mine (sym is ∙ ap files same ∙ there)) of) mine_of

    leads : (t : Tag) (cs : List PlacedCell) → its t ≡ Some cs → LeadsToFile n (d.tags n) d.pages t cs
    leads t cs some = subst (λ o. IfSome o (LeadsToFile n (d.tags n) d.pages t)) some (stood.set.stands.together.files.some t)

    other_start : (t : Tag) (cs : List PlacedCell) (some : its t ≡ Some cs) → ¬ (begun t cs some).at ≡ start
    other_start t cs some = let m = begun t cs some in not_start m.at cs m.is (of_its t cs (leads t cs some).is_of)

    -- ---- the pages that it shows

    held_now : (home : Home) → IsOff number start d files indexes home → IsHeldApart d.space d.cells home → IsHeldApart now.space now.cells home
    held_now home off was = subst (λ (c : Cells). IsHeldApart now.space c home) (sym same_cells) (held home off was)

    off : (holder : Holder) (home : Home) → 1 ≤ home.vol → IsBeside number start holder → Holds d files indexes holder home → IsOff number start d files indexes home
    off holder home = is_off number start d files indexes below holder home

    file_off : (t : Tag) (k : ℕ) (home : Home) → place_at its t k ≡ At home → IsOff number start d files indexes home
    file_off t k home at = by_chain (its t) refl at
      where
        by_chain : (o : Option (List PlacedCell)) → its t ≡ o → option_map_or (λ cs. places_of cs k) o Absent ≡ At home → IsOff number start d files indexes home
        by_chain None none at = absurd (absent_not home at)
        by_chain (Some cs) some at =
            let m = begun t cs some in
            let placed : place_in files m.at k ≡ At home = ap (λ o. option_map_or (λ cs. places_of cs k) o Absent) m.is ∙ at in
            off (of_file m.at k) home (low_home d.space d.cells d.pages files below.chains.well.together m.at k home placed) (other_start t cs some) placed

    record IndexThere (home : Home) : Type 0 where
      at : CellAt
      other : ¬ at ≡ start
      inside : Contains (indexes at) home
      low : 1 ≤ home.vol

    index_there : (t : Tag) (home : Home) → Contains (stood.set.indexes t) home → IndexThere home
    index_there t home inside = by_chain (its t) refl
      where
        its_index : (o : Option (List PlacedCell)) → its t ≡ o → AreIndexHomes d.pages (option_and_then index_of o) (stood.set.indexes t)
        its_index o is_o = subst (λ o. AreIndexHomes d.pages (option_and_then index_of o) (stood.set.indexes t)) is_o (stood.set.stands.indexed t)

        none_there : its t ≡ None → ⊥
        none_there none =
            let nothing : Contains [] home = subst (λ (homes : List Home). Contains homes home) (one_list d.pages None (stood.set.indexes t) [] (its_index None none) tt) inside in
            omega (arith, nothing.1)

        by_cells : (cs : List PlacedCell) → its t ≡ Some cs → IndexThere home
        by_cells [] some = absurd ((leads t [] some).is_of)
        by_cells (first ∷ rest) some =
            let m = begun t (first ∷ rest) some in
            let same : first.at ≡ m.at = some_same first.at m.at m.start in
            let there_too : Contains (indexes m.at) home =
            subst (λ (homes : List Home). Contains homes home)
            (one_list d.pages (index_of (first ∷ rest)) (stood.set.indexes t) (indexes m.at) (its_index (Some (first ∷ rest)) some)
            (subst (λ o. AreIndexHomes d.pages (option_and_then index_of o) (indexes m.at)) m.is (below.chains.indexed m.at)))
            inside
            in
            record {
              at = m.at;
              other = other_start t (first ∷ rest) some;
              inside = there_too;
              low = index_low_was d files indexes below n t its well first rest some home (subst (λ (a : CellAt). Contains (indexes a) home) (sym same) there_too);
            }

        by_chain : (o : Option (List PlacedCell)) → its t ≡ o → IndexThere home
        by_chain None none = absurd (none_there none)
        by_chain (Some cs) some = by_cells cs some

    index_off : (t : Tag) (home : Home) → Contains (stood.set.indexes t) home → IsOff number start d files indexes home
    index_off t home inside =
        let it = index_there t home inside in
        let place = in_get (indexes it.at) home it.inside in
        off (of_index it.at place.0) home it.low it.other place.1

    tag_off : (home : Home) → has_home (d.tags n) home ≡ true → IsOff number start d files indexes home
    tag_off home has_it = off (of_tags n) home (stood.set.low home has_it) differ has_it

    -- ---- its set

    all_stay : AllStay (d.tags n) now.space now.cells d.pages now.pages its stood.set.indexes
    all_stay = record {
      allocated = allocated;
      on_tables = subst (λ (c : Cells). AreFilesOnTables c its) (sym same_cells) stood.set.stands.together.on_tables;
      cells_stay = λ t. by_chain t (its t) refl;
      tags = λ home has_it. let o = tag_off home has_it in record { same = page home o; apart = held_now home o (stood.set.stands.together.tag_pages home has_it) };
      pages = λ t k home at. let o = file_off t k home at in record { same = page home o; apart = held_now home o (stood.set.stands.together.file_pages t k home at).apart };
      index_pages = λ t home inside. let o = index_off t home inside in record { same = page home o; apart = held_now home o (stood.set.stands.stand t home inside).apart };
    }
      where
        by_chain : (t : Tag) (o : Option (List PlacedCell)) → its t ≡ o → IfSome o (AllByRecursion (λ (c : PlacedCell). cell_at now.pages c.at ≡ cell_at d.pages c.at))
        by_chain t None none = tt
        by_chain t (Some cs) some = let m = begun t cs some in chain_kept m.at cs (other_start t cs some) m.is

    shown_now : StandsShown n (d.tags n) now.space now.cells now.pages its stood.set.indexes shape.shown
    shown_now = stands_again n (d.tags n) d.space now.space d.cells now.cells d.pages now.pages its stood.set.indexes shape.shown stood.set.stands all_stay

    set_now : StandsAsSet n (d.tags n) now.space now.cells now.pages shape.shown
    set_now = record { chains = its; indexes = stood.set.indexes; stands = shown_now; whole = stood.set.whole; bare = stood.set.bare; low = stood.set.low }

    -- ---- its shape

    own_chains : (t : Tag) → stood.is.chains t ≡ its t
    own_chains =
        let h = stood.is.has in
        one_chains d.pages n (d.tags n) stood.is.chains its
        (subst (λ (ps : List TagPlace). AreFiles n ps d.pages stood.is.chains) (same_directory d.pages entry.first_tag h.places (d.tags n) h.directory begins) h.files) stood.set.stands.together.files

    limits_now : AreLimits now.pages entry shape.limits
    limits_now =
        limits_still n d now files (below.chains.quotas n) (λ at cs some quotas. links_from now.pages at cs (chain_now at cs (not_start at cs some quotas.of) some)) entry slot_there shape.limits stood.is.limits

    shape_now : IsOriginal now.pages n entry shape
    shape_now = record {
      none = stood.is.none;
      chains = its;
      has = record {
        places = d.tags n;
        directory = record { directory = shown_now.together.files.directory; begins = begins.begins };
        files = shown_now.together.files;
      };
      files = λ t. stood.is.files t ∙ ap (option_and_then seen_in) (own_chains t);
      shown = shown_now.shows;
      limits = limits_now;
    }

    -- ---- its bytes

    agree : AgreeOnShape d.contents now.contents shape
    agree t seen at k home stands = by_chain (its t) refl (sym (ap (option_and_then seen_in) (own_chains t)) ∙ sym (stood.is.files t) ∙ at)
      where
        by_chain : (o : Option (List PlacedCell)) → its t ≡ o → option_and_then seen_in o ≡ Some seen → d.contents home ≡ now.contents home
        by_chain None none seen_there = absurd (none_not seen seen_there)
        by_chain (Some cs) some seen_there =
            sym (bytes home (page home (file_off t k home (ap (λ o. option_map_or (λ cs. places_of cs k) o Absent) some ∙ seen_place cs seen k home stands seen_there))))

    -- ---- all of it

    pub slot_aside : StandsSlot now n entry shape fileset
    slot_aside = record {
      is = shape_now;
      filled = fills d.contents now.contents shape fileset agree stood.filled;
      set = subst (λ (ps : List TagPlace). StandsAsSet n ps now.space now.cells now.pages shape.shown) (sym (tags n differ)) set_now;
    }

  -- what its directories say of their parents
  module _ (n : ℕ) (differ : ¬ n ≡ number) (stands : StandsForSome n d) (same_table : now.table ≡ d.table) where
    item_same : item_in now n ≡ item_in d n
    item_same = ap (λ (t : Table). slice_get t.slots n) same_table

    files_stay : (entry : FilesetEntry) → item_in now n ≡ Some (slot.Original entry) → FilesStay n d now entry
    files_stay entry at = record {
      entry = entry;
      there = it;
      chains = was.2.set.chains;
      begins = begins n entry was.0 was.1 differ it was.2;
      begins_now = record { directory = files_here.directory; begins = (begins n entry was.0 was.1 differ it was.2).begins };
      are = was.2.set.stands.together.files;
      are_now = files_here;
      same = λ t k home placed. page home (file_off n entry was.0 was.1 differ it was.2 t k home placed);
    }
      where
        it : item_in d n ≡ Some (slot.Original entry)
        it = sym item_same ∙ at

        was : (shape : FilesetShape) × (fileset : FilesetSlot) × StandsSlot d n entry shape fileset
        was = stands.each entry it

        files_here : AreFiles n (d.tags n) now.pages was.2.set.chains
        files_here = (shown_now n entry was.0 was.1 differ it was.2).together.files

    pub parents_aside : now.frame ≡ d.frame → HaveParentsIn n d → HaveParentsIn n now
    parents_aside same_frame = slot_parents d now n same_frame (ap of_clone item_same ∙ stands.no_clone) files_stay

  -- its own quota cells begin elsewhere
  pub own_quotas : (at : CellAt) (cs : List PlacedCell) → files at ≡ Some cs → AreQuotasOf d number at cs → LinksFrom now.pages at cs
  own_quotas at cs some quotas = links_from now.pages at cs (chain_now at cs other some)
    where
      other : ¬ at ≡ start
      other same =
          says (ap (first_record 1) (some_same mine cs (sym there ∙ ap files (sym same) ∙ some)) ∙ quota_first d.pages at cs quotas.quotas 1 (λ e. omega (arith, e)) (λ e. omega (arith, e)))

  -- all that is not of the slot
  pub stays_aside : {said : Said} → now.frame ≡ d.frame → now.table ≡ d.table → FilesFollow said number d now → StaysAround said number d now
  stays_aside same_frame same_table files_too = record {
    frame = same_frame;
    table = same_table;
    tags = tags;
    slots = slot_aside;
    parents = λ other differ stands had. parents_aside other differ stands same_table same_frame had;
    files = files_too;
    limits = λ entry limits at. limits_still number d now files (below.chains.quotas number) own_quotas entry at limits;
    volumes = λ home of. page home (is_off number start d files indexes below of_volume home of.0.first tt of);
  }
