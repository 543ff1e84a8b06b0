-- A domain is as rules ask beside where a page of an index is written or put in.
use Rattle.std.proofs.Common.{◌≡◌, ◌∙◌, ◌⊎◌, inl, inr, ⊎_elim, ℕ, zero, suc, ◌≤◌, Bool, true, false, cond, List, [], ◌∷◌, Option, Some, IfSome, IsSomeAnd, Contains, slice_get, refl, sym, ap, subst, arith}
use Rattle.std.proofs.lemmas.Bool.{false_from_ne_true, true≢false}
use Rattle.std.specs.List.{AllByRecursion, insert}
use Rattle.std.specs.Option.{option_and_then, option_map, option_map_or}
use Rattle.domain_standing.specs.domain_base.declared.place.CellAt.{CellAt}
use Rattle.domain_standing.specs.domain_base.declared.place.Home.{Home}
use Rattle.domain_standing.specs.domain_base.declared.place.Tag.{Tag}
use Rattle.domain_standing.specs.page_store.Bitfiles.{shown_index}
use Rattle.domain_standing.specs.page_store.Pages.{Pages, same_home}
use Rattle.domain_standing.specs.metadata_cells.Cell.{Cell}
use Rattle.domain_standing.specs.metadata_cells.CellPage.{cell_at, home_of}
use Rattle.domain_standing.specs.metadata_cells.Chain.{PlacedCell, StandsAt, is_at}
use Rattle.domain_standing.specs.metadata_cells.declared.head.CellKind.TheVariants.{Chain, Primary}
use Rattle.domain_standing.proofs.OfMetadataCells.Changed.{homes_same}
use Rattle.domain_standing.proofs.OfMetadataCells.Unique.{one_stands}
use Rattle.domain_standing.specs.extent_maps.Runs.{place_of}
use Rattle.domain_standing.specs.extent_maps.declared.run.PagePlace.TheVariants.{Absent}
use Rattle.domain_standing.specs.directory_pages.Index.{IsIndexPage}
use Rattle.domain_standing.specs.free_cells.Cells.{table_of}
use Rattle.domain_standing.specs.free_space.Spaces.{Spaces}
use Rattle.domain_standing.specs.file_chains.Files.{AreFile, places_of}
use Rattle.domain_standing.proofs.OfFileChains.ChainChanges.{at_same}
use Rattle.domain_standing.specs.fileset_files.Changes.{ChangesFirst, with_chain, with_first}
use Rattle.domain_standing.specs.fileset_files.Files.{Chains}
use Rattle.domain_standing.specs.fileset_files.Index.{index_record, says_index}
use Rattle.domain_standing.specs.fileset_files.Shown.{index_in, index_of}
use Rattle.domain_standing.proofs.OfFilesetFiles.Created.{stands_by_page}
use Rattle.domain_standing.proofs.OfFilesetFiles.FirstCell.{find_put}
use Rattle.domain_standing.proofs.OfFilesetFiles.FirstTogether.{runs_kept}
use Rattle.domain_standing.proofs.OfFilesetFiles.OneChain.{chain_same, same_tag_itself}
use Rattle.domain_standing.specs.index_pages.Homes.{shown_at}
use Rattle.domain_standing.proofs.OfIndexPages.Dropped.{low_from}
use Rattle.domain_standing.proofs.OfIndexPages.Held.{in_inserted}
use Rattle.domain_standing.specs.stored_set.Sets.{AddsIndexPage, SaysIndex, WritesIndexPage}
use Rattle.domain_standing.specs.release_list.Standing.{Files, place_in, with_file}
use Rattle.domain_standing.proofs.OfReleaseList.Standings.{at_itself, file_other, file_there, place_by, same_or_not}
use Rattle.domain_standing.specs.release_steps.Calls.{StandsWell}
use Rattle.domain_standing.proofs.OfReleaseSteps.FirstWell.{are_file, index_beside}
use Rattle.domain_standing.specs.domain_layout.CellRules.{is_chain_records}
use Rattle.domain_standing.specs.domain_layout.Filled.{Contents}
use Rattle.domain_standing.specs.domain_layout.Owners.{IsOnTable}
use Rattle.domain_standing.specs.domain_layout.Reached.{IsWithin}
use Rattle.domain_standing.specs.Chains.{IndexesAt}
use Rattle.domain_standing.specs.Domain.{DomainNow, layout_of}
use Rattle.domain_standing.specs.Holders.{Holder, Holds, IsUnheld}
use Rattle.domain_standing.specs.Holders.Holder.{of_cells, of_file, of_index, of_log, of_table, of_tags, of_volume}
use Rattle.standing_laws.specs.IndexCalls.{KeepsTables, NamesFile, with_index_at, with_said}
use Rattle.standing_laws.specs.Leads.{StandsBelow, fileset_now}
use Rattle.standing_laws.proofs.HomeLists.{get_in, in_get}
use Rattle.standing_laws.proofs.IndexSet.{IsChain, chain_at}
use Rattle.standing_laws.proofs.IndexWas.{begins_low, file_was, member_on, off_cells, off_first, on_was, there_was}
use Rattle.standing_laws.proofs.TablesTaken.{unheld_taken}
use Rattle.standing_laws.specs.Sound.{StandsSound, StandsSoundBut}
use Rattle.standing_laws.proofs.SoundKept.{can_within}
use Rattle.standing_laws.proofs.SoundParted.{NoFile, good_by, sound_but, sound_none}
use Rattle.standing_laws.proofs.SoundShown.{all_entry, all_insert, good_shown, one_good, shown_good}

pub same_start : (a b : CellAt) (j k : ℕ) → of_index a j ≡ of_index b k → a ≡ b
same_start a b j k same = cc

pub at_apart : (a b : CellAt) → ¬ a ≡ b → is_at a b ≡ false
at_apart a b apart = false_from_ne_true (is_at a b) (λ same. apart (at_same a b same))

-- ---- the first cell of a file says its index anew, and pages of that are others

module _ (d : DomainNow) (files : Files) (indexes : IndexesAt) (apart : CellAt → Type 0) (below : StandsBelow d files indexes) (sound : StandsSoundBut apart d files indexes) (number : ℕ) (tag : Tag) (chains : Chains)
    (well : StandsWell number (fileset_now d number chains files)) (first : PlacedCell) (rest : List PlacedCell) (is : chains tag ≡ Some (first ∷ rest)) (between : Spaces) (said : Pages) (says : SaysIndex number (d.tags number) between d.cells tag chains d.pages said)
  where
    abbrev says_it : Cell → Cell
    says_it = says_index (Some says.index)

    abbrev after : List PlacedCell
    after = with_first says_it (first ∷ rest)

    changes : ChangesFirst (Some (first ∷ rest)) d.pages said
    changes = subst (λ o. ChangesFirst o d.pages said) is says.first

    tag_now : with_chain tag (with_first says_it) chains tag ≡ Some after
    tag_now = chain_same tag (with_first says_it) chains tag (same_tag_itself tag) ∙ ap (option_map (with_first says_it)) is

    pub file_said : AreFile said (record { at = first.at; cell = says_it first.cell }) rest
    file_said = are_file number (d.tags number) said (with_chain tag (with_first says_it) chains) says.together.files tag (record { at = first.at; cell = says_it first.cell }) rest tag_now

    -- a page of an index, but for what changes of that one, is as it was
    pub said_same : (home : Home) → ¬ Contains (table_of d.cells home.vol) home.page → said home ≡ d.pages home
    said_same home off = changes.1 home (off_first d files indexes below number tag chains well first rest is home off)

    pub its_said : ((home : Home) → Contains (indexes first.at) home → IsSomeAnd (d.pages home) IsIndexPage) → (home : Home) → Contains (indexes first.at) home → IsSomeAnd (said home) IsIndexPage
    its_said good home inside =
        subst (λ o. IsSomeAnd o IsIndexPage) (sym (said_same home (off_cells d files indexes below number tag chains well first rest is home inside))) (good home inside)

    module _ (pages : Pages) (comes : Home → Type 0) (fresh : (home : Home) → comes home → IsUnheld d files indexes home) (homes : List Home) (others : (home : Home) → ¬ Contains (indexes first.at) home → ¬ comes home → pages home ≡ said home)
        (inside_frame : (home : Home) → Contains homes home → IsWithin d.frame home) (good : (home : Home) → Contains homes home → apart first.at ⊎ IsSomeAnd (pages home) IsIndexPage) (space : Spaces) (contents : Contents)
      where
        abbrev now : DomainNow
        now = record d { pages = pages; contents = contents; space = space }

        abbrev files_then : Files
        files_then = with_file first.at (Some after) files

        abbrev indexes_then : IndexesAt
        indexes_then = with_index_at first.at homes indexes

        on_table : (home : Home) → Contains (table_of d.cells home.vol) home.page → pages home ≡ said home
        on_table home on = others home (λ inside. off_cells d files indexes below number tag chains well first rest is home inside on)
            (λ come. fresh home come of_cells (member_on d files indexes below number tag chains well first rest is home.vol home.page on, on))

        stands_now : StandsAt pages first.at (says_it first.cell)
        stands_now =
            stands_by_page said pages first.at (says_it first.cell) (on_table (home_of first.at) (on_was d files indexes below number tag chains well first rest is).0) file_said.links.stands

        laters : (at : CellAt) (cell : Cell) → IsOnTable pages (layout_of now) at cell → cell.head.kind ≡ Chain → is_chain_records cell.records ≡ true
        laters at cell on chain = ⊎_elim here elsewhere (same_or_not at first.at)
          where
            here : at ≡ first.at → is_chain_records cell.records ≡ true
            here same =
                let it : says_it first.cell ≡ cell = one_stands pages first.at (says_it first.cell) cell stands_now (subst (λ (a : CellAt). StandsAt pages a cell) same on.stands) in
                let e : Primary ≡ Chain = sym file_said.primary ∙ ap (λ (c : Cell). c.head.kind) it ∙ chain in absurd (cc)

            elsewhere : ¬ at ≡ first.at → is_chain_records cell.records ≡ true
            elsewhere differ =
                let stays : cell_at pages at ≡ cell_at d.pages at = ap (λ (o : Option (List ℕ)). cell_at (λ _. o) at) (on_table (home_of at) on.table) ∙ changes.0 at (at_apart first.at at (λ same. differ (sym same))) in
                sound.laters at cell (record { member = on.member; table = on.table; stands = record { bytes = on.stands.bytes; there = sym stays ∙ on.stands.there; is = on.stands.is } }) chain

        places_same : (a : CellAt) (p : ℕ) → place_in files_then a p ≡ place_in files a p
        places_same a p = ⊎_elim
            (λ here.
            ap (λ (b : CellAt). place_in files_then b p) here ∙ place_by files_then first.at after p (file_there first.at (Some after) files)
            ∙ ap (λ rs. place_of rs p) (runs_kept says_it first rest (index_beside d.pages first rest (file_was d files indexes below number tag chains well first rest is) (Some says.index)).maps)
            ∙ sym (place_by files first.at (first ∷ rest) p (there_was d files indexes below number tag chains well first rest is)) ∙ sym (ap (λ (b : CellAt). place_in files b p) here))
            (λ differ. ap (λ o. option_map_or (λ cs. places_of cs p) o Absent) (file_other first.at (Some after) files a differ))
            (same_or_not a first.at)

        -- ---- indexes

        its_homes : (at : CellAt) → is_at at first.at ≡ true → indexes_then at ≡ homes
        its_homes at same = ap (λ (b : Bool). cond b homes (indexes at)) same

        other_homes : (at : CellAt) → is_at at first.at ≡ false → indexes_then at ≡ indexes at
        other_homes at other = ap (λ (b : Bool). cond b homes (indexes at)) other

        other_page : (at : CellAt) (k : ℕ) (home : Home) → is_at at first.at ≡ false → slice_get (indexes at) k ≡ Some home → pages home ≡ d.pages home
        other_page at k home other held = others home not_in (λ come. fresh home come (of_index at k) held) ∙ said_same home off
          where
            not_in : ¬ Contains (indexes first.at) home
            not_in inside =
                let j = in_get (indexes first.at) home inside in
                let same : at ≡ first.at = same_start at first.at k j.0 (below.owned.once home (of_index at k) (of_index first.at j.0) held j.1) in
                true≢false (sym (at_itself first.at) ∙ sym (ap (λ (a : CellAt). is_at a first.at) same) ∙ other)

            cells_apart : ¬ of_index at k ≡ of_cells
            cells_apart e = cc

            off : ¬ Contains (table_of d.cells home.vol) home.page
            off on = cells_apart (below.owned.once home (of_index at k) of_cells held (member_on d files indexes below number tag chains well first rest is home.vol home.page on, on))

        good_then : (at : CellAt) (home : Home) → Contains (indexes_then at) home → apart at ⊎ IsSomeAnd (pages home) IsIndexPage
        good_then at home inside = by_test (is_at at first.at) refl
          where
            by_test : (b : Bool) → is_at at first.at ≡ b → apart at ⊎ IsSomeAnd (pages home) IsIndexPage
            by_test true same = subst (λ (a : CellAt). apart a ⊎ IsSomeAnd (pages home) IsIndexPage) (sym (at_same at first.at same)) (good home (subst (λ hs. Contains hs home) (its_homes at same) inside))
            by_test false other =
                let was : Contains (indexes at) home = subst (λ hs. Contains hs home) (other_homes at other) inside in
                let k = in_get (indexes at) home was in
                good_by (apart at) (d.pages home) (pages home) (other_page at k.0 home other k.1) (sound.good at home was)

        index_within : (at : CellAt) (k : ℕ) (home : Home) → slice_get (indexes_then at) k ≡ Some home → IsWithin d.frame home
        index_within at k home held = by_test (is_at at first.at) refl
          where
            by_test : (b : Bool) → is_at at first.at ≡ b → IsWithin d.frame home
            by_test true same = inside_frame home (get_in homes k home (subst (λ hs. slice_get hs k ≡ Some home) (its_homes at same) held))
            by_test false other = sound.within home (of_index at k) (λ e. cc) (λ e. cc) (subst (λ hs. slice_get hs k ≡ Some home) (other_homes at other) held)

        within : (home : Home) (holder : Holder) → ¬ holder ≡ of_volume → ¬ holder ≡ of_log → Holds now files_then indexes_then holder home → IsWithin d.frame home
        within home of_volume no_volume no_log held = absurd (no_volume refl)
        within home of_log no_volume no_log held = absurd (no_log refl)
        within home of_table no_volume no_log held = sound.within home of_table no_volume no_log held
        within home of_cells no_volume no_log held = sound.within home of_cells no_volume no_log held
        within home (of_tags n) no_volume no_log held = sound.within home (of_tags n) no_volume no_log held
        within home (of_index at k) no_volume no_log held = index_within at k home held
        within home (of_file at page) no_volume no_log held = sound.within home (of_file at page) no_volume no_log (sym (places_same at page) ∙ held)

        pub said_sound : StandsSoundBut apart now files_then indexes_then
        said_sound = record { within = within; laters = laters; good = good_then }

-- a page of the index is well formed, and so were all of them; or that index is left out
abbrev pub IsGoodOr : (apart : CellAt → Type 0) → DomainNow → IndexesAt → CellAt → List ℕ → Type 0
IsGoodOr apart d indexes start bytes = apart start ⊎ (IsIndexPage bytes × ((home : Home) → Contains (indexes start) home → IsSomeAnd (d.pages home) IsIndexPage))

-- ---- a page is written in place

module _ (number : ℕ) (tag : Tag) (d now : DomainNow) (chains : Chains) (files : Files) (indexes : IndexesAt) (apart : CellAt → Type 0) (page : ℕ) (bytes : List ℕ) (below : StandsBelow d files indexes) (sound : StandsSoundBut apart d files indexes) (same : KeepsTables d now)
  where
    module _ (first : PlacedCell) (rest : List PlacedCell) (is : chains tag ≡ Some (first ∷ rest)) (names : NamesFile number tag first.at d chains files)
        (well_formed : IsGoodOr apart d indexes first.at bytes) (writes : WritesIndexPage number (d.tags number) d.space d.cells tag page bytes chains (indexes first.at) d.pages now.pages)
      where
        abbrev says_one : Cell → Cell
        says_one = says_index (Some writes.says.index)

        within_one : (home : Home) → Contains (indexes first.at) home → IsWithin d.frame home
        within_one home inside = let k = in_get (indexes first.at) home inside in sound.within home (of_index first.at k.0) (λ e. cc) (λ e. cc) k.1

        good_one : (home : Home) → Contains (indexes first.at) home → apart first.at ⊎ IsSomeAnd (now.pages home) IsIndexPage
        good_one home inside = ⊎_elim
            (λ out. inl out)
            (λ is_good.
            inr (good_shown now.pages (Some writes.says.index.first) (indexes first.at) writes.puts.are
            (subst (AllByRecursion IsIndexPage) (sym writes.puts.shown)
            (all_entry IsIndexPage (shown_at writes.said (indexes first.at)) page (shown_index bytes)
            (shown_good writes.said (indexes first.at)
            (its_said d files indexes apart below sound number tag chains names.well first rest is d.space writes.said writes.says is_good.1))
            (one_good bytes is_good.0))) home inside))
            well_formed

        stands_one : StandsSoundBut apart (record d { pages = now.pages; contents = now.contents; space = now.space }) (with_file first.at (Some (with_first says_one (first ∷ rest))) files) (with_index_at first.at (indexes first.at) indexes)
        stands_one =
            said_sound d files indexes apart below sound number tag chains names.well first rest is d.space writes.said writes.says now.pages (λ home. ⊥) (λ home none. absurd none) (indexes first.at)
            (λ home none no_come. writes.puts.others home (λ at. none (get_in (indexes first.at) page home at))) within_one good_one now.space now.contents

        same_indexes : with_index_at first.at (indexes first.at) indexes ≡ indexes
        same_indexes = λ i at. by_test at (is_at at first.at) refl i
          where
            by_test : (at : CellAt) (b : Bool) → is_at at first.at ≡ b → with_index_at first.at (indexes first.at) indexes at ≡ indexes at
            by_test at true here = ap (λ (b : Bool). cond b (indexes first.at) (indexes at)) here ∙ ap indexes (sym (at_same at first.at here))
            by_test at false other = ap (λ (b : Bool). cond b (indexes first.at) (indexes at)) other

        written_first : StandsSoundBut apart now (with_said first.at says_one files) indexes
        written_first =
            subst (λ (x : DomainNow). StandsSoundBut apart x (with_said first.at says_one files) indexes) (sym same)
            (subst (StandsSoundBut apart (record d { pages = now.pages; contents = now.contents; space = now.space }) (with_said first.at says_one files)) same_indexes
            (subst (λ o. StandsSoundBut apart (record d { pages = now.pages; contents = now.contents; space = now.space }) (with_file first.at (option_map (with_first says_one) o) files) (with_index_at first.at (indexes first.at) indexes))
            (sym (there_was d files indexes below number tag chains names.well first rest is)) stands_one))

    pub but_written : (start : CellAt) → NamesFile number tag start d chains files → IsGoodOr apart d indexes start bytes
        → (writes : WritesIndexPage number (d.tags number) d.space d.cells tag page bytes chains (indexes start) d.pages now.pages) → StandsSoundBut apart now (with_said start (says_index (Some writes.says.index)) files) indexes
    but_written start names well_formed = by_start (chain_at chains tag start names.begins)
      where
        by_start : IsChain chains tag start → (writes : WritesIndexPage number (d.tags number) d.space d.cells tag page bytes chains (indexes start) d.pages now.pages)
            → StandsSoundBut apart now (with_said start (says_index (Some writes.says.index)) files) indexes
        by_start c = subst
            (λ (a : CellAt). (writes : WritesIndexPage number (d.tags number) d.space d.cells tag page bytes chains (indexes a) d.pages now.pages)
            → StandsSoundBut apart now (with_said a (says_index (Some writes.says.index)) files) indexes)
            c.at (written_first c.first c.rest c.is (subst (λ (a : CellAt). NamesFile number tag a d chains files) (sym c.at) names) (subst (λ (a : CellAt). IsGoodOr apart d indexes a bytes) (sym c.at) well_formed))

pub sound_written : (number : ℕ) (tag : Tag) (d now : DomainNow) (chains : Chains) (files : Files) (indexes : IndexesAt) (page : ℕ) (bytes : List ℕ) → StandsBelow d files indexes → StandsSound d files indexes → KeepsTables d now → IsIndexPage bytes
    → (start : CellAt) → NamesFile number tag start d chains files → (writes : WritesIndexPage number (d.tags number) d.space d.cells tag page bytes chains (indexes start) d.pages now.pages)
    → StandsSound now (with_said start (says_index (Some writes.says.index)) files) indexes
sound_written number tag d now chains files indexes page bytes below sound same good start names writes =
    sound_none now (with_said start (says_index (Some writes.says.index)) files) indexes
    (but_written number tag d now chains files indexes NoFile page bytes below (sound_but d files indexes NoFile sound) same start names (inr (good, sound.good start)) writes)

-- ---- a page is put in

in_more : (homes : List Home) (place : ℕ) (onto : Home) → Contains (insert homes place onto) onto
in_more [] zero onto = (zero, omega arith, refl)
in_more [] (suc place) onto = (zero, omega arith, refl)
in_more (x ∷ homes) zero onto = (zero, omega arith, refl)
in_more (x ∷ homes) (suc place) onto = let later = in_more homes place onto in (suc later.0, omega (arith, later.1), later.2)

module _ (number : ℕ) (tag : Tag) (d now : DomainNow) (chains : Chains) (files : Files) (indexes : IndexesAt) (apart : CellAt → Type 0) (place prefer : ℕ) (bytes : List ℕ) (below : StandsBelow d files indexes) (sound : StandsSoundBut apart d files indexes) (same : KeepsTables d now)
  where
    module _ (first : PlacedCell) (rest : List PlacedCell) (is : chains tag ≡ Some (first ∷ rest)) (names : NamesFile number tag first.at d chains files)
        (well_formed : IsGoodOr apart d indexes first.at bytes) (adds : AddsIndexPage number (d.tags number) d.cells tag place bytes prefer chains (indexes first.at) d.space now.space d.pages now.pages)
      where
        abbrev says_more : Cell → Cell
        says_more = says_index (Some adds.says.index)

        abbrev more : List Home
        more = insert (indexes first.at) place adds.home

        begins_more : index_of (with_first says_more (first ∷ rest)) ≡ Some adds.says.index.first
        begins_more = ap (option_and_then index_in) (find_put 9 (Some (index_record adds.says.index)) first.cell.records refl)

        low : 1 ≤ adds.home.vol
        low = low_from now.pages (Some adds.says.index.first) more adds.inserts.are
            (subst (λ o. IfSome o (λ (h : Home). 1 ≤ h.vol)) begins_more
            (begins_low adds.said (record { at = first.at; cell = says_more first.cell }) rest (file_said d files indexes apart below sound number tag chains names.well first rest is now.space adds.said adds.says)))
            adds.home (in_more (indexes first.at) place adds.home)

        within_more : (home : Home) → Contains more home → IsWithin d.frame home
        within_more home inside = ⊎_elim
            (λ here. subst (IsWithin d.frame) here (can_within d files indexes below.owned adds.home (low, adds.free)))
            (λ was. let k = in_get (indexes first.at) home was in sound.within home (of_index first.at k.0) (λ e. cc) (λ e. cc) k.1)
            (in_inserted (indexes first.at) place adds.home home inside)

        good_more : (home : Home) → Contains more home → apart first.at ⊎ IsSomeAnd (now.pages home) IsIndexPage
        good_more home inside = ⊎_elim
            (λ out. inl out)
            (λ is_good.
            inr (good_shown now.pages (Some adds.says.index.first) more adds.inserts.are
            (subst (AllByRecursion IsIndexPage) (sym adds.inserts.shown)
            (all_insert IsIndexPage (shown_at adds.said (indexes first.at)) place (shown_index bytes)
            (shown_good adds.said (indexes first.at)
            (its_said d files indexes apart below sound number tag chains names.well first rest is now.space adds.said adds.says is_good.1))
            (one_good bytes is_good.0))) home inside))
            well_formed

        stands_more : StandsSoundBut apart (record d { pages = now.pages; contents = now.contents; space = now.space }) (with_file first.at (Some (with_first says_more (first ∷ rest))) files) (with_index_at first.at more indexes)
        stands_more =
            said_sound d files indexes apart below sound number tag chains names.well first rest is now.space adds.said adds.says now.pages (λ home. home ≡ adds.home)
            (λ home here. subst (IsUnheld d files indexes) (sym here) (unheld_taken d files indexes below.owned adds.home low adds.free)) more
            (λ home none no_come. adds.inserts.others home none (false_from_ne_true (same_home home adds.home) (λ here. no_come (homes_same home adds.home here)))) within_more good_more now.space now.contents

        added_first : StandsSoundBut apart now (with_said first.at says_more files) (with_index_at first.at more indexes)
        added_first =
            subst (λ (x : DomainNow). StandsSoundBut apart x (with_said first.at says_more files) (with_index_at first.at more indexes)) (sym same)
            (subst (λ o. StandsSoundBut apart (record d { pages = now.pages; contents = now.contents; space = now.space }) (with_file first.at (option_map (with_first says_more) o) files) (with_index_at first.at more indexes))
            (sym (there_was d files indexes below number tag chains names.well first rest is)) stands_more)

    pub but_added : (start : CellAt) → NamesFile number tag start d chains files → IsGoodOr apart d indexes start bytes
        → (adds : AddsIndexPage number (d.tags number) d.cells tag place bytes prefer chains (indexes start) d.space now.space d.pages now.pages)
        → StandsSoundBut apart now (with_said start (says_index (Some adds.says.index)) files) (with_index_at start (insert (indexes start) place adds.home) indexes)
    but_added start names well_formed = by_start (chain_at chains tag start names.begins)
      where
        by_start : IsChain chains tag start → (adds : AddsIndexPage number (d.tags number) d.cells tag place bytes prefer chains (indexes start) d.space now.space d.pages now.pages)
            → StandsSoundBut apart now (with_said start (says_index (Some adds.says.index)) files) (with_index_at start (insert (indexes start) place adds.home) indexes)
        by_start c = subst
            (λ (a : CellAt). (adds : AddsIndexPage number (d.tags number) d.cells tag place bytes prefer chains (indexes a) d.space now.space d.pages now.pages)
            → StandsSoundBut apart now (with_said a (says_index (Some adds.says.index)) files) (with_index_at a (insert (indexes a) place adds.home) indexes))
            c.at (added_first c.first c.rest c.is (subst (λ (a : CellAt). NamesFile number tag a d chains files) (sym c.at) names) (subst (λ (a : CellAt). IsGoodOr apart d indexes a bytes) (sym c.at) well_formed))

pub sound_added : (number : ℕ) (tag : Tag) (d now : DomainNow) (chains : Chains) (files : Files) (indexes : IndexesAt) (place prefer : ℕ) (bytes : List ℕ) → StandsBelow d files indexes → StandsSound d files indexes → KeepsTables d now → IsIndexPage bytes
    → (start : CellAt) → NamesFile number tag start d chains files → (adds : AddsIndexPage number (d.tags number) d.cells tag place bytes prefer chains (indexes start) d.space now.space d.pages now.pages)
    → StandsSound now (with_said start (says_index (Some adds.says.index)) files) (with_index_at start (insert (indexes start) place adds.home) indexes)
sound_added number tag d now chains files indexes place prefer bytes below sound same good start names adds =
    sound_none now (with_said start (says_index (Some adds.says.index)) files) (with_index_at start (insert (indexes start) place adds.home) indexes)
    (but_added number tag d now chains files indexes NoFile place prefer bytes below (sound_but d files indexes NoFile sound) same start names (inr (good, sound.good start)) adds)
