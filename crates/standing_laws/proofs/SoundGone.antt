-- A domain is as rules ask beside where a file or directory is taken away with its index.
use Rattle.std.proofs.Common.{◌≡◌, ◌∙◌, ◌⊎◌, ⊎_elim, ℕ, Bool, true, false, cond, List, [], ◌∷◌, Option, Some, None, IsSomeAnd, Contains, slice_get, refl, sym, ap, subst, arith}
use Rattle.std.proofs.lemmas.Bool.{cases_Bool, true≢false}
use Rattle.std.specs.Option.{option_and_then, option_map, option_map_or}
use Rattle.domain_standing.specs.domain_base.declared.place.CellAt.{CellAt}
use Rattle.domain_standing.specs.domain_base.declared.place.Home.{Home}
use Rattle.domain_standing.specs.domain_base.declared.place.Tag.{Tag}
use Rattle.domain_standing.specs.page_store.Pages.{Pages}
use Rattle.domain_standing.specs.metadata_cells.Cell.{Cell}
use Rattle.domain_standing.specs.metadata_cells.CellPage.{cell_at, home_of}
use Rattle.domain_standing.specs.metadata_cells.Chain.{PlacedCell, StandsAt, is_at}
use Rattle.domain_standing.specs.metadata_cells.declared.head.CellKind.TheVariants.{Chain, Primary}
use Rattle.domain_standing.proofs.OfMetadataCells.Unique.{one_stands}
use Rattle.domain_standing.specs.tag_dirs.Directory.{has_home}
use Rattle.domain_standing.proofs.OfTagDirs.Slots.{off_slot}
use Rattle.domain_standing.specs.extent_maps.Runs.{place_of}
use Rattle.domain_standing.specs.extent_maps.declared.run.PagePlace.TheVariants.{Absent}
use Rattle.domain_standing.specs.directory_pages.Index.{IsIndexPage}
use Rattle.domain_standing.specs.free_cells.Cells.{table_of}
use Rattle.domain_standing.specs.free_space.Spaces.{Spaces}
use Rattle.domain_standing.specs.file_chains.Files.{AreFile, IsFile, map_records, places_of}
use Rattle.domain_standing.specs.fileset_files.Changes.{ChangesBeside, Removes, says_removed, with_chain, with_first}
use Rattle.domain_standing.specs.fileset_files.Files.{Chains}
use Rattle.domain_standing.specs.fileset_files.Index.{says_index}
use Rattle.domain_standing.specs.fileset_files.Shown.{index_of}
use Rattle.domain_standing.proofs.OfFilesetFiles.FirstTogether.{runs_kept}
use Rattle.domain_standing.proofs.OfFilesetFiles.OneChain.{chain_same, same_tag_itself}
use Rattle.domain_standing.specs.stored_set.Sets.{GivesIndexBack, without_index, without_index_from}
use Rattle.domain_standing.specs.release_list.Listing.{Listing}
use Rattle.domain_standing.specs.release_list.Standing.{Files, place_in, with_file}
use Rattle.domain_standing.proofs.OfReleaseList.Standings.{at_itself, file_other, file_there, place_by, same_or_not}
use Rattle.domain_standing.specs.release_steps.Calls.{StandsWell}
use Rattle.domain_standing.specs.release_steps.Tags.{start_of}
use Rattle.domain_standing.proofs.OfReleaseSteps.FirstWell.{removed_beside}
use Rattle.domain_standing.specs.domain_layout.CellRules.{is_chain_records}
use Rattle.domain_standing.specs.domain_layout.Filled.{Contents}
use Rattle.domain_standing.specs.domain_layout.Owners.{IsOnTable}
use Rattle.domain_standing.specs.domain_layout.Reached.{IsWithin}
use Rattle.domain_standing.specs.Chains.{IndexesAt}
use Rattle.domain_standing.specs.Domain.{DomainNow, layout_of}
use Rattle.domain_standing.specs.Holders.{Holder, Holds}
use Rattle.domain_standing.specs.Holders.Holder.{of_cells, of_file, of_index, of_log, of_table, of_tags, of_volume}
use Rattle.standing_laws.specs.IndexCalls.{KeepsTables, NamesFile, with_index_at, with_removed}
use Rattle.standing_laws.specs.Leads.{StandsBelow, fileset_now}
use Rattle.standing_laws.proofs.IndexSaid.{gone_beside, says_gone}
use Rattle.standing_laws.proofs.IndexSet.{IsChain, chain_at}
use Rattle.standing_laws.proofs.IndexWas.{file_was, member_on, off_cells, off_first, there_was}
use Rattle.standing_laws.specs.Sound.{StandsSound, StandsSoundBut}
use Rattle.standing_laws.proofs.SoundIndexed.{at_apart, same_start}
use Rattle.standing_laws.proofs.SoundParted.{NoFile, good_by, sound_but, sound_none}
use Rattle.standing_laws.proofs.HomeLists.{in_get}
use Rattle.domain_standing.proofs.OfReleaseList.Spread.{none_not}

module _ (d : DomainNow) (files : Files) (indexes : IndexesAt) (apart : CellAt → Type 0) (below : StandsBelow d files indexes) (sound : StandsSoundBut apart d files indexes) (number : ℕ) (tag : Tag) (chains : Chains)
    (well : StandsWell number (fileset_now d number chains files)) (first : PlacedCell) (rest : List PlacedCell) (is : chains tag ≡ Some (first ∷ rest)) (group : ℕ) (space : Spaces) (pages : Pages) (contents : Contents) (listed : Listing)
    (gives : GivesIndexBack group (d.tags number) (chains tag) (indexes first.at) d.space space d.pages pages)
  where
    abbrev now : DomainNow
    now = record d { pages = pages; contents = contents; space = space; list = listed }

    abbrev indexes_then : IndexesAt
    indexes_then = with_index_at first.at [] indexes

    beside : ChangesBeside (d.tags number) (Some (first ∷ rest)) d.pages gives.said
    beside = subst (λ o. ChangesBeside (d.tags number) o d.pages gives.said) is gives.beside

    on_table : (home : Home) → Contains (table_of d.cells home.vol) home.page → pages home ≡ gives.said home
    on_table home on = gives.drops.others home (λ inside. off_cells d files indexes below number tag chains well first rest is home inside on)

    cell_stays : (at : CellAt) → Contains (table_of d.cells at.vol) at.page → is_at first.at at ≡ false → cell_at pages at ≡ cell_at d.pages at
    cell_stays at on other = ap (λ (o : Option (List ℕ)). cell_at (λ _. o) at) (on_table (home_of at) on) ∙ beside.cells at other

    -- ---- other indexes

    other_homes : (at : CellAt) → is_at at first.at ≡ false → indexes_then at ≡ indexes at
    other_homes at other = ap (λ (b : Bool). cond b [] (indexes at)) other

    no_homes : (at : CellAt) → is_at at first.at ≡ true → indexes_then at ≡ []
    no_homes at same = ap (λ (b : Bool). cond b [] (indexes at)) same

    other_page : (at : CellAt) (k : ℕ) (home : Home) → is_at at first.at ≡ false → slice_get (indexes at) k ≡ Some home → pages home ≡ d.pages home
    other_page at k home other held =
        gives.drops.others home not_in ∙ beside.pages home (off_slot (d.tags number) first.cell.head.slot home no_tags) (off_first d files indexes below number tag chains well first rest is home off)
      where
        not_in : ¬ Contains (indexes first.at) home
        not_in inside =
            let j = in_get (indexes first.at) home inside in
            let same : at ≡ first.at = same_start at first.at k j.0 (below.owned.once home (of_index at k) (of_index first.at j.0) held j.1) in
            true≢false (sym (at_itself first.at) ∙ sym (ap (λ (a : CellAt). is_at a first.at) same) ∙ other)

        cells_apart : ¬ of_index at k ≡ of_cells
        cells_apart e = cc

        tags_apart : ¬ of_index at k ≡ of_tags number
        tags_apart e = cc

        off : ¬ Contains (table_of d.cells home.vol) home.page
        off on = cells_apart (below.owned.once home (of_index at k) of_cells held (member_on d files indexes below number tag chains well first rest is home.vol home.page on, on))

        no_tags : has_home (d.tags number) home ≡ false
        no_tags = ⊎_elim (λ has. absurd (tags_apart (below.owned.once home (of_index at k) (of_tags number) held has))) (λ none. none) (cases_Bool (has_home (d.tags number) home))

    good : (at : CellAt) (home : Home) → Contains (indexes_then at) home → apart at ⊎ IsSomeAnd (pages home) IsIndexPage
    good at home inside = by_test (is_at at first.at) refl
      where
        none_in : ¬ Contains [] home
        none_in none = omega (arith, none.1)

        by_test : (b : Bool) → is_at at first.at ≡ b → apart at ⊎ IsSomeAnd (pages home) IsIndexPage
        by_test true same = absurd (none_in (subst (λ hs. Contains hs home) (no_homes at same) inside))
        by_test false other =
            let was : Contains (indexes at) home = subst (λ hs. Contains hs home) (other_homes at other) inside in
            let k = in_get (indexes at) home was in
            good_by (apart at) (d.pages home) (pages home) (other_page at k.0 home other k.1) (sound.good at home was)

    index_within : (at : CellAt) (k : ℕ) (home : Home) → slice_get (indexes_then at) k ≡ Some home → IsWithin d.frame home
    index_within at k home held = by_test (is_at at first.at) refl
      where
        by_test : (b : Bool) → is_at at first.at ≡ b → IsWithin d.frame home
        by_test true same = absurd (none_not home (subst (λ hs. slice_get hs k ≡ Some home) (no_homes at same) held))
        by_test false other = sound.within home (of_index at k) (λ e. cc) (λ e. cc) (subst (λ hs. slice_get hs k ≡ Some home) (other_homes at other) held)

    module _ (says : Cell → Cell) (maps : map_records (says first.cell).records ≡ map_records first.cell.records) (file : IsFile pages first.at (with_first says (first ∷ rest))) where
      abbrev after : List PlacedCell
      after = with_first says (first ∷ rest)

      abbrev files_then : Files
      files_then = with_file first.at (Some after) files

      laters : (at : CellAt) (cell : Cell) → IsOnTable pages (layout_of now) at cell → cell.head.kind ≡ Chain → is_chain_records cell.records ≡ true
      laters at cell on chain = ⊎_elim here elsewhere (same_or_not at first.at)
        where
          here : at ≡ first.at → is_chain_records cell.records ≡ true
          here same =
              let it : says first.cell ≡ cell = one_stands pages first.at (says first.cell) cell file.1.links.stands (subst (λ (a : CellAt). StandsAt pages a cell) same on.stands) in
              let e : Primary ≡ Chain = sym file.1.primary ∙ ap (λ (c : Cell). c.head.kind) it ∙ chain in absurd (cc)

          elsewhere : ¬ at ≡ first.at → is_chain_records cell.records ≡ true
          elsewhere differ =
              sound.laters at cell (record {
                member = on.member;
                table = on.table;
                stands = record { bytes = on.stands.bytes; there = sym (cell_stays at on.table (at_apart first.at at (λ same. differ (sym same)))) ∙ on.stands.there; is = on.stands.is };
              }) chain

      places_same : (a : CellAt) (p : ℕ) → place_in files_then a p ≡ place_in files a p
      places_same a p = ⊎_elim
          (λ here.
          ap (λ (b : CellAt). place_in files_then b p) here ∙ place_by files_then first.at after p (file_there first.at (Some after) files) ∙ ap (λ rs. place_of rs p) (runs_kept says first rest maps)
          ∙ sym (place_by files first.at (first ∷ rest) p (there_was d files indexes below number tag chains well first rest is)) ∙ sym (ap (λ (b : CellAt). place_in files b p) here))
          (λ differ. ap (λ o. option_map_or (λ cs. places_of cs p) o Absent) (file_other first.at (Some after) files a differ))
          (same_or_not a first.at)

      within : (home : Home) (holder : Holder) → ¬ holder ≡ of_volume → ¬ holder ≡ of_log → Holds now files_then indexes_then holder home → IsWithin d.frame home
      within home of_volume no_volume no_log held = absurd (no_volume refl)
      within home of_log no_volume no_log held = absurd (no_log refl)
      within home of_table no_volume no_log held = sound.within home of_table no_volume no_log held
      within home of_cells no_volume no_log held = sound.within home of_cells no_volume no_log held
      within home (of_tags n) no_volume no_log held = sound.within home (of_tags n) no_volume no_log held
      within home (of_index at k) no_volume no_log held = index_within at k home held
      within home (of_file at page) no_volume no_log held = sound.within home (of_file at page) no_volume no_log (sym (places_same at page) ∙ held)

      gone_so : StandsSoundBut apart now files_then indexes_then
      gone_so = record { within = within; laters = laters; good = good }

    -- ---- by what the first cell said

    abbrev Going : Option (List PlacedCell) → Type 0
    Going o = StandsSoundBut apart now (with_file first.at (option_map (with_first says_removed) o) files) indexes_then

    old_file : AreFile d.pages first rest
    old_file = file_was d files indexes below number tag chains well first rest is

    -- it named no index
    none_goes : IsFile pages first.at (with_first says_removed (first ∷ rest)) → Going (Some (first ∷ rest))
    none_goes file = gone_so says_removed (removed_beside d.pages first rest old_file).maps file

    -- it named one
    some_goes : IsFile pages first.at (with_first says_gone (first ∷ rest)) → Going (Some (with_first (says_index None) (first ∷ rest)))
    some_goes file = gone_so says_gone (gone_beside d.pages first rest old_file).maps file

    goes_by : (o : Option Home) → IsSomeAnd (without_index_from o tag chains tag) (λ cells. IsFile pages first.at (with_first says_removed cells)) → Going (without_index_from o tag chains tag)
    goes_by None pending = subst Going (sym is) (none_goes (subst (λ o. IsSomeAnd o (λ cells. IsFile pages first.at (with_first says_removed cells))) is pending))
    goes_by (Some home) pending =
        let tag_then : with_chain tag (with_first (says_index None)) chains tag ≡ Some (with_first (says_index None) (first ∷ rest)) =
        chain_same tag (with_first (says_index None)) chains tag (same_tag_itself tag) ∙ ap (option_map (with_first (says_index None))) is in
        subst Going (sym tag_then) (some_goes (subst (λ o. IsSomeAnd o (λ cells. IsFile pages first.at (with_first says_removed cells))) tag_then pending))

    pub gone_sound : IsSomeAnd (without_index tag chains tag) (λ cells. IsFile pages first.at (with_first says_removed cells)) → Going (without_index tag chains tag)
    gone_sound pending = goes_by (option_and_then index_of (chains tag)) pending

module _ (number : ℕ) (tag : Tag) (d now : DomainNow) (chains : Chains) (files : Files) (indexes : IndexesAt) (apart : CellAt → Type 0) (group : ℕ) (below : StandsBelow d files indexes) (sound : StandsSoundBut apart d files indexes) (same : KeepsTables d now) (listed : Listing) where
  abbrev GoesAt : CellAt → Type 0
  GoesAt a = Removes number (d.tags number) tag a (without_index tag chains) now.pages → GivesIndexBack group (d.tags number) (chains tag) (indexes a) d.space now.space d.pages now.pages
      → StandsSoundBut apart (record now { list = listed }) (with_removed a tag chains files) (with_index_at a [] indexes)

  goes_first : (first : PlacedCell) (rest : List PlacedCell) → chains tag ≡ Some (first ∷ rest) → StandsWell number (fileset_now d number chains files) → GoesAt first.at
  goes_first first rest is well removes gives =
      subst (λ (x : DomainNow). StandsSoundBut apart (record x { list = listed }) (with_removed first.at tag chains files) (with_index_at first.at [] indexes)) (sym same)
      (gone_sound d files indexes apart below sound number tag chains well first rest is group now.space now.pages now.contents listed gives removes.pending)

  -- of what is in any slot
  pub but_gone_in : (start : CellAt) → StandsWell number (fileset_now d number chains files) → option_and_then start_of (chains tag) ≡ Some start → GoesAt start
  but_gone_in start well begins = by_start (chain_at chains tag start begins)
    where
      by_start : IsChain chains tag start → GoesAt start
      by_start c = subst GoesAt c.at (goes_first c.first c.rest c.is well)

  pub but_gone : (start : CellAt) → NamesFile number tag start d chains files → GoesAt start
  but_gone start names = but_gone_in start names.well names.begins

pub sound_gone : (number : ℕ) (tag : Tag) (d now : DomainNow) (chains : Chains) (files : Files) (indexes : IndexesAt) (group : ℕ) → StandsBelow d files indexes → StandsSound d files indexes → KeepsTables d now → (listed : Listing)
    → (start : CellAt) → NamesFile number tag start d chains files → Removes number (d.tags number) tag start (without_index tag chains) now.pages
    → GivesIndexBack group (d.tags number) (chains tag) (indexes start) d.space now.space d.pages now.pages → StandsSound (record now { list = listed }) (with_removed start tag chains files) (with_index_at start [] indexes)
sound_gone number tag d now chains files indexes group below sound same listed start names removes gives =
    sound_none (record now { list = listed }) (with_removed start tag chains files) (with_index_at start [] indexes)
    (but_gone number tag d now chains files indexes NoFile group below (sound_but d files indexes NoFile sound) same listed start names removes gives)
