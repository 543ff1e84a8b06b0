-- A domain goes on around a slot of which a tag is taken out of use, with the index of what it named.
use Rattle.std.proofs.Common.{◌≡◌, ◌∙◌, ◌≤◌, ℕ, Bool, true, false, cond, Option, Some, None, IsSomeAnd, List, [], ◌∷◌, Contains, refl, sym, ap, subst}
use Rattle.std.specs.List.{AllByRecursion}
use Rattle.std.specs.Option.{option_and_then, option_map, option_map_or}
use Rattle.domain_changes.specs.domain_base.declared.place.CellAt.{CellAt}
use Rattle.domain_changes.specs.domain_base.declared.place.Home.{Home}
use Rattle.domain_changes.specs.domain_base.declared.place.Tag.{Tag}
use Rattle.domain_changes.specs.page_store.Bitfiles.{same_tag}
use Rattle.domain_changes.specs.page_store.Pages.{Pages}
use Rattle.domain_changes.specs.metadata_cells.Cell.{Cell}
use Rattle.domain_changes.specs.metadata_cells.Chain.{PlacedCell, StandsAt}
use Rattle.domain_changes.specs.tag_dirs.Directory.{has_home}
use Rattle.domain_changes.specs.tag_dirs.declared.page.TagEntry.{TagEntry}
use Rattle.domain_changes.specs.extent_maps.declared.run.PagePlace.TheVariants.{Absent, At}
use Rattle.domain_changes.specs.free_cells.Cells.{table_of}
use Rattle.domain_changes.specs.free_space.Spaces.{Spaces}
use Rattle.domain_changes.specs.file_chains.Allocated.{AreAllocated}
use Rattle.domain_changes.specs.file_chains.FileChanges.{AreOnTables}
use Rattle.domain_changes.specs.file_chains.Files.{IsFile, places_of}
use Rattle.domain_changes.proofs.OfFileChains.ChainChanges.{stand_file}
use Rattle.domain_changes.specs.fileset_files.Changes.{KeepsSequences, Removes, says_removed, with_first, without_chain}
use Rattle.domain_changes.specs.fileset_files.Files.{AreFiles, Chains, place_at}
use Rattle.domain_changes.specs.fileset_files.Index.{says_index}
use Rattle.domain_changes.specs.fileset_files.Shown.{index_of}
use Rattle.domain_changes.specs.fileset_files.Together.{AreTogether, IsHeldApart}
use Rattle.domain_changes.proofs.OfFilesetFiles.OneChain.{chain_same, file_by, same_tag_itself}
use Rattle.domain_changes.proofs.OfFilesetFiles.Tags.{entry_same, pages_same}
use Rattle.domain_changes.proofs.OfFileRelease.Once.{absent_not}
use Rattle.domain_changes.specs.index_pages.Changes.{DropsIndex}
use Rattle.domain_changes.specs.index_pages.Homes.{AreIndexHomes}
use Rattle.domain_changes.proofs.OfStoredSet.GivenBack.{allocated_while, held_while, low_place}
use Rattle.domain_changes.proofs.OfStoredSet.Together.{stands_still, together_away}
use Rattle.domain_changes.proofs.OfStoredSet.TakenAway.{gone_same}
use Rattle.domain_changes.specs.release_list.Listing.{Adds, Listing}
use Rattle.domain_changes.specs.domain_layout.Filled.{Contents}
use Rattle.set_standing.specs.Around.{BytesFollow, GoesOnAtSlot, StandsAtSlot}
use Rattle.domain_changes.specs.domain_standing.Domain.{DomainNow}
use Rattle.domain_changes.specs.stored_set.Sets.{without_index, without_index_from}
use Rattle.set_standing.proofs.OwnPages.{not_in_index}
use Rattle.set_standing.proofs.Removed.{is_gone_at, removed_chain}
use Rattle.domain_changes.proofs.OfStandingLaws.IndexSet.{IsChain}
use Rattle.domain_changes.proofs.OfStandingLaws.IndexWas.{index_low_was, index_was, off_cells, off_tags, on_was}
use Rattle.release_changes.specs.Emptying.{TakesOut}

-- without its chain a tag has no page
place_was : (tag t : Tag) (chains : Chains) (k : ℕ) (home : Home) → place_at (without_chain tag chains) t k ≡ At home → place_at chains t k ≡ At home
place_was tag t chains k home = by_tag (same_tag t tag)
  where
    by_tag : (b : Bool) → option_map_or (λ cs. places_of cs k) (cond b None (chains t)) Absent ≡ At home → option_map_or (λ cs. places_of cs k) (chains t) Absent ≡ At home
    by_tag true placed = absurd (absent_not home placed)
    by_tag false placed = placed

without_same : (tag : Tag) (chains : Chains) (o : Option Home) → without_chain tag (without_index_from o tag chains) ≡ without_chain tag chains
without_same tag chains None = refl
without_same tag chains (Some home) = gone_same tag (with_first (says_index None)) chains

module _ (number : ℕ) (tag : Tag) (group : ℕ) (d : DomainNow) (at : StandsAtSlot number d) (pages : Pages) (contents : Contents) (space : Spaces) where
  abbrev now : DomainNow
  now = record d { pages = pages; contents = contents; space = space }

  are : AreFiles number (d.tags number) d.pages at.chains
  are = at.well.together.files

  module _ (first : PlacedCell) (rest : List PlacedCell) (is : at.chains tag ≡ Some (first ∷ rest)) (out : TakesOut group number (d.tags number) tag first.at d.space space d.pages pages) where
    homes_are : AreIndexHomes d.pages (option_and_then index_of (at.chains tag)) (at.indexes first.at)
    homes_are = subst (λ o. AreIndexHomes d.pages (option_and_then index_of o) (at.indexes first.at)) (sym is) (index_was d at.files at.indexes at.below number tag at.chains at.well first rest is)

    drops : DropsIndex group d.space space out.said pages (at.indexes first.at)
    drops = out.drops at.chains (at.indexes first.at) are homes_are

    low : (home : Home) → Contains (at.indexes first.at) home → 1 ≤ home.vol
    low = index_low_was d at.files at.indexes at.below number tag at.chains at.well first rest is

    off_table : (home : Home) → Contains (at.indexes first.at) home → ¬ Contains (table_of d.cells home.vol) home.page
    off_table = off_cells d at.files at.indexes at.below number tag at.chains at.well first rest is

    no_tag : (home : Home) → has_home (d.tags number) home ≡ true → ¬ Contains (at.indexes first.at) home
    no_tag home has inside = off_tags d at.files at.indexes at.below number tag at.chains at.well first rest is number home inside has

    -- if no page of the index stands, nothing changes once the first cell says what goes
    on_table_same : (home : Home) → Contains (table_of d.cells home.vol) home.page → pages home ≡ out.said home
    on_table_same home on = drops.others home (λ inside. off_table home inside on)

    tags_same : (home : Home) → has_home (d.tags number) home ≡ true → pages home ≡ out.said home
    tags_same home has = drops.others home (no_tag home has)

    mid : AreTogether number (d.tags number) d.space d.cells out.said (without_chain tag at.chains)
    mid = out.together d.space d.cells at.chains at.well.together

    away : AreTogether number (d.tags number) d.space d.cells pages (without_chain tag at.chains)
    away = together_away out.said pages d.cells on_table_same number (d.tags number) d.space (without_chain tag at.chains) tags_same mid

    still : (home : Home) → 1 ≤ home.vol → ¬ Contains (at.indexes first.at) home → IsHeldApart d.space d.cells home → IsHeldApart space d.cells home
    still home own off is_held =
        subst (λ (s : Spaces). IsHeldApart s d.cells home) (sym drops.waits)
        (record { held = held_while group (at.indexes first.at) d.space home low own off is_held.held; off_table = is_held.off_table })

    together : AreTogether number (d.tags number) space d.cells pages (without_chain tag at.chains)
    together = record {
      files = away.files;
      allocated = subst (λ (s : Spaces). AreAllocated s d.cells pages) (sym drops.waits) (allocated_while group (at.indexes first.at) d.space d.cells pages low off_table away.allocated);
      on_tables = away.on_tables;
      tag_pages = λ home has. still home (at.well.among.low home has) (no_tag home has) (away.tag_pages home has);
      file_pages = λ t k home placed. record {
        apart = still home (low_place number (d.tags number) pages (without_chain tag at.chains) away.files t k home placed) (not_in_index number d at first t k home (place_was tag t at.chains k home placed)) (away.file_pages t k home placed).apart;
        no_tags = (away.file_pages t k home placed).no_tags;
      };
      once = away.once;
    }

    all_stand : (cs : List PlacedCell) → AreOnTables d.cells cs → AllByRecursion (λ (c : PlacedCell). StandsAt out.said c.at c.cell) cs → AllByRecursion (λ (c : PlacedCell). StandsAt pages c.at c.cell) cs
    all_stand [] on stand = tt
    all_stand (c ∷ cs) on stand = (stands_still out.said pages d.cells on_table_same c.at c.cell stand.0 on.0, all_stand cs on.1 stand.1)

    chain_on : AreOnTables d.cells (first ∷ rest)
    chain_on = on_was d at.files at.indexes at.below number tag at.chains at.well first rest is

    -- a first cell in place of the chain's
    file_stays : (says : Cell → Cell) → IsFile out.said first.at (with_first says (first ∷ rest)) → IsFile pages first.at (with_first says (first ∷ rest))
    file_stays says file = file_by out.said pages first.at (with_first says (first ∷ rest)) (all_stand (with_first says (first ∷ rest)) chain_on (stand_file out.said first.at (with_first says (first ∷ rest)) file)) file

    pending : (o : Option Home) → IsSomeAnd (without_index_from o tag at.chains tag) (λ cells. IsFile out.said first.at (with_first says_removed cells)) → IsSomeAnd (without_index_from o tag at.chains tag) (λ cells. IsFile pages first.at (with_first says_removed cells))
    pending None was =
        subst (λ o. IsSomeAnd o (λ cells. IsFile pages first.at (with_first says_removed cells))) (sym is)
        (file_stays says_removed (subst (λ o. IsSomeAnd o (λ cells. IsFile out.said first.at (with_first says_removed cells))) is was))
    pending (Some home) was =
        let here = chain_same tag (with_first (says_index None)) at.chains tag (same_tag_itself tag) ∙ ap (option_map (with_first (says_index None))) is in
        subst (λ o. IsSomeAnd o (λ cells. IsFile pages first.at (with_first says_removed cells))) (sym here)
        (file_stays (λ cell. says_removed (says_index None cell)) (subst (λ o. IsSomeAnd o (λ cells. IsFile out.said first.at (with_first says_removed cells))) here was))

    removes : Removes number (d.tags number) tag first.at (without_index tag at.chains) pages
    removes = record {
      files = subst (AreFiles number (d.tags number) pages) (sym (without_same tag at.chains (option_and_then index_of (at.chains tag)))) away.files;
      pending = pending (option_and_then index_of (at.chains tag)) (out.removes at.chains are).pending;
    }

    sequences : KeepsSequences (d.tags number) d.pages pages
    sequences slot = ap (option_map (λ (e : TagEntry). e.seq)) (entry_same out.said pages (d.tags number) mid.files.directory (pages_same out.said pages (d.tags number) tags_same) slot) ∙ out.sequences slot

    goes_first : BytesFollow d now → (listed : Listing) → Adds first.at None d.list.entries listed.entries → listed.tag_pages ≡ d.list.tag_pages → GoesOnAtSlot None number d (record now { list = listed }) at
    goes_first follow listed adds same_pages =
        is_gone_at number tag first.at group d now at refl follow together removes (record { said = out.said; beside = out.beside at.chains are; drops = drops }) sequences listed adds same_pages

  -- whatever cell it begins with
  pub goes_out : (start : CellAt) → TakesOut group number (d.tags number) tag start d.space space d.pages pages → BytesFollow d now → (listed : Listing) → Adds start None d.list.entries listed.entries → listed.tag_pages ≡ d.list.tag_pages → GoesOnAtSlot None number d (record now { list = listed }) at
  goes_out start out follow listed adds same_pages = by_chain (removed_chain number tag d at out.said start (out.removes at.chains are))
    where
      by_chain : IsChain at.chains tag start → GoesOnAtSlot None number d (record now { list = listed }) at
      by_chain c = goes_first c.first c.rest c.is
          (subst (λ (a : CellAt). TakesOut group number (d.tags number) tag a d.space space d.pages pages) (sym c.at) out) follow listed
          (subst (λ (a : CellAt). Adds a None d.list.entries listed.entries) (sym c.at) adds) same_pages

  -- and what the other tags name is named still
  pub files_out : (start : CellAt) → TakesOut group number (d.tags number) tag start d.space space d.pages pages → AreFiles number (d.tags number) pages (without_chain tag at.chains)
  files_out start out = by_chain (removed_chain number tag d at out.said start (out.removes at.chains are))
    where
      by_chain : IsChain at.chains tag start → AreFiles number (d.tags number) pages (without_chain tag at.chains)
      by_chain c = (away c.first c.rest c.is (subst (λ (a : CellAt). TakesOut group number (d.tags number) tag a d.space space d.pages pages) (sym c.at) out)).files
