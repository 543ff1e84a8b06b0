-- A domain stands on around a slot where a page of a directory's index is written, or put in.
use Rattle.std.proofs.Common.{◌≡◌, ◌∙◌, inl, ℕ, ◌≤◌, true, false, List, [], ◌∷◌, Option, Some, None, Contains, refl, sym, ap, subst, arith}
use Rattle.std.proofs.lemmas.Bool.{false_from_ne_true}
use Rattle.std.proofs.lemmas.List.{append-nil}
use Rattle.std.specs.List.{insert}
use Rattle.std.specs.Option.{option_and_then, option_map}
use Rattle.standing_laws.specs.domain_base.declared.place.CellAt.{CellAt}
use Rattle.standing_laws.specs.domain_base.declared.place.Home.{Home}
use Rattle.standing_laws.specs.domain_base.declared.place.Tag.{Tag}
use Rattle.standing_laws.specs.page_store.Pages.{Pages, same_home}
use Rattle.standing_laws.specs.metadata_cells.Cell.{Cell}
use Rattle.standing_laws.specs.metadata_cells.CellPage.{cell_at, home_of}
use Rattle.standing_laws.specs.metadata_cells.Chain.{PlacedCell}
use Rattle.standing_laws.proofs.OfMetadataCells.Changed.{homes_same}
use Rattle.standing_laws.specs.tag_dirs.Directory.{has_home}
use Rattle.standing_laws.specs.tag_dirs.declared.dir.TagPlace.{TagPlace}
use Rattle.standing_laws.specs.extent_maps.declared.run.PagePlace.TheVariants.{At}
use Rattle.standing_laws.specs.free_cells.Cells.{table_of}
use Rattle.standing_laws.specs.free_space.Spaces.{Spaces}
use Rattle.standing_laws.specs.file_chains.Files.{AreFile}
use Rattle.standing_laws.specs.fileset_files.Changes.{ChangesFirst, with_chain, with_first}
use Rattle.standing_laws.specs.fileset_files.Files.{AreFiles, place_at}
use Rattle.standing_laws.specs.fileset_files.State.{state_of}
use Rattle.standing_laws.specs.fileset_files.declared.indexing.IndexPlace.{IndexPlace}
use Rattle.standing_laws.specs.fileset_files.Index.{says_index}
use Rattle.standing_laws.specs.fileset_files.Together.{AreTogether, IsHeldApart}
use Rattle.standing_laws.proofs.OfFilesetFiles.Grown.{apart_taken}
use Rattle.standing_laws.specs.fileset_files.States.{indexed}
use Rattle.standing_laws.proofs.OfFilesetFiles.FirstCells.{index_said}
use Rattle.standing_laws.proofs.OfFilesetFiles.Parts.{file_at}
use Rattle.standing_laws.proofs.OfStoredSet.Together.{together_away}
use Rattle.standing_laws.specs.stored_set.Sets.{AddsIndexPage, WritesIndexPage}
use Rattle.standing_laws.specs.release_list.Standing.{Files, source_at, with_file}
use Rattle.standing_laws.proofs.OfReleaseList.Standings.{low_home}
use Rattle.standing_laws.specs.release_steps.Tags.{start_of}
use Rattle.standing_laws.specs.domain_layout.Filled.{Contents}
use Rattle.standing_laws.specs.domain_standing.Chains.{IndexesAt}
use Rattle.standing_laws.specs.domain_standing.Domain.{DomainNow}
use Rattle.standing_laws.specs.domain_standing.Holders.{IsUnheld}
use Rattle.standing_laws.specs.domain_standing.Holders.Holder.{of_cells, of_file, of_tags}
use Rattle.standing_laws.specs.IndexCalls.{KeepsTables, with_index_at, with_said}
use Rattle.standing_laws.specs.Leads.{StandsBelow}
use Rattle.standing_laws.specs.OtherPages.{KeepsPlaces}
use Rattle.standing_laws.proofs.HomeLists.{get_in}
use Rattle.standing_laws.proofs.IndexSaid.{index_other}
use Rattle.standing_laws.proofs.IndexSet.{IsChain, added, chain_at, written}
use Rattle.standing_laws.proofs.IndexWas.{member_on, off_cells, off_first, off_tags}
use Rattle.standing_laws.proofs.TablesTaken.{low_table, unheld_taken}
use Rattle.standing_laws.specs.Sound.{StandsSoundBut}
use Rattle.standing_laws.proofs.SoundIndexed.{but_added, but_written}
use Rattle.standing_laws.proofs.SoundParted.{sound_more}
use Rattle.set_standing.specs.Around.{BytesFollow, GoesOnAround, IsNamedIn, StandsAround}
use Rattle.set_standing.specs.Follow.{FilesFollow}
use Rattle.set_standing.proofs.Again.{alone_said, around_of, at_slot, names_first, number_first, says_first, there_first}
use Rattle.set_standing.proofs.Aside.{stays_aside}
use Rattle.set_standing.proofs.FilesKept.{comes_changed, files_by, parent_kept}
use Rattle.set_standing.proofs.Following.{chain_changed, kept_sequences, same_sequences}
use Rattle.set_standing.proofs.NamesStay.{said_starts, still_named}
use Rattle.set_standing.proofs.OwnPages.{held_for, not_in_index, page_bytes}

module _ (number : ℕ) (tag : Tag) (d : DomainNow) (around : StandsAround number d) (first : PlacedCell) (rest : List PlacedCell) (is : around.chains tag ≡ Some (first ∷ rest)) where
  off_its_cells : (home : Home) → Contains (around.indexes first.at) home → ¬ Contains (table_of d.cells home.vol) home.page
  off_its_cells = off_cells d around.files around.indexes around.below number tag around.chains around.well first rest is

  off_its_tags : (home : Home) → Contains (around.indexes first.at) home → ¬ has_home (d.tags number) home ≡ true
  off_its_tags = off_tags d around.files around.indexes around.below number tag around.chains around.well first rest is number

  off_its_first : (home : Home) → ¬ Contains (table_of d.cells home.vol) home.page → same_home home (home_of first.at) ≡ false
  off_its_first = off_first d around.files around.indexes around.below number tag around.chains around.well first rest is

  -- the tag names the file, whatever the first cell says
  named_first : IsNamedIn around.chains first.at
  named_first = (tag, ap (option_and_then start_of) is)

  named_said : (says : Cell → Cell) (now : DomainNow) (files : Files) (indexes : IndexesAt) → StandsSoundBut (IsNamedIn around.chains) now files indexes → StandsSoundBut (IsNamedIn (with_chain tag (with_first says) around.chains)) now files indexes
  named_said says now files indexes = sound_more now files indexes (IsNamedIn around.chains) (IsNamedIn (with_chain tag (with_first says) around.chains))
      (still_named around.chains (with_chain tag (with_first says) around.chains) (said_starts tag around.chains says))

  -- where its first cell says an index
  said_files : (says : Cell → Cell) → with_said first.at says around.files ≡ with_file first.at (Some (with_first says (first ∷ rest))) around.files
  said_files says = ap (λ o. with_file first.at (option_map (with_first says) o) around.files) (there_first number tag d (at_slot number d around) first rest is)

  alone_now : (index : Option IndexPlace) (at : CellAt) → source_at (with_said first.at (says_index index) around.files) at ≡ None
  alone_now index at =
      ap (λ (f : Files). source_at f at) (said_files (says_index index)) ∙ alone_said number tag d (at_slot number d around) first rest is (says_index index) (index_other index first.cell 2 (λ e. omega (arith, e))) at

  -- what tags name follows where only its first cell says something of its index
  index_follows : (now : DomainNow) (says : Cell → Cell) (index : Option IndexPlace) → says ≡ says_index index → now.tags number ≡ d.tags number → AreFiles number (d.tags number) now.pages (with_chain tag (with_first says) around.chains) → ((home : Home) → has_home (d.tags number) home ≡ true → now.pages home ≡ d.pages home)
      → BytesFollow d now → ((t : Tag) (k : ℕ) (home : Home) → place_at around.chains t k ≡ At home → now.pages home ≡ d.pages home) → FilesFollow None number d now
  index_follows now says index said same_tags are tag_pages bytes stays =
      files_by number d now [] (same_tags ∙ sym (append-nil (d.tags number))) (same_sequences number d now same_tags (kept_sequences d.pages now.pages (d.tags number) around.well.together.files.directory tag_pages))
      around.chains (with_chain tag (with_first says) around.chains) around.well.together.files (subst (λ (ps : List TagPlace). AreFiles number ps now.pages (with_chain tag (with_first says) around.chains)) (sym same_tags) are)
      (chain_changed number d now around.chains tag (with_first says) (first ∷ rest) is (λ t cells differ there. page_bytes number d (at_slot number d around) now bytes t cells there (stays t))
      (comes_changed d now (first ∷ rest) (with_first says (first ∷ rest)) (indexed index) (λ s. refl) (λ state seen. record { kind = refl; uid = refl; gid = refl; size = refl; logged = refl; homes = λ page. refl })
      its_state
      (page_bytes number d (at_slot number d around) now bytes tag (first ∷ rest) is (stays tag)))
      (parent_kept tag (first ∷ rest) (with_first says (first ∷ rest)) (indexed index) (λ s. refl) (λ s. refl) its_state))
    where
      its_file : AreFile d.pages first rest
      its_file = (file_at number (d.tags number) d.pages around.chains around.well.together.files tag (first ∷ rest) is).is_file.1

      its_state : state_of (with_first says (first ∷ rest)) ≡ option_map (indexed index) (state_of (first ∷ rest))
      its_state = ap (λ (f : Cell → Cell). state_of (with_first f (first ∷ rest))) said ∙ index_said d.pages first rest its_file index

  -- ---- a page is written

  module _ (page : ℕ) (bytes : List ℕ) (pages : Pages) (contents : Contents) (writes : WritesIndexPage number (d.tags number) d.space d.cells tag page bytes around.chains (around.indexes first.at) d.pages pages) where
    abbrev then : DomainNow
    then = record d { pages = pages; contents = contents }

    abbrev says : Cell → Cell
    says = says_index (Some writes.says.index)

    changes : ChangesFirst (Some (first ∷ rest)) d.pages writes.said
    changes = subst (λ o. ChangesFirst o d.pages writes.said) is writes.says.first

    put_apart : (home : Home) → ¬ Contains (around.indexes first.at) home → pages home ≡ writes.said home
    put_apart home none = writes.puts.others home (λ at. none (get_in (around.indexes first.at) page home at))

    on_table : (home : Home) → Contains (table_of d.cells home.vol) home.page → pages home ≡ writes.said home
    on_table home on = put_apart home (λ inside. off_its_cells home inside on)

    below_then : StandsBelow then (with_said first.at says around.files) around.indexes
    below_then = written number tag d then around.chains around.files around.indexes page bytes around.below refl refl first.at (names_first number tag d around first rest is) writes

    together_then : AreTogether number (d.tags number) d.space d.cells pages (with_chain tag (with_first says) around.chains)
    together_then = together_away writes.said pages d.cells on_table number (d.tags number) d.space (with_chain tag (with_first says) around.chains)
        (λ home has. put_apart home (λ inside. off_its_tags home inside has)) writes.says.together

    off_tag : (home : Home) → has_home (d.tags number) home ≡ true → pages home ≡ d.pages home
    off_tag home has = put_apart home (λ inside. off_its_tags home inside has) ∙ changes.1 home (off_its_first home (around.well.together.tag_pages home has).off_table)

    file_stays : (t : Tag) (k : ℕ) (home : Home) → place_at around.chains t k ≡ At home → pages home ≡ d.pages home
    file_stays t k home at = put_apart home (not_in_index number d (at_slot number d around) first t k home at) ∙ changes.1 home (off_its_first home (around.well.together.file_pages t k home at).apart.off_table)

    sound_then : StandsSoundBut (IsNamedIn (with_chain tag (with_first says) around.chains)) then (with_said first.at says around.files) around.indexes
    sound_then = named_said says then (with_said first.at says around.files) around.indexes
        (but_written number tag d then around.chains around.files around.indexes (IsNamedIn around.chains) page bytes around.below around.sound refl first.at (names_first number tag d around first rest is) (inl named_first) writes)

    page_written : BytesFollow d then → GoesOnAround None number d then
    page_written follow = (
      around_of number then around.entry around.original (with_said first.at says around.files) around.indexes below_then (with_chain tag (with_first says) around.chains) together_then (alone_now (Some writes.says.index)) sound_then,
      stays_aside number first.at d then around.files around.indexes around.below (first ∷ rest) (there_first number tag d (at_slot number d around) first rest is) (number_first number tag d (at_slot number d around) first rest is) (says_first number tag d (at_slot number d around) first rest is) (λ n differ. refl) refl below_then.chains.well.together.allocated
          (λ at on other. ap (λ (o : Option (List ℕ)). cell_at (λ _. o) at) (on_table (home_of at) on) ∙ changes.0 at other)
          (λ home off. put_apart home off.no_index ∙ changes.1 home (off_its_first home off.off_table))
          (λ home off held. held) follow refl refl (index_follows then says (Some writes.says.index) refl refl together_then.files off_tag follow file_stays),
    )

  -- ---- a page is put in

  module _ (place prefer : ℕ) (bytes : List ℕ) (pages : Pages) (contents : Contents) (space : Spaces) (adds : AddsIndexPage number (d.tags number) d.cells tag place bytes prefer around.chains (around.indexes first.at) d.space space d.pages pages) where
    abbrev more : DomainNow
    more = record d { pages = pages; contents = contents; space = space }

    abbrev says_more : Cell → Cell
    says_more = says_index (Some adds.says.index)

    abbrev indexes_more : IndexesAt
    indexes_more = with_index_at first.at (insert (around.indexes first.at) place adds.home) around.indexes

    changes_more : ChangesFirst (Some (first ∷ rest)) d.pages adds.said
    changes_more = subst (λ o. ChangesFirst o d.pages adds.said) is adds.says.first

    -- what is held is not the page that is taken
    not_taken : (home : Home) → 1 ≤ home.vol → ¬ IsUnheld d around.files around.indexes home → same_home home adds.home ≡ false
    not_taken home low held = false_from_ne_true (same_home home adds.home) (λ here.
        let same = homes_same home adds.home here in
        held (subst (IsUnheld d around.files around.indexes) (sym same) (unheld_taken d around.files around.indexes around.below.owned adds.home (subst (λ (h : Home). 1 ≤ h.vol) same low) adds.free)))

    put_beside : (home : Home) → 1 ≤ home.vol → ¬ Contains (around.indexes first.at) home → ¬ IsUnheld d around.files around.indexes home → pages home ≡ adds.said home
    put_beside home low none held = adds.inserts.others home none (not_taken home low held)

    on_table_more : (home : Home) → Contains (table_of d.cells home.vol) home.page → pages home ≡ adds.said home
    on_table_more home on =
        put_beside home (low_table d.cells home.vol home.page on) (λ inside. off_its_cells home inside on)
        (λ none. none of_cells (member_on d around.files around.indexes around.below number tag around.chains around.well first rest is home.vol home.page on, on))

    below_more : StandsBelow more (with_said first.at says_more around.files) indexes_more
    below_more = added number tag d more around.chains around.files around.indexes place prefer bytes around.below refl first.at (names_first number tag d around first rest is) adds

    together_more : AreTogether number (d.tags number) space d.cells pages (with_chain tag (with_first says_more) around.chains)
    together_more = together_away adds.said pages d.cells on_table_more number (d.tags number) space (with_chain tag (with_first says_more) around.chains)
        (λ home has. put_beside home (around.well.among.low home has) (λ inside. off_its_tags home inside has) (λ none. none (of_tags number) has)) adds.says.together

    held_more : (home : Home) → IsHeldApart d.space d.cells home → IsHeldApart space d.cells home
    held_more home held = subst (λ (s : Spaces). IsHeldApart s d.cells home) (sym adds.taken) (apart_taken d.space d.cells adds.home home held)

    off_tag_more : (home : Home) → has_home (d.tags number) home ≡ true → pages home ≡ d.pages home
    off_tag_more home has =
        put_beside home (around.well.among.low home has) (λ inside. off_its_tags home inside has) (λ none. none (of_tags number) has)
        ∙ changes_more.1 home (off_its_first home (around.well.together.tag_pages home has).off_table)

    file_stays_more : (t : Tag) (k : ℕ) (home : Home) → place_at around.chains t k ≡ At home → pages home ≡ d.pages home
    file_stays_more t k home at =
        let h = held_for number d (at_slot number d around) t k home at in
        put_beside home (low_home d.space d.cells d.pages around.files around.below.chains.well.together h.name.at k home h.placed) (not_in_index number d (at_slot number d around) first t k home at) (λ none. none (of_file h.name.at k) h.placed)
        ∙ changes_more.1 home (off_its_first home (around.well.together.file_pages t k home at).apart.off_table)

    sound_then_more : StandsSoundBut (IsNamedIn (with_chain tag (with_first says_more) around.chains)) more (with_said first.at says_more around.files) indexes_more
    sound_then_more = named_said says_more more (with_said first.at says_more around.files) indexes_more
        (but_added number tag d more around.chains around.files around.indexes (IsNamedIn around.chains) place prefer bytes around.below around.sound refl first.at (names_first number tag d around first rest is) (inl named_first) adds)

    page_put : BytesFollow d more → GoesOnAround None number d more
    page_put follow = (
      around_of number more around.entry around.original (with_said first.at says_more around.files) indexes_more below_more (with_chain tag (with_first says_more) around.chains) together_more (alone_now (Some adds.says.index)) sound_then_more,
      stays_aside number first.at d more around.files around.indexes around.below (first ∷ rest) (there_first number tag d (at_slot number d around) first rest is) (number_first number tag d (at_slot number d around) first rest is) (says_first number tag d (at_slot number d around) first rest is) (λ n differ. refl) refl below_more.chains.well.together.allocated
          (λ at on other. ap (λ (o : Option (List ℕ)). cell_at (λ _. o) at) (on_table_more (home_of at) on) ∙ changes_more.0 at other)
          (λ home off. put_beside home off.low off.no_index off.held ∙ changes_more.1 home (off_its_first home off.off_table))
          (λ home off held. held_more home held) follow refl refl (index_follows more says_more (Some adds.says.index) refl refl together_more.files off_tag_more follow file_stays_more),
    )

pub is_written : (number : ℕ) (tag : Tag) (start : CellAt) (page : ℕ) (bytes : List ℕ) (d now : DomainNow) (around : StandsAround number d) → KeepsPlaces d now → BytesFollow d now → option_and_then start_of (around.chains tag) ≡ Some start
    → WritesIndexPage number (d.tags number) d.space d.cells tag page bytes around.chains (around.indexes start) d.pages now.pages → GoesOnAround None number d now
is_written number tag start page bytes d now around same follow begins = by_chain (chain_at around.chains tag start begins)
  where
    by_chain : IsChain around.chains tag start → WritesIndexPage number (d.tags number) d.space d.cells tag page bytes around.chains (around.indexes start) d.pages now.pages → GoesOnAround None number d now
    by_chain c writes = subst (GoesOnAround None number d) (sym same)
        (page_written number tag d around c.first c.rest c.is page bytes now.pages now.contents
        (subst (λ (a : CellAt). WritesIndexPage number (d.tags number) d.space d.cells tag page bytes around.chains (around.indexes a) d.pages now.pages) (sym c.at) writes) follow)

pub is_put_in : (number : ℕ) (tag : Tag) (start : CellAt) (place prefer : ℕ) (bytes : List ℕ) (d now : DomainNow) (around : StandsAround number d) → KeepsTables d now → BytesFollow d now → option_and_then start_of (around.chains tag) ≡ Some start
    → AddsIndexPage number (d.tags number) d.cells tag place bytes prefer around.chains (around.indexes start) d.space now.space d.pages now.pages → GoesOnAround None number d now
is_put_in number tag start place prefer bytes d now around same follow begins = by_chain (chain_at around.chains tag start begins)
  where
    by_chain : IsChain around.chains tag start → AddsIndexPage number (d.tags number) d.cells tag place bytes prefer around.chains (around.indexes start) d.space now.space d.pages now.pages → GoesOnAround None number d now
    by_chain c adds = subst (GoesOnAround None number d) (sym same)
        (page_put number tag d around c.first c.rest c.is place prefer bytes now.pages now.contents now.space
        (subst (λ (a : CellAt). AddsIndexPage number (d.tags number) d.cells tag place bytes prefer around.chains (around.indexes a) d.space now.space d.pages now.pages) (sym c.at) adds) follow)
