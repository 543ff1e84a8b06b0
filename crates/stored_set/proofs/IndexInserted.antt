-- An index that gets one page more, and the directory's first cell tells of it afterwards.
use Rattle.std.proofs.Common.{◌≡◌, ◌∙◌, ◌≤◌, ◌⊎◌, ℕ, Bool, true, false, cond, Option, Some, None, IsSomeAnd, List, Contains, inl, inr, refl, sym, ap, subst, ⊎_elim}
use Rattle.std.proofs.lemmas.Bool.{false_from_ne_true, true≢false}
use Rattle.std.specs.List.{insert}
use Rattle.std.specs.Option.{option_and_then, option_map, option_map_or}
use Rattle.index_pages.specs.domain_base.declared.place.Home.{Home}
use Rattle.index_pages.specs.domain_base.declared.place.Kind.{Kind}
use Rattle.index_pages.specs.domain_base.declared.place.Kind.TheVariants.{Directory, File}
use Rattle.index_pages.specs.domain_base.declared.place.Tag.{Tag}
use Rattle.index_pages.specs.page_store.Bitfiles.{Bitfile, Bitfiles, IsDirectory, insert_index, same_tag, shown_index, with_change, with_file}
use Rattle.index_pages.specs.page_store.Pages.{Pages, same_home}
use Rattle.index_pages.specs.metadata_cells.Chain.{PlacedCell}
use Rattle.index_pages.proofs.OfMetadataCells.Changed.{homes_same}
use Rattle.index_pages.specs.tag_dirs.Directory.{has_home}
use Rattle.index_pages.specs.tag_dirs.declared.dir.TagPlace.{TagPlace}
use Rattle.index_pages.specs.extent_maps.declared.run.PagePlace.TheVariants.{Absent, At}
use Rattle.index_pages.specs.free_cells.Cells.{Cells, table_of}
use Rattle.index_pages.specs.free_space.VolumeSpace.{with_page}
use Rattle.index_pages.specs.free_space.Spaces.{CanTake, IsHeld, Spaces, change_volume}
use Rattle.index_pages.specs.file_chains.Files.{places_of}
use Rattle.index_pages.proofs.OfFileChains.Spaces.{not_held}
use Rattle.index_pages.specs.fileset_files.declared.indexing.IndexPlace.{IndexPlace}
use Rattle.index_pages.specs.fileset_files.Changes.{ChangesFirst, with_chain, with_first}
use Rattle.index_pages.specs.fileset_files.Files.{Chains, attributes_of, is_removed, place_at}
use Rattle.index_pages.specs.fileset_files.Index.{says_index}
use Rattle.index_pages.specs.fileset_files.Shown.{AreIndexPages, IsWhat, ShowsAt, ShowsFile, index_of, page_there, shown_page}
use Rattle.index_pages.specs.fileset_files.Together.{AreTogether, IsFilePage}
use Rattle.index_pages.proofs.OfFilesetFiles.Created.{together_page}
use Rattle.index_pages.proofs.OfFilesetFiles.Grown.{apart_now, apart_taken}
use Rattle.index_pages.proofs.OfFilesetFiles.OneChain.{chain_other, chain_same, same_tag_itself}
use Rattle.index_pages.proofs.OfFilesetFiles.OneFile.{tags_same}
use Rattle.index_pages.specs.Changes.{InsertsIndexPage}
use Rattle.index_pages.specs.Homes.{AreIndexHomes}
use Rattle.index_pages.proofs.Held.{in_inserted}
use Rattle.index_pages.proofs.Homes.{kept_same, shown}
use Rattle.stored_set.proofs.Beside.{stands_beside}
use Rattle.stored_set.proofs.FirstTells.{TellsIndex, off_tables_still, place_told, tells_at}
use Rattle.stored_set.proofs.IndexPut.{index_is, what_still}
use Rattle.stored_set.proofs.Kept.{index_kept, page_kept}
use Rattle.stored_set.proofs.Together.{together_away}
use Rattle.stored_set.specs.Standing.{Indexes, StandsShown, with_index}

module _ (fileset : ℕ) (places : List TagPlace) (space : Spaces) (cells : Cells) (old mid : Pages) (chains : Chains) (indexes : Indexes) (files : Bitfiles) (was : StandsShown fileset places space cells old chains indexes files)
    (tag : Tag) (number : ℕ) (page : List ℕ) (home : Home) (index : IndexPlace) (low : 1 ≤ home.vol) (free : CanTake space home.vol home.page) (inserts : InsertsIndexPage index.first home number page old mid (indexes tag)) where
  abbrev space_now : Spaces
  space_now = change_volume (with_page home.page) space home.vol

  abbrev homes_now : List Home
  homes_now = insert (indexes tag) number home

  not_home : (h : Home) → IsHeld space h.vol h.page → ¬ h ≡ home
  not_home h held e = not_held space home.vol home.page free (subst (λ (x : Home). IsHeld space x.vol x.page) e held)

  page_taken : (h : Home) → IsFilePage space cells places h → IsFilePage space_now cells places h
  page_taken h file_page = record { apart = apart_taken space cells home h file_page.apart; no_tags = file_page.no_tags }

  new_page : IsFilePage space_now cells places home
  new_page = record {
    apart = apart_now space cells old home low was.together.allocated free;
    no_tags = false_from_ne_true (has_home places home) (λ has. not_home home (was.together.tag_pages home has).held refl);
  }

  mid_same : (h : Home) → ¬ Contains (indexes tag) h → ¬ h ≡ home → mid h ≡ old h
  mid_same h off apart = inserts.others h off (false_from_ne_true (same_home h home) (λ same. apart (homes_same h home same)))

  -- files belong together with the new page
  pub together_mid : AreTogether fileset places space_now cells mid chains
  together_mid =
      together_away old mid cells
      (λ h on. mid_same h (λ inside. (was.stand tag h inside).apart.off_table on) (λ e. new_page.apart.off_table (subst (λ (x : Home). Contains (table_of cells x.vol) x.page) e on))) fileset places space_now chains
      (λ h has. mid_same h (λ inside. true≢false (sym has ∙ (was.stand tag h inside).no_tags)) (λ e. true≢false (sym has ∙ ap (has_home places) e ∙ new_page.no_tags)))
      (together_page old fileset places chains space cells home was.together)

  -- and once the first cell tells of it
  module _ (new : Pages) (changes : ChangesFirst (chains tag) mid new) (together : AreTogether fileset places space_now cells new (with_chain tag (with_first (says_index (Some index))) chains)) where
    abbrev change : List PlacedCell → List PlacedCell
    change = with_first (says_index (Some index))

    abbrev now : Chains
    now = with_chain tag change chains

    abbrev indexes_now : Indexes
    indexes_now = with_index tag homes_now indexes

    new_same : (h : Home) → ¬ Contains (table_of cells h.vol) h.page → new h ≡ mid h
    new_same h off = off_tables_still cells (chains tag) mid new (was.together.on_tables tag) changes h off

    tells_of : (cs : List PlacedCell) → chains tag ≡ Some cs → TellsIndex index cs (change cs)
    tells_of = tells_at fileset places old chains was.together.files tag index

    place_now : (t : Tag) (k : ℕ) → place_at now t k ≡ place_at chains t k
    place_now = place_told fileset places old chains was.together.files tag index

    pages_stay : (t : Tag) (k : ℕ) (h : Home) → place_at chains t k ≡ At h → new h ≡ old h
    pages_stay t k h at =
        let file_page = was.together.file_pages t k h at in
        new_same h file_page.apart.off_table ∙ mid_same h (λ inside. was.apart tag t k h inside at) (not_home h file_page.apart.held)

    index_stays : (t : Tag) (h : Home) → same_tag t tag ≡ false → Contains (indexes t) h → new h ≡ old h
    index_stays t h other inside =
        let file_page = was.stand t h inside in
        new_same h file_page.apart.off_table
        ∙ mid_same h (λ here. true≢false (sym (same_tag_itself tag) ∙ ap (λ (u : Tag). same_tag u tag) (sym (was.once t tag h inside here)) ∙ other)) (not_home h file_page.apart.held)

    in_homes : (h : Home) → Contains homes_now h → (h ≡ home) ⊎ Contains (indexes tag) h
    in_homes h inside = ⊎_elim (λ here. inl (sym here)) (λ before. inr before) (in_inserted (indexes tag) number home h inside)

    home_page : (h : Home) → Contains homes_now h → IsFilePage space_now cells places h
    home_page h inside = ⊎_elim (λ here. subst (IsFilePage space_now cells places) (sym here) new_page) (λ before. page_taken h (was.stand tag h before)) (in_homes h inside)

    homes_same_now : (h : Home) → Contains homes_now h → new h ≡ mid h
    homes_same_now h inside = new_same h (home_page h inside).apart.off_table

    indexed_now : AreIndexHomes new (Some index.first) homes_now
    indexed_now = kept_same mid new (Some index.first) homes_now inserts.are homes_same_now

    shows_inserted : (cs : List PlacedCell) → chains tag ≡ Some cs → (file : Bitfile) → AreIndexHomes old (index_of cs) (indexes tag) → ShowsFile old cs file → ShowsFile new (change cs) (insert_index number (shown_index page) file)
    shows_inserted cs is file before shows =
        let told = tells_of cs is in
        record {
          what = what_still (attributes_of (change cs)) file (insert file.index number (shown_index page)) (subst (λ o. IsSomeAnd o (IsWhat file)) (sym told.attributes) shows.what);
          each = λ k. shows.each k ∙ sym (page_kept old new cs file.kind k (λ h at. pages_stay tag k h (ap (λ o. option_map_or (λ cs. places_of cs k) o Absent) is ∙ at))) ∙ page_by file.kind k;
          index = subst (λ o. AreIndexPages new o (insert file.index number (shown_index page))) (sym told.begins)
              (index_kept mid new (Some index.first) homes_now (insert file.index number (shown_index page)) inserts.are homes_same_now
              (subst (AreIndexPages mid (Some index.first)) (inserts.shown ∙ ap (λ xs. insert xs number (shown_index page)) (sym (index_is old (index_of cs) (indexes tag) file.index before shows.index))) (shown mid (Some index.first) homes_now inserts.are)));
        }
      where
        page_by : (kind : Kind) (k : ℕ) → shown_page new cs kind k ≡ shown_page new (change cs) kind k
        page_by Directory k = ap (page_there new) (sym ((tells_of cs is).places k))
        page_by File k = refl

    shows_tag : (file : Bitfile) → ShowsAt old (chains tag) (Some file) → ShowsAt new (option_map change (chains tag)) (Some (insert_index number (shown_index page) file))
    shows_tag file shows = by_chain (chains tag) refl shows (was.indexed tag)
      where
        by_removed : (cs : List PlacedCell) → chains tag ≡ Some cs → AreIndexHomes old (index_of cs) (indexes tag) → (b : Bool) → IsSomeAnd (cond b None (Some cs)) (λ live. ShowsFile old live file)
            → IsSomeAnd (cond b None (Some (change cs))) (λ live. ShowsFile new live (insert_index number (shown_index page) file))
        by_removed cs is before true shows = shows
        by_removed cs is before false shows = shows_inserted cs is file before shows

        by_chain : (o : Option (List PlacedCell)) → chains tag ≡ o → ShowsAt old o (Some file) → AreIndexHomes old (option_and_then index_of o) (indexes tag) → ShowsAt new (option_map change o) (Some (insert_index number (shown_index page) file))
        by_chain None is shows before = shows
        by_chain (Some cs) is shows before =
            subst (λ (b : Bool). IsSomeAnd (cond b None (Some (change cs))) (λ live. ShowsFile new live (insert_index number (shown_index page) file))) (sym (tells_of cs is).removed)
            (by_removed cs is before (is_removed cs) shows)

    -- whose a home of an index is
    owner : (t : Tag) (h : Home) → Contains (indexes_now t) h → ((h ≡ home) × (t ≡ tag)) ⊎ Contains (indexes t) h
    owner t h inside = by_tag (same_tag t tag) refl inside
      where
        by_tag : (b : Bool) → same_tag t tag ≡ b → Contains (cond b homes_now (indexes t)) h → ((h ≡ home) × (t ≡ tag)) ⊎ Contains (indexes t) h
        by_tag true same inside = ⊎_elim (λ here. inl (here, tags_same t tag same)) (λ before. inr (subst (λ (u : Tag). Contains (indexes u) h) (sym (tags_same t tag same)) before)) (in_homes h inside)
        by_tag false other inside = inr inside

    stand_now : (t : Tag) (h : Home) → Contains (indexes_now t) h → IsFilePage space_now cells places h
    stand_now t h inside = ⊎_elim (λ here. subst (IsFilePage space_now cells places) (sym here.0) new_page) (λ before. page_taken h (was.stand t h before)) (owner t h inside)

    apart_from : (s t : Tag) (k : ℕ) (h : Home) → Contains (indexes_now s) h → ¬ place_at now t k ≡ At h
    apart_from s t k h inside at =
        let before = sym (place_now t k) ∙ at in
        ⊎_elim (λ here. not_home h (was.together.file_pages t k h before).apart.held here.0) (λ mine. was.apart s t k h mine before) (owner s h inside)

    once_now : (s t : Tag) (h : Home) → Contains (indexes_now s) h → Contains (indexes_now t) h → s ≡ t
    once_now s t h one other = ⊎_elim
        (λ here. ⊎_elim (λ there. here.1 ∙ sym there.1) (λ theirs. absurd (not_home h (was.stand t h theirs).apart.held here.0)) (owner t h other))
        (λ mine. ⊎_elim (λ there. absurd (not_home h (was.stand s h mine).apart.held there.0)) (λ theirs. was.once s t h mine theirs) (owner t h other))
        (owner s h one)

    now_tag : now tag ≡ option_map change (chains tag)
    now_tag = chain_same tag change chains tag (same_tag_itself tag)

    index_tag : (o : Option (List PlacedCell)) → chains tag ≡ o → IsSomeAnd o (λ _. Unit {0}) → option_and_then index_of (option_map change o) ≡ Some index.first
    index_tag None is some = absurd some
    index_tag (Some cs) is some = (tells_of cs is).begins

    has_chain : (o : Option (List PlacedCell)) (file : Bitfile) → ShowsAt old o (Some file) → IsSomeAnd o (λ _. Unit {0})
    has_chain None file shows = shows
    has_chain (Some cs) file shows = tt

    inserted_with : (file : Bitfile) → files tag ≡ Some file → StandsShown fileset places space_now cells new now indexes_now (with_file tag (insert_index number (shown_index page) file) files)
    inserted_with file at =
        let shows = subst (ShowsAt old (chains tag)) at (was.shows tag) in
        let put = insert_index number (shown_index page) file in
        stands_beside fileset places places space space_now cells cells old new chains now indexes indexes_now files (with_file tag put files) was tag (chain_other tag change chains) (λ t other. ap (λ (b : Bool). cond b homes_now (indexes t)) other)
        (λ t other. ap (λ (b : Bool). cond b (Some put) (files t)) other) (λ t k h other there. pages_stay t k h there) index_stays together
        (subst (λ o. ShowsAt new o (with_file tag put files tag)) (sym now_tag) (subst (ShowsAt new (option_map change (chains tag))) (sym (ap (λ (b : Bool). cond b (Some put) (files tag)) (same_tag_itself tag))) (shows_tag file shows)))
        (subst (λ o. AreIndexHomes new o (indexes_now tag)) (sym (ap (option_and_then index_of) now_tag ∙ index_tag (chains tag) refl (has_chain (chains tag) file shows)))
        (subst (AreIndexHomes new (Some index.first)) (sym (ap (λ (b : Bool). cond b homes_now (indexes tag)) (same_tag_itself tag))) indexed_now))
        stand_now apart_from once_now

    pub inserted : IsDirectory files tag → StandsShown fileset places space_now cells new now indexes_now (with_change tag (insert_index number (shown_index page)) files)
    inserted directory = by_file (files tag) refl directory
      where
        by_file : (o : Option Bitfile) → files tag ≡ o → IsSomeAnd o (λ file. file.kind ≡ Directory) → StandsShown fileset places space_now cells new now indexes_now (option_map_or (λ file. with_file tag (insert_index number (shown_index page) file) files) o files)
        by_file None at directory = absurd directory
        by_file (Some file) at directory = inserted_with file at
