-- In which directory one stands is said anew: a set shows the same.
use Rattle.std.proofs.Common.{◌≡◌, ◌∙◌, ℕ, Bool, true, false, cond, Option, Some, None, IsSomeAnd, List, [], ◌∷◌, Contains, refl, sym, ap, subst, arith}
use Rattle.std.specs.Option.{option_and_then, option_map, option_map_or}
use Rattle.domain_memory.specs.domain_base.declared.place.CellAt.{CellAt}
use Rattle.domain_memory.specs.domain_base.declared.place.Home.{Home}
use Rattle.domain_memory.specs.domain_base.declared.place.Kind.{Kind}
use Rattle.domain_memory.specs.domain_base.declared.place.Kind.TheVariants.{Directory, File}
use Rattle.domain_memory.specs.domain_base.declared.place.Tag.{Tag}
use Rattle.domain_memory.specs.page_store.Bitfiles.{Bitfile, Bitfiles, same_tag}
use Rattle.domain_memory.specs.page_store.Pages.{Pages}
use Rattle.domain_memory.specs.cell_records.declared.record.Record.{Record}
use Rattle.domain_memory.specs.cell_records.declared.record.Record.TheVariants as written
use Rattle.domain_memory.specs.metadata_cells.Chain.{PlacedCell}
use Rattle.domain_memory.specs.tag_dirs.declared.dir.TagPlace.{TagPlace}
use Rattle.domain_memory.specs.extent_maps.declared.run.PagePlace.TheVariants.{Absent, At}
use Rattle.domain_memory.specs.extent_maps.Runs.{place_of}
use Rattle.domain_memory.specs.free_cells.Cells.{Cells}
use Rattle.domain_memory.specs.free_space.Spaces.{Spaces}
use Rattle.domain_memory.specs.file_chains.Files.{IsFile, places_of}
use Rattle.domain_memory.specs.fileset_files.Changes.{ChangesFirst, says_parent, with_chain, with_first}
use Rattle.domain_memory.specs.fileset_files.Files.{Chains, attributes_in, attributes_of, is_removed, place_at, says_remove}
use Rattle.domain_memory.specs.fileset_files.Shown.{AreIndexPages, IsWhat, ShowsAt, ShowsFile, index_in, index_of, page_there, shown_page}
use Rattle.domain_memory.specs.fileset_files.State.{FileState, States, state_of, states_of, with_changed}
use Rattle.domain_memory.specs.fileset_files.Together.{AreTogether}
use Rattle.domain_memory.proofs.OfFilesetFiles.FirstCell.{find_other}
use Rattle.domain_memory.proofs.OfFilesetFiles.FirstTogether.{parent_keeps, runs_kept}
use Rattle.domain_memory.proofs.OfFilesetFiles.OneChain.{chain_other, chain_same, same_tag_itself}
use Rattle.domain_memory.proofs.OfFilesetFiles.OneFile.{tags_same}
use Rattle.domain_memory.proofs.OfFilesetFiles.FirstCells.{parent_said}
use Rattle.domain_memory.proofs.OfFilesetFiles.Parts.{file_at, states_changed}
use Rattle.domain_memory.specs.fileset_files.States.{put_in}
use Rattle.domain_memory.specs.index_pages.Homes.{AreIndexHomes}
use Rattle.domain_memory.proofs.OfIndexPages.Homes.{kept_same}
use Rattle.domain_memory.proofs.OfStoredSet.Beside.{stands_beside}
use Rattle.domain_memory.proofs.OfStoredSet.FirstTells.{off_tables_still}
use Rattle.domain_memory.proofs.OfStoredSet.Kept.{index_kept, page_kept}
use Rattle.domain_memory.specs.stored_set.Standing.{StandsShown}
use Rattle.domain_memory.specs.stored_set.Whole.{AreWholeDirectories, IsWholeAt, IsWholeDirectory}
use Rattle.domain_memory.specs.stored_set.Sets.{StandsAsSet}

-- what a first cell says besides in which directory it stands
pub record SaysElse (before after : List PlacedCell) : Type 0 where
  pub removed : is_removed after ≡ is_removed before
  pub attributes : attributes_of after ≡ attributes_of before
  pub begins : index_of after ≡ index_of before
  pub places : (k : ℕ) → places_of after k ≡ places_of before k

says_else : (parent : Tag) (pages : Pages) (cs : List PlacedCell) (at : CellAt) → IsFile pages at cs → SaysElse cs (with_first (says_parent parent) cs)
says_else parent pages [] at is = absurd is
says_else parent pages (first ∷ rest) at is =
    let value : Option Record = Some (written.Parent parent.slot parent.seq) in
    record {
      removed = ap (λ o. option_map_or says_remove o false) (find_other 10 6 value first.cell.records (λ e. omega (arith, e)) refl);
      attributes = ap (option_and_then attributes_in) (find_other 10 1 value first.cell.records (λ e. omega (arith, e)) refl);
      begins = ap (option_and_then index_in) (find_other 10 9 value first.cell.records (λ e. omega (arith, e)) refl);
      places = λ k. ap (λ rs. place_of rs k) (runs_kept (says_parent parent) first rest (parent_keeps pages first rest is.1 parent));
    }

-- directories are as whole as before
whole_put_in : (states : States) (files : Bitfiles) (tag parent : Tag) → AreWholeDirectories states files → AreWholeDirectories (with_changed tag (put_in parent) states) files
whole_put_in states files tag parent was t = by_tag (same_tag t tag)
  where
    by_state : (file : Bitfile) (state : Option FileState) → IsSomeAnd state (IsWholeDirectory file) → IsSomeAnd (option_map (put_in parent) state) (IsWholeDirectory file)
    by_state file None whole = whole
    by_state file (Some state) whole = record { fits = whole.fits; size = whole.size; keeps = whole.keeps; none = whole.none; index_fits = whole.index_fits; entries = whole.entries }

    by_file : (o : Option Bitfile) (state : Option FileState) → IsWholeAt state o → IsWholeAt (option_map (put_in parent) state) o
    by_file None state whole = whole
    by_file (Some file) state whole = λ directory. by_state file state (whole directory)

    by_tag : (b : Bool) → IsWholeAt (cond b (option_map (put_in parent) (states t)) (states t)) (files t)
    by_tag true = by_file (files t) (states t) (was t)
    by_tag false = was t

module _ (fileset : ℕ) (places : List TagPlace) (space : Spaces) (cells : Cells) (old new : Pages) (set : Bitfiles) (stood : StandsAsSet fileset places space cells old set) (tag parent : Tag)
    (changes : ChangesFirst (stood.chains tag) old new) (together : AreTogether fileset places space cells new (with_chain tag (with_first (says_parent parent)) stood.chains)) where
  abbrev was : StandsShown fileset places space cells old stood.chains stood.indexes set
  was = stood.stands

  abbrev chains : Chains
  chains = stood.chains

  abbrev change : List PlacedCell → List PlacedCell
  change = with_first (says_parent parent)

  abbrev now : Chains
  now = with_chain tag change chains

  else_of : (cs : List PlacedCell) → chains tag ≡ Some cs → SaysElse cs (change cs)
  else_of cs is = let f = file_at fileset places old chains was.together.files tag cs is in says_else parent old cs f.at f.is_file

  page_stays : (t : Tag) (k : ℕ) (h : Home) → place_at chains t k ≡ At h → new h ≡ old h
  page_stays t k h at = off_tables_still cells (chains tag) old new (was.together.on_tables tag) changes h (was.together.file_pages t k h at).apart.off_table

  index_stays : (t : Tag) (h : Home) → Contains (stood.indexes t) h → new h ≡ old h
  index_stays t h inside = off_tables_still cells (chains tag) old new (was.together.on_tables tag) changes h (was.stand t h inside).apart.off_table

  shows_again : (cs : List PlacedCell) → chains tag ≡ Some cs → (file : Bitfile) → AreIndexHomes old (index_of cs) (stood.indexes tag) → ShowsFile old cs file → ShowsFile new (change cs) file
  shows_again cs is file before shows = record {
    what = subst (λ o. IsSomeAnd o (IsWhat file)) (sym (else_of cs is).attributes) shows.what;
    each = λ k. shows.each k ∙ sym (page_kept old new cs file.kind k (λ h at. page_stays tag k h (ap (λ o. option_map_or (λ cs. places_of cs k) o Absent) is ∙ at))) ∙ page_by file.kind k;
    index = subst (λ o. AreIndexPages new o file.index) (sym (else_of cs is).begins) (index_kept old new (index_of cs) (stood.indexes tag) file.index before (index_stays tag) shows.index);
  }
    where
      page_by : (kind : Kind) (k : ℕ) → shown_page new cs kind k ≡ shown_page new (change cs) kind k
      page_by Directory k = ap (page_there new) (sym ((else_of cs is).places k))
      page_by File k = refl

  shows_tag : (file : Option Bitfile) → ShowsAt old (chains tag) file → ShowsAt new (option_map change (chains tag)) file
  shows_tag file shows = by_chain (chains tag) refl file shows (was.indexed tag)
    where
      by_removed : (cs : List PlacedCell) → chains tag ≡ Some cs → (file : Bitfile) → AreIndexHomes old (index_of cs) (stood.indexes tag) → (b : Bool) → IsSomeAnd (cond b None (Some cs)) (λ live. ShowsFile old live file)
          → IsSomeAnd (cond b None (Some (change cs))) (λ live. ShowsFile new live file)
      by_removed cs is file before true shows = shows
      by_removed cs is file before false shows = shows_again cs is file before shows

      by_chain : (o : Option (List PlacedCell)) → chains tag ≡ o → (file : Option Bitfile) → ShowsAt old o file → AreIndexHomes old (option_and_then index_of o) (stood.indexes tag) → ShowsAt new (option_map change o) file
      by_chain None is None shows before = shows
      by_chain None is (Some file) shows before = shows
      by_chain (Some cs) is None shows before = (λ i. cond ((else_of cs is).removed i) None ((else_of cs is).attributes i)) ∙ shows
      by_chain (Some cs) is (Some file) shows before = subst (λ (b : Bool). IsSomeAnd (cond b None (Some (change cs))) (λ live. ShowsFile new live file)) (sym (else_of cs is).removed) (by_removed cs is file before (is_removed cs) shows)

  now_tag : now tag ≡ option_map change (chains tag)
  now_tag = chain_same tag change chains tag (same_tag_itself tag)

  index_tag : (o : Option (List PlacedCell)) → chains tag ≡ o → option_and_then index_of (option_map change o) ≡ option_and_then index_of o
  index_tag None is = refl
  index_tag (Some cs) is = (else_of cs is).begins

  place_same : (t : Tag) (k : ℕ) → place_at now t k ≡ place_at chains t k
  place_same t k = by_tag (same_tag t tag) refl
    where
      by_chain : (o : Option (List PlacedCell)) → chains tag ≡ o → option_map_or (λ cs. places_of cs k) (option_map change o) Absent ≡ option_map_or (λ cs. places_of cs k) o Absent
      by_chain None is = refl
      by_chain (Some cs) is = (else_of cs is).places k

      by_tag : (b : Bool) → same_tag t tag ≡ b → place_at now t k ≡ place_at chains t k
      by_tag true same =
          ap (λ o. option_map_or (λ cs. places_of cs k) o Absent) (chain_same tag change chains t same) ∙ ap (λ (u : Tag). option_map_or (λ cs. places_of cs k) (option_map change (chains u)) Absent) (tags_same t tag same)
          ∙ by_chain (chains tag) refl ∙ ap (λ (u : Tag). place_at chains u k) (sym (tags_same t tag same))
      by_tag false other = ap (λ o. option_map_or (λ cs. places_of cs k) o Absent) (chain_other tag change chains t other)

  stands_still : StandsShown fileset places space cells new now stood.indexes set
  stands_still =
      stands_beside fileset places places space space cells cells old new chains now stood.indexes stood.indexes set set was tag (chain_other tag change chains) (λ t other. refl) (λ t other. refl) (λ t k h other at. page_stays t k h at) (λ t h other inside. index_stays t h inside) together
      (subst (λ o. ShowsAt new o (set tag)) (sym now_tag) (shows_tag (set tag) (was.shows tag)))
      (subst (λ o. AreIndexHomes new o (stood.indexes tag)) (sym (ap (option_and_then index_of) now_tag ∙ index_tag (chains tag) refl)) (kept_same old new (option_and_then index_of (chains tag)) (stood.indexes tag) (was.indexed tag) (index_stays tag)))
      was.stand (λ s t k h inside at. was.apart s t k h inside (sym (place_same t k) ∙ at)) was.once

  put_states : states_of now ≡ with_changed tag (put_in parent) (states_of chains)
  put_states = states_changed tag change (put_in parent) chains (λ cs is. let f = file_at fileset places old chains was.together.files tag cs is in by_cells cs f.at f.is_file)
    where
      by_cells : (cs : List PlacedCell) (at : CellAt) → IsFile old at cs → state_of (change cs) ≡ option_map (put_in parent) (state_of cs)
      by_cells [] at is = absurd is
      by_cells (first ∷ rest) at is = parent_said old first rest is.1 parent

  pub put_in_stands : StandsAsSet fileset places space cells new set
  put_in_stands = record {
    chains = now;
    indexes = stood.indexes;
    stands = stands_still;
    whole = subst (λ (s : States). AreWholeDirectories s set) (sym put_states) (whole_put_in (states_of chains) set tag parent stood.whole);
    bare = stood.bare;
    low = stood.low;
  }
