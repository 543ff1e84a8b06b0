-- A directory that gets one page more.
use Rattle.std.proofs.Common.{◌≡◌, ◌∙◌, ◌≤◌, ℕ, Bool, true, false, cond, nat_eq, Option, Some, None, IsSomeAnd, List, [], ◌∷◌, Contains, length, slice_get, refl, sym, ap, subst, arith}
use Rattle.std.proofs.lemmas.Bool.{both_ways, eq-eqb, eqb-true, true≢false}
use Rattle.std.specs.Option.{option_and_then, option_map, option_map_or}
use Rattle.index_pages.specs.domain_base.declared.place.Home.{Home}
use Rattle.index_pages.specs.domain_base.declared.place.Kind.TheVariants.{Directory}
use Rattle.index_pages.specs.domain_base.declared.place.Tag.{Tag}
use Rattle.index_pages.specs.domain_base.declared.version.Version.{Version}
use Rattle.index_pages.specs.page_store.Bitfiles.{Bitfile, Bitfiles, IsDirectory, count_pages, put_page, same_tag, with_change, with_entry, with_file}
use Rattle.index_pages.specs.page_store.Pages.{Pages, with_page}
use Rattle.index_pages.specs.metadata_cells.Chain.{PlacedCell}
use Rattle.index_pages.specs.tag_dirs.Directory.{has_home}
use Rattle.index_pages.specs.tag_dirs.declared.dir.TagPlace.{TagPlace}
use Rattle.index_pages.specs.extent_maps.declared.run.PagePlace.TheVariants.{Absent, At}
use Rattle.index_pages.specs.extent_maps.Runs.{with_place}
use Rattle.index_pages.specs.free_cells.Cells.{Cells, table_of}
use Rattle.index_pages.specs.free_space.VolumeSpace.{with_page as space_with}
use Rattle.index_pages.specs.free_space.Spaces.{IsHeld, Spaces, change_volume}
use Rattle.index_pages.specs.file_chains.FileChanges.{SameFirst}
use Rattle.index_pages.specs.file_chains.Files.{places_of}
use Rattle.index_pages.specs.file_chains.MapChanges.{LeavesOffTables}
use Rattle.index_pages.proofs.OfFileChains.Spaces.{not_held}
use Rattle.index_pages.specs.fileset_files.declared.attributes.Attributes.{Attributes}
use Rattle.index_pages.specs.fileset_files.Changes.{with_chain}
use Rattle.index_pages.specs.fileset_files.Files.{Chains, attributes_in, attributes_of, first_record, is_removed, place_at, says_remove}
use Rattle.index_pages.specs.fileset_files.Pages.{ChangesFile, TakesHome}
use Rattle.index_pages.specs.fileset_files.Shown.{AreIndexPages, IsWhat, ShowsAt, ShowsFile, index_in, index_of, page_there, shown_page}
use Rattle.index_pages.specs.fileset_files.Together.{AreTogether, IsFilePage}
use Rattle.index_pages.proofs.OfFilesetFiles.Grown.{apart_grows, apart_taken}
use Rattle.index_pages.proofs.OfFilesetFiles.OneChain.{chain_other, chain_same, same_tag_itself}
use Rattle.index_pages.proofs.OfFilesetFiles.OneFile.{tags_same}
use Rattle.index_pages.proofs.OfFilesetFiles.Placed.{found_again}
use Rattle.index_pages.specs.Homes.{AreIndexHomes}
use Rattle.index_pages.proofs.Homes.{kept_same}
use Rattle.stored_set.proofs.Beside.{stands_beside}
use Rattle.stored_set.proofs.Kept.{index_kept, page_kept}
use Rattle.stored_set.proofs.Together.{together_away}
use Rattle.stored_set.proofs.Written.{at_home, away, entry_kept, entry_put}
use Rattle.stored_set.specs.Standing.{Indexes, StandsShown}

-- what the first cell says beside where pages stand
record SaysAgain (before after : List PlacedCell) : Type 0 where
  attributes : first_record 1 after ≡ first_record 1 before
  pending : first_record 6 after ≡ first_record 6 before
  index : first_record 9 after ≡ first_record 9 before

says_again : (before after : List PlacedCell) → SameFirst before after → SaysAgain before after
says_again [] after first = absurd first
says_again (a ∷ chain) [] first = absurd first
says_again (a ∷ chain) (b ∷ after) first = record {
  attributes = found_again 1 refl a.cell.records b.cell.records first.2;
  pending = found_again 6 refl a.cell.records b.cell.records first.2;
  index = found_again 9 refl a.cell.records b.cell.records first.2;
}

module _ (fileset prefer : ℕ) (places : List TagPlace) (space space_now : Spaces) (cells cells_now : Cells) (old mid : Pages) (chains : Chains) (indexes : Indexes) (files : Bitfiles) (was : StandsShown fileset places space cells old chains indexes files)
    (tag : Tag) (number : ℕ) (home : Home) (page : List ℕ) (version : Version) (chain : List PlacedCell) (is : chains tag ≡ Some chain) (changes : ChangesFile fileset places tag number (At home) version chains space_now cells cells_now old mid chain)
    (takes : TakesHome prefer number home chain space space_now cells cells_now old) (elsewhere : LeavesOffTables cells_now old mid) where
  abbrev after : List PlacedCell
  after = changes.change.changes.after

  abbrev now : Chains
  now = with_chain tag (λ _. after) chains

  abbrev new : Pages
  new = with_page home page mid

  now_tag : now tag ≡ Some after
  now_tag = chain_same tag (λ _. after) chains tag (same_tag_itself tag) ∙ ap (λ (o : Option (List PlacedCell)). option_map (λ _. after) o) is

  here_now : (k : ℕ) → place_at now tag k ≡ with_place number (At home) (places_of chain) k
  here_now k = ap (λ o. option_map_or (λ cs. places_of cs k) o Absent) now_tag ∙ changes.change.changes.at k

  home_now : place_at now tag number ≡ At home
  home_now = here_now number ∙ ap (λ (b : Bool). cond b (At home) (places_of chain number)) (eq-eqb number number refl)

  home_page : IsFilePage space_now cells_now places home
  home_page = changes.together.file_pages tag number home home_now

  place_other : (t : Tag) (k : ℕ) → same_tag t tag ≡ false → place_at now t k ≡ place_at chains t k
  place_other t k other = ap (λ o. option_map_or (λ cs. places_of cs k) o Absent) (chain_other tag (λ _. after) chains t other)

  not_tag : (t : Tag) → same_tag t tag ≡ false → ¬ t ≡ tag
  not_tag t other e = true≢false (sym (same_tag_itself tag) ∙ ap (λ (u : Tag). same_tag u tag) (sym e) ∙ other)

  page_same : (h : Home) → IsFilePage space_now cells_now places h → ¬ h ≡ home → new h ≡ old h
  page_same h file_page apart = away mid new home page refl h apart ∙ elsewhere h file_page.apart.off_table

  pages_stay : (t : Tag) (k : ℕ) (h : Home) → same_tag t tag ≡ false → place_at chains t k ≡ At h → new h ≡ old h
  pages_stay t k h other at =
      let there = place_other t k other ∙ at in
      page_same h (changes.together.file_pages t k h there) (λ e. not_tag t other (changes.together.once t tag k number home (there ∙ ap At e) home_now).0)

  not_home : (h : Home) → IsFilePage space cells places h → ¬ h ≡ home
  not_home h file_page e = not_held space home.vol home.page takes.free (subst (λ (x : Home). IsHeld space x.vol x.page) e file_page.apart.held)

  index_page : (t : Tag) (h : Home) → Contains (indexes t) h → IsFilePage space_now cells_now places h
  index_page t h inside = record {
    apart = apart_grows number (At home) chain prefer (change_volume (space_with home.page) space home.vol) space_now cells cells_now old takes.taken h (apart_taken space cells home h (was.stand t h inside).apart);
    no_tags = (was.stand t h inside).no_tags;
  }

  index_stays : (t : Tag) (h : Home) → Contains (indexes t) h → new h ≡ old h
  index_stays t h inside = page_same h (index_page t h inside) (not_home h (was.stand t h inside))

  says : SaysAgain chain after
  says = says_again chain after changes.change.changes.first

  removed_again : is_removed after ≡ is_removed chain
  removed_again = ap (λ o. option_map_or says_remove o false) says.pending

  index_again : index_of after ≡ index_of chain
  index_again = ap (option_and_then index_in) says.index

  indexed_before : AreIndexHomes old (index_of chain) (indexes tag)
  indexed_before = subst (λ o. AreIndexHomes old (option_and_then index_of o) (indexes tag)) is (was.indexed tag)

  -- another page of the directory
  other_place : (k : ℕ) → nat_eq k number ≡ false → places_of after k ≡ places_of chain k
  other_place k other = changes.change.changes.at k ∙ ap (λ (b : Bool). cond b (At home) (places_of chain k)) other

  what_again : (file : Bitfile) → IsSomeAnd (attributes_of chain) (IsWhat file) → IsSomeAnd (attributes_of after) (IsWhat (put_page number page file))
  what_again file what = by_what (attributes_of after) (subst (λ o. IsSomeAnd (option_and_then attributes_in o) (IsWhat file)) (sym says.attributes) what)
    where
      by_what : (o : Option Attributes) → IsSomeAnd o (IsWhat file) → IsSomeAnd o (IsWhat (put_page number page file))
      by_what None what = what
      by_what (Some a) what = record { kind = what.kind; uid = what.uid; gid = what.gid; links = what.links }

  shows_added : (file : Bitfile) → file.kind ≡ Directory → number ≡ length file.pages → ShowsFile old chain file → ShowsFile new after (put_page number page file)
  shows_added file directory last shows = record {
    what = what_again file shows.what;
    each = λ k. by_number k (nat_eq k number) refl;
    index = subst (λ o. AreIndexPages new o file.index) (sym index_again) (index_kept old new (index_of chain) (indexes tag) file.index indexed_before (index_stays tag) shows.index);
  }
    where
      within : number ≤ length file.pages
      within = omega (arith, last)

      by_number : (k : ℕ) (b : Bool) → nat_eq k number ≡ b → slice_get (with_entry number page file.pages) k ≡ shown_page new after file.kind k
      by_number k true same =
          let e = eqb-true k number same in
          ap (slice_get (with_entry number page file.pages)) e ∙ entry_put number page file.pages within ∙ sym (at_home mid new home page refl)
          ∙ ap (page_there new) (sym (changes.change.changes.at k ∙ ap (λ (b : Bool). cond b (At home) (places_of chain k)) same)) ∙ ap (λ kind. shown_page new after kind k) (sym directory)
      by_number k false other =
          let apart : ¬ k ≡ number = λ e. both_ways (nat_eq k number) other (eq-eqb k number e) in
          entry_kept number page file.pages within k apart ∙ shows.each k ∙ sym (page_kept old new chain file.kind k (kept_at k other))
          ∙ ap (λ kind. shown_page new chain kind k) directory ∙ ap (page_there new) (sym (other_place k other)) ∙ ap (λ kind. shown_page new after kind k) (sym directory)
        where
          kept_at : (k : ℕ) → nat_eq k number ≡ false → (h : Home) → places_of chain k ≡ At h → new h ≡ old h
          kept_at k other h at =
              let there : place_at now tag k ≡ At h = here_now k ∙ ap (λ (b : Bool). cond b (At home) (places_of chain k)) other ∙ at in
              page_same h (changes.together.file_pages tag k h there) (λ e. both_ways (nat_eq k number) other (eq-eqb k number (changes.together.once tag tag k number home (there ∙ ap At e) home_now).1))

  shows_tag : (file : Bitfile) → file.kind ≡ Directory → number ≡ length file.pages → ShowsAt old (chains tag) (Some file) → ShowsAt new (now tag) (Some (put_page number page file))
  shows_tag file directory last shows =
      subst (λ o. ShowsAt new o (Some (put_page number page file))) (sym now_tag)
      (subst (λ (b : Bool). IsSomeAnd (cond b None (Some after)) (λ live. ShowsFile new live (put_page number page file))) (sym removed_again)
      (by_removed (is_removed chain) (subst (λ o. ShowsAt old o (Some file)) is shows)))
    where
      by_removed : (b : Bool) → IsSomeAnd (cond b None (Some chain)) (λ live. ShowsFile old live file) → IsSomeAnd (cond b None (Some after)) (λ live. ShowsFile new live (put_page number page file))
      by_removed true shows = shows
      by_removed false shows = shows_added file directory last shows

  together_now : AreTogether fileset places space_now cells_now new now
  together_now =
      together_away mid new cells_now (λ h on. away mid new home page refl h (λ e. home_page.apart.off_table (subst (λ (x : Home). Contains (table_of cells_now x.vol) x.page) e on))) fileset places space_now now
      (λ h has. away mid new home page refl h (λ e. true≢false (sym has ∙ ap (has_home places) e ∙ home_page.no_tags))) changes.together

  apart_now : (s t : Tag) (k : ℕ) (h : Home) → Contains (indexes s) h → ¬ place_at now t k ≡ At h
  apart_now s t k h inside at = by_tag (same_tag t tag) refl
    where
      at_same : (b : Bool) → nat_eq k number ≡ b → place_at now tag k ≡ At h → ⊥
      at_same true same at = not_home h (was.stand s h inside) (home_of (sym at ∙ here_now k ∙ ap (λ (b : Bool). cond b (At home) (places_of chain k)) same))
        where
          home_of : At h ≡ At home → h ≡ home
          home_of e = cc
      at_same false other at =
          was.apart s tag k h inside (ap (λ o. option_map_or (λ cs. places_of cs k) o Absent) is ∙ sym (ap (λ (b : Bool). cond b (At home) (places_of chain k)) other) ∙ sym (here_now k) ∙ at)

      by_tag : (b : Bool) → same_tag t tag ≡ b → ⊥
      by_tag true same = at_same (nat_eq k number) refl (subst (λ (u : Tag). place_at now u k ≡ At h) (tags_same t tag same) at)
      by_tag false other = was.apart s t k h inside (sym (place_other t k other) ∙ at)

  added_with : (file : Bitfile) → files tag ≡ Some file → file.kind ≡ Directory → number ≡ length file.pages → StandsShown fileset places space_now cells_now new now indexes (with_file tag (put_page number page file) files)
  added_with file at directory last =
      stands_beside fileset places places space space_now cells cells_now old new chains now indexes indexes files (with_file tag (put_page number page file) files) was tag (chain_other tag (λ _. after) chains) (λ t other. refl)
      (λ t other. ap (λ (b : Bool). cond b (Some (put_page number page file)) (files t)) other) pages_stay (λ t h other. index_stays t h) together_now
      (subst (ShowsAt new (now tag)) (sym (ap (λ (b : Bool). cond b (Some (put_page number page file)) (files tag)) (same_tag_itself tag))) (shows_tag file directory last (subst (ShowsAt old (chains tag)) at (was.shows tag))))
      (subst (λ o. AreIndexHomes new (option_and_then index_of o) (indexes tag)) (sym now_tag) (subst (λ o. AreIndexHomes new o (indexes tag)) (sym index_again) (kept_same old new (index_of chain) (indexes tag) indexed_before (index_stays tag))))
      index_page apart_now was.once

  pub added : IsDirectory files tag → number ≡ count_pages files tag → StandsShown fileset places space_now cells_now new now indexes (with_change tag (put_page number page) files)
  added directory last = by_file (files tag) refl directory last
    where
      by_file : (o : Option Bitfile) → files tag ≡ o → IsSomeAnd o (λ file. file.kind ≡ Directory) → number ≡ option_map_or (λ (file : Bitfile). length file.pages) o 0
          → StandsShown fileset places space_now cells_now new now indexes (option_map_or (λ file. with_file tag (put_page number page file) files) o files)
      by_file None at directory last = absurd directory
      by_file (Some file) at directory last = added_with file at directory last
