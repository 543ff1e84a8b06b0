-- A page of an index in place of another.
use Rattle.std.proofs.Common.{◌≡◌, ◌∙◌, ℕ, Bool, false, cond, Option, Some, None, IsSomeAnd, List, [], ◌∷◌, Contains, refl, sym, ap, subst}
use Rattle.std.proofs.lemmas.Bool.{true≢false}
use Rattle.std.specs.Option.{option_and_then, option_map_or}
use Rattle.index_pages.specs.domain_base.declared.place.Home.{Home}
use Rattle.index_pages.specs.domain_base.declared.place.Kind.TheVariants.{Directory}
use Rattle.index_pages.specs.domain_base.declared.place.Tag.{Tag}
use Rattle.index_pages.specs.page_store.Bitfiles.{Bitfile, Bitfiles, IsDirectory, put_index, same_tag, shown_index, with_change, with_entry, with_file}
use Rattle.index_pages.specs.page_store.Pages.{Pages}
use Rattle.index_pages.specs.metadata_cells.Chain.{PlacedCell}
use Rattle.index_pages.specs.tag_dirs.TagPage.{next_of}
use Rattle.index_pages.specs.tag_dirs.declared.dir.TagPlace.{TagPlace}
use Rattle.index_pages.specs.extent_maps.declared.run.PagePlace.TheVariants.{Absent, At}
use Rattle.index_pages.specs.free_cells.Cells.{Cells}
use Rattle.index_pages.specs.free_space.Spaces.{Spaces}
use Rattle.index_pages.specs.file_chains.Files.{places_of}
use Rattle.index_pages.specs.fileset_files.declared.attributes.Attributes.{Attributes}
use Rattle.index_pages.specs.fileset_files.Files.{Chains, attributes_of, is_removed, place_at}
use Rattle.index_pages.specs.fileset_files.Shown.{AreIndexPages, IsWhat, ShowsAt, ShowsFile, index_of}
use Rattle.index_pages.specs.fileset_files.Together.{AreTogether}
use Rattle.index_pages.proofs.OfFilesetFiles.OneChain.{same_tag_itself}
use Rattle.index_pages.specs.Changes.{PutsIndexPage}
use Rattle.index_pages.specs.Homes.{AreIndexHomes, next_at, shown_at}
use Rattle.index_pages.proofs.Changed.{is_there}
use Rattle.index_pages.proofs.Homes.{shown}
use Rattle.stored_set.proofs.Beside.{stands_beside}
use Rattle.stored_set.proofs.Kept.{live_map, page_kept}
use Rattle.stored_set.proofs.Together.{together_away}
use Rattle.stored_set.specs.Standing.{Indexes, StandsShown}

-- what a set shows of an index is what stands at its homes
pub index_is : (pages : Pages) (first : Option Home) (homes : List Home) (index : List (List ℕ)) → AreIndexHomes pages first homes → AreIndexPages pages first index → index ≡ shown_at pages homes
index_is pages first homes index are shows = one first homes index (shown_at pages homes) are shows (shown pages first homes are)
  where
    one : (first : Option Home) (homes : List Home) (xs ys : List (List ℕ)) → AreIndexHomes pages first homes → AreIndexPages pages first xs → AreIndexPages pages first ys → xs ≡ ys
    one None homes [] [] are x y = refl
    one None homes [] (q ∷ qs) are x y = absurd y
    one None homes (p ∷ ps) ys are x y = absurd x
    one (Some first) homes [] ys are x y = absurd x
    one (Some first) homes (p ∷ ps) [] are x y = absurd y
    one (Some first) [] (p ∷ ps) (q ∷ qs) are x y = absurd are
    one (Some first) (h ∷ homes) (p ∷ ps) (q ∷ qs) are x y =
        by_page (pages first) x y (subst (λ (o : Home). AreIndexHomes pages (next_at pages o) homes) (sym are.0) are.2) (λ next here a b. one next homes ps qs here a b)
      where
        by_page : (o : Option (List ℕ)) → IsSomeAnd o (λ stored. (p ≡ shown_index stored) × AreIndexPages pages (next_of stored) ps) → IsSomeAnd o (λ stored. (q ≡ shown_index stored) × AreIndexPages pages (next_of stored) qs)
            → AreIndexHomes pages (option_and_then next_of o) homes → ((next : Option Home) → AreIndexHomes pages next homes → AreIndexPages pages next ps → AreIndexPages pages next qs → ps ≡ qs) → p ∷ ps ≡ q ∷ qs
        by_page None x y are later = absurd x
        by_page (Some stored) x y are later = λ i. (x.0 ∙ sym y.0) i ∷ later (next_of stored) are x.1 y.1 i

-- a file with another index is what it was
pub what_still : (o : Option Attributes) (file : Bitfile) (index : List (List ℕ)) → IsSomeAnd o (IsWhat file) → IsSomeAnd o (IsWhat (record file { index = index }))
what_still None file index is = is
what_still (Some a) file index is = record { kind = is.kind; uid = is.uid; gid = is.gid; links = is.links }

module _ (fileset : ℕ) (places : List TagPlace) (space : Spaces) (cells : Cells) (old new : Pages) (chains : Chains) (indexes : Indexes) (files : Bitfiles) (was : StandsShown fileset places space cells old chains indexes files)
    (tag : Tag) (number : ℕ) (page : List ℕ) (puts : PutsIndexPage (option_and_then index_of (chains tag)) number page old new (indexes tag)) where
  at_tag : {X : Type 0} (x y : X) → cond (same_tag tag tag) x y ≡ x
  at_tag x y = ap (λ (b : Bool). cond b x y) (same_tag_itself tag)

  -- only a page of that index changes
  same : (h : Home) → ¬ Contains (indexes tag) h → new h ≡ old h
  same h off = puts.others h (λ at. off (is_there (indexes tag) number h at))

  page_same : (t : Tag) (k : ℕ) (h : Home) → place_at chains t k ≡ At h → new h ≡ old h
  page_same t k h at = same h (λ inside. was.apart tag t k h inside at)

  index_same : (t : Tag) (h : Home) → same_tag t tag ≡ false → Contains (indexes t) h → new h ≡ old h
  index_same t h other inside = same h (λ here. true≢false (sym (same_tag_itself tag) ∙ ap (λ (u : Tag). same_tag u tag) (sym (was.once t tag h inside here)) ∙ other))

  shows_put : (file : Bitfile) → ShowsAt old (chains tag) (Some file) → ShowsAt new (chains tag) (Some (put_index number (shown_index page) file))
  shows_put file shows = by_chain (chains tag) refl shows (was.indexed tag) puts.are
    where
      by_chain : (o : Option (List PlacedCell)) → chains tag ≡ o → ShowsAt old o (Some file) → AreIndexHomes old (option_and_then index_of o) (indexes tag) → AreIndexHomes new (option_and_then index_of o) (indexes tag) → ShowsAt new o (Some (put_index number (shown_index page) file))
      by_chain None is shows before after = shows
      by_chain (Some cs) is shows before after = live_map (is_removed cs) (λ cs. ShowsFile old cs file) (λ cs. ShowsFile new cs (put_index number (shown_index page) file)) cs
          (λ was_shown. record {
            what = what_still (attributes_of cs) file (with_entry number (shown_index page) file.index) was_shown.what;
            each = λ k. was_shown.each k ∙ sym (page_kept old new cs file.kind k (λ h at. page_same tag k h (ap (λ o. option_map_or (λ cs. places_of cs k) o Absent) is ∙ at)));
            index = subst (AreIndexPages new (index_of cs)) (puts.shown ∙ ap (with_entry number (shown_index page)) (sym (index_is old (index_of cs) (indexes tag) file.index before was_shown.index))) (shown new (index_of cs) (indexes tag) after);
          }) shows

  together_now : AreTogether fileset places space cells new chains
  together_now = together_away old new cells (λ h on. same h (λ inside. (was.stand tag h inside).apart.off_table on)) fileset places space chains (λ h has. same h (λ inside. true≢false (sym has ∙ (was.stand tag h inside).no_tags))) was.together

  put_with : (file : Bitfile) → files tag ≡ Some file → StandsShown fileset places space cells new chains indexes (with_file tag (put_index number (shown_index page) file) files)
  put_with file at =
      stands_beside fileset places places space space cells cells old new chains chains indexes indexes files (with_file tag (put_index number (shown_index page) file) files) was tag (λ t other. refl) (λ t other. refl)
      (λ t other. ap (λ (b : Bool). cond b (Some (put_index number (shown_index page) file)) (files t)) other) (λ t k h other there. page_same t k h there) index_same together_now
      (subst (ShowsAt new (chains tag)) (sym (at_tag (Some (put_index number (shown_index page) file)) (files tag))) (shows_put file (subst (ShowsAt old (chains tag)) at (was.shows tag)))) puts.are was.stand was.apart was.once

  pub put : IsDirectory files tag → StandsShown fileset places space cells new chains indexes (with_change tag (put_index number (shown_index page)) files)
  put directory = by_file (files tag) refl directory
    where
      by_file : (o : Option Bitfile) → files tag ≡ o → IsSomeAnd o (λ file. file.kind ≡ Directory) → StandsShown fileset places space cells new chains indexes (option_map_or (λ file. with_file tag (put_index number (shown_index page) file) files) o files)
      by_file None at directory = absurd directory
      by_file (Some file) at directory = put_with file at
