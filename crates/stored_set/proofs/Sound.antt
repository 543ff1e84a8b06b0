-- What is asked of each file of a set.
use Rattle.std.proofs.Common.{◌≡◌, ◌∙◌, ◌+◌, ◌^◌, ◌<◌, ◌≤◌, ℕ, zero, suc, Bool, true, false, cond, Option, Some, None, IfSome, IsSomeAnd, List, [], ◌∷◌, ◌++◌, length, take, drop, slice_get, refl, sym, ap, subst, arith, append_assoc, length-append, length-drop, length-take}
use Rattle.std.specs.Prelude.{All}
use Rattle.std.proofs.lemmas.List.Elements.{All-cons, All-nil}
use Rattle.std.specs.Option.{option_and_then, option_map, option_map_or, unwrap_or}
use Rattle.index_pages.specs.domain_base.Limits.{file_pages, max_links, page_bytes}
use Rattle.index_pages.specs.domain_base.Page.{length-zero_bytes, zero_bytes}
use Rattle.index_pages.specs.domain_base.declared.place.Home.{Home}
use Rattle.index_pages.specs.domain_base.declared.place.Kind.{Kind}
use Rattle.index_pages.specs.domain_base.declared.place.Kind.TheVariants.{Directory, File}
use Rattle.index_pages.specs.domain_base.declared.place.Tag.{Tag}
use Rattle.index_pages.specs.page_store.Bitfiles.{AreWholePages, Bitfile, Bitfiles, IsBitfile, shown_index}
use Rattle.index_pages.specs.page_store.Pages.{AreWhole, Pages}
use Rattle.index_pages.specs.metadata_cells.Chain.{PlacedCell}
use Rattle.index_pages.specs.tag_dirs.declared.dir.TagPlace.{TagPlace}
use Rattle.index_pages.specs.extent_maps.declared.run.PagePlace.{PagePlace}
use Rattle.index_pages.specs.extent_maps.declared.run.PagePlace.TheVariants.{Absent, At, Hole}
use Rattle.index_pages.specs.free_cells.Cells.{Cells}
use Rattle.index_pages.specs.free_space.Spaces.{Spaces}
use Rattle.index_pages.specs.file_chains.Files.{places_of}
use Rattle.index_pages.specs.fileset_files.declared.attributes.Attributes.{Attributes}
use Rattle.index_pages.specs.fileset_files.Files.{Chains, attributes_of, is_removed, of_live}
use Rattle.index_pages.specs.fileset_files.Shown.{IsWhat, ShowsAt, ShowsFile, index_of, page_there, shown_page}
use Rattle.index_pages.specs.Homes.{AreIndexHomes, IsIndexPage, shown_at}
use Rattle.index_pages.proofs.Changed.{good_numbered}
use Rattle.stored_set.proofs.IndexPut.{index_is}
use Rattle.stored_set.proofs.Entries.{shown_there}
use Rattle.stored_set.proofs.Lengthened.{HasLinks, links_fit}
use Rattle.stored_set.proofs.Sized.{IsAt, fits_here, index_fits_here}
use Rattle.stored_set.specs.Sets.{StandsAsSet}

none_is_some : {X : Type 0} (x : X) → None ≡ Some x → ⊥
none_is_some x e = cc

same_some : {X : Type 0} (x y : X) → Some x ≡ Some y → x ≡ y
same_some x y is = ap (λ o. option_map_or (λ z. z) o x) is

all_by_get : {X : Type 0} (P : X → Type 0) (xs : List X) → ((k : ℕ) (x : X) → slice_get xs k ≡ Some x → P x) → All P xs
all_by_get P [] each = All-nil P
all_by_get P (x ∷ xs) each = All-cons P x xs (each 0 x refl) (all_by_get P xs (λ k y is. each (suc k) y is))

shown_length : (page : List ℕ) → length page ≡ 8192 → length (shown_index page) ≡ 8192
shown_length page whole =
    let zeros = length-zero_bytes 8 in
    let tail = length-drop (8 + length (zero_bytes 8)) page in
    let end = length-append (zero_bytes 8) (drop (8 + length (zero_bytes 8)) page) in
    ap (λ (xs : List ℕ). length xs) (append_assoc (take 8 page) (zero_bytes 8) (drop (8 + length (zero_bytes 8)) page))
    ∙ length-append (take 8 page) (zero_bytes 8 ++ drop (8 + length (zero_bytes 8)) page) ∙ omega (arith, length-take 8 page, whole, zeros, tail, end)

module _ (fileset : ℕ) (places : List TagPlace) (space : Spaces) (cells : Cells) (pages : Pages) (set : Bitfiles) (whole : AreWhole pages) (was : StandsAsSet fileset places space cells pages set) (tag : Tag) (file : Bitfile) (is : set tag ≡ Some file) where
  -- its cells
  record Cells_of : Type 0 where
    cs : List PlacedCell
    chain : was.chains tag ≡ Some cs
    live : is_removed cs ≡ false
    shows : ShowsFile pages cs file

  cells_of : Cells_of
  cells_of = by_chain (was.chains tag) refl (subst (ShowsAt pages (was.chains tag)) is (was.stands.shows tag))
    where
      by_removed : (cs : List PlacedCell) → was.chains tag ≡ Some cs → (b : Bool) → is_removed cs ≡ b → IsSomeAnd (cond b None (Some cs)) (λ live. ShowsFile pages live file) → Cells_of
      by_removed cs at true removed shows = absurd shows
      by_removed cs at false removed shows = record { cs = cs; chain = at; live = removed; shows = shows }

      by_chain : (o : Option (List PlacedCell)) → was.chains tag ≡ o → ShowsAt pages o (Some file) → Cells_of
      by_chain None at shows = absurd shows
      by_chain (Some cs) at shows = by_removed cs at (is_removed cs) refl shows

  -- a page at a place
  page_whole : (place : PagePlace) (page : List ℕ) → page_there pages place ≡ Some page → length page ≡ page_bytes
  page_whole (At home) page at = subst (λ o. IfSome o (λ page. length page ≡ page_bytes)) at (whole home)
  page_whole Hole page at = absurd (none_is_some page at)
  page_whole Absent page at = absurd (none_is_some page at)

  pages_whole : AreWholePages file.pages
  pages_whole = all_by_get (λ page. length page ≡ page_bytes) file.pages (λ k page at. by_kind file.kind k page (sym (cells_of.shows.each k) ∙ at))
    where
      by_kind : (kind : Kind) (k : ℕ) (page : List ℕ) → shown_page pages cells_of.cs kind k ≡ Some page → length page ≡ page_bytes
      by_kind Directory k page at = page_whole (places_of cells_of.cs k) page at
      by_kind File k page at = absurd (none_is_some page at)

  -- a page of its index
  homes : AreIndexHomes pages (index_of cells_of.cs) (was.indexes tag)
  homes = subst (λ o. AreIndexHomes pages (option_and_then index_of o) (was.indexes tag)) cells_of.chain (was.stands.indexed tag)

  index_at : file.index ≡ shown_at pages (was.indexes tag)
  index_at = index_is pages (index_of cells_of.cs) (was.indexes tag) file.index homes cells_of.shows.index

  index_whole : AreWholePages file.index
  index_whole = subst AreWholePages (sym index_at) (all_by_get (λ page. length page ≡ page_bytes) (shown_at pages (was.indexes tag)) (λ k page at. by_home k page (slice_get (was.indexes tag) k) refl (sym (shown_there pages (was.indexes tag) k) ∙ at)))
    where
      by_page : (o : Option (List ℕ)) (page : List ℕ) → IsSomeAnd o IsIndexPage → Some (shown_index (unwrap_or o [])) ≡ Some page → length page ≡ page_bytes
      by_page None page good at = absurd good
      by_page (Some stored) page good at = subst (λ (xs : List ℕ). length xs ≡ page_bytes) (same_some (shown_index stored) page at) (shown_length stored good.whole)

      by_home : (k : ℕ) (page : List ℕ) (o : Option Home) → slice_get (was.indexes tag) k ≡ o → option_map (λ home. shown_index (unwrap_or (pages home) [])) o ≡ Some page → length page ≡ page_bytes
      by_home k page None there at = absurd (none_is_some page at)
      by_home k page (Some home) there at = by_page (pages home) page (good_numbered pages (index_of cells_of.cs) (was.indexes tag) k home homes there) at

  -- its links
  links_are : (1 ≤ file.links) × (file.links ≤ max_links)
  links_are = by_what (attributes_of cells_of.cs) refl cells_of.shows.what
    where
      by_what : (o : Option Attributes) → attributes_of cells_of.cs ≡ o → IsSomeAnd o (IsWhat file) → (1 ≤ file.links) × (file.links ≤ max_links)
      by_what None at what = absurd what
      by_what (Some a) at what =
          let said : option_and_then (of_live attributes_of) (was.chains tag) ≡ Some a = ap (option_and_then (of_live attributes_of)) cells_of.chain ∙ ap (λ (b : Bool). cond b None (attributes_of cells_of.cs)) cells_of.live ∙ at in
          let fit : HasLinks a = links_fit fileset places pages was.chains was.stands.together.files tag a said in
          (subst (λ n. 1 ≤ n) (sym what.links) fit.named, subst (λ n. n ≤ max_links) (sym what.links) fit.most)

  -- how many pages it has
  no_pages : file.kind ≡ File → length file.pages ≡ 0
  no_pages kind = by_pages file.pages (cells_of.shows.each 0 ∙ ap (λ (k : Kind). shown_page pages cells_of.cs k 0) kind)
    where
      by_pages : (xs : List (List ℕ)) → slice_get xs 0 ≡ None → length xs ≡ 0
      by_pages [] none = refl
      by_pages (x ∷ xs) none = absurd (none_is_some x (sym none))

  no_index : file.kind ≡ File → length file.index ≡ 0
  no_index = subst (λ o. IfSome o (λ (file : Bitfile). file.kind ≡ File → length file.index ≡ 0)) is (was.bare tag)

  pub sound : IsBitfile file
  sound = record {
    pages = pages_whole;
    index = index_whole;
    named = links_are.0;
    links = links_are.1;
    fits = fits_by file.kind refl;
    index_fits = index_by file.kind refl;
    no_pages = no_pages;
    no_index = no_index;
  }
    where
      at_of : file.kind ≡ Directory → IsAt set tag
      at_of kind = record { file = file; is = is; kind = kind }

      fits_by : (kind : Kind) → file.kind ≡ kind → length file.pages ≤ file_pages
      fits_by Directory kind = subst (λ n. n ≤ file_pages) (ap (λ o. option_map_or (λ (file : Bitfile). length file.pages) o 0) is) (fits_here fileset places space cells pages set was tag (at_of kind))
      fits_by File kind = omega (arith, no_pages kind)

      index_by : (kind : Kind) → file.kind ≡ kind → length file.index < 2 ^ 32
      index_by Directory kind = index_fits_here fileset places space cells pages set was tag (at_of kind)
      index_by File kind = omega (arith, no_index kind)

pub sound_at : (fileset : ℕ) (places : List TagPlace) (space : Spaces) (cells : Cells) (pages : Pages) (set : Bitfiles) → AreWhole pages → StandsAsSet fileset places space cells pages set → (tag : Tag) → IfSome (set tag) IsBitfile
sound_at fileset places space cells pages set whole was tag = by_file (set tag) refl
  where
    by_file : (o : Option Bitfile) → set tag ≡ o → IfSome o IsBitfile
    by_file None is = tt
    by_file (Some file) is = sound fileset places space cells pages set whole was tag file is
