-- How long a directory is that a set shows.
use Rattle.std.proofs.Common.{◌≡◌, ◌∙◌, ◌*◌, ◌^◌, ◌<◌, ◌≤◌, ℕ, Bool, true, false, cond, List, [], ◌∷◌, length, slice_get, Some, None, Option, IfSome, IsSomeAnd, refl, sym, ap, subst, arith}
use Rattle.std.specs.Option.{option_and_then, option_map, option_map_or}
use Rattle.index_pages.specs.domain_base.Limits.{file_pages, page_bytes}
use Rattle.index_pages.specs.domain_base.declared.place.Kind.{Kind}
use Rattle.index_pages.specs.domain_base.declared.place.Kind.TheVariants.{Directory, File}
use Rattle.index_pages.specs.domain_base.declared.place.Tag.{Tag}
use Rattle.index_pages.specs.page_store.Bitfiles.{Bitfile, Bitfiles as SetOf, IsDirectory, count_index, count_pages, index_at}
use Rattle.index_pages.specs.page_store.Pages.{Pages}
use Rattle.index_pages.specs.metadata_cells.Chain.{PlacedCell}
use Rattle.index_pages.specs.tag_dirs.declared.dir.TagPlace.{TagPlace}
use Rattle.index_pages.specs.free_cells.Cells.{Cells}
use Rattle.index_pages.specs.free_space.Spaces.{Spaces}
use Rattle.index_pages.specs.fileset_files.declared.attributes.Attributes.{Attributes}
use Rattle.index_pages.specs.fileset_files.declared.indexing.IndexPlace.{IndexPlace}
use Rattle.index_pages.specs.fileset_files.Files.{attributes_of, is_removed, of_live}
use Rattle.index_pages.specs.fileset_files.Index.{index_place_of}
use Rattle.index_pages.specs.fileset_files.Shown.{IsWhat, ShowsAt, ShowsFile, shown_page}
use Rattle.index_pages.specs.fileset_files.State.{FileState, states_of}
use Rattle.index_pages.specs.fileset_files.States.{if_live, is_removing, live_at}
use Rattle.index_pages.proofs.OfFilesetFiles.Told.{told_attributes, told_index}
use Rattle.index_pages.specs.Homes.{shown_at}
use Rattle.stored_set.proofs.Told.{index_told}
use Rattle.stored_set.specs.Whole.{IsWholeAt, IsWholeDirectory, total_on}
use Rattle.stored_set.proofs.Live.{told_any}
use Rattle.stored_set.specs.Sets.{StandsAsSet}

none_is_some : {X : Type 0} (x : X) → None ≡ Some x → ⊥
none_is_some x e = cc

some_is_none : {X : Type 0} (x : X) → Some x ≡ None → ⊥
some_is_none x e = cc

-- the directory at a tag
pub record IsAt (set : SetOf) (tag : Tag) : Type 0 where
  pub file : Bitfile
  pub is : set tag ≡ Some file
  pub kind : file.kind ≡ Directory

pub the_file : (set : SetOf) (tag : Tag) → IsDirectory set tag → IsAt set tag
the_file set tag directory = by_file (set tag) refl directory
  where
    by_file : (o : Option Bitfile) → set tag ≡ o → IsSomeAnd o (λ file. file.kind ≡ Directory) → IsAt set tag
    by_file None is directory = absurd directory
    by_file (Some file) is directory = record { file = file; is = is; kind = directory }

module _ (fileset : ℕ) (places : List TagPlace) (space : Spaces) (cells : Cells) (pages : Pages) (set : SetOf) (was : StandsAsSet fileset places space cells pages set) (tag : Tag) where
  pub whole_here : (at : IsAt set tag) → IsSomeAnd (states_of was.chains tag) (IsWholeDirectory at.file)
  whole_here at = subst (IsWholeAt (states_of was.chains tag)) at.is (was.whole tag) at.kind

  pub count_here : (at : IsAt set tag) → count_pages set tag ≡ length at.file.pages
  count_here at = ap (λ o. option_map_or (λ (file : Bitfile). length file.pages) o 0) at.is

  pub fits_here : (at : IsAt set tag) → count_pages set tag ≤ file_pages
  fits_here at = by_state (states_of was.chains tag) (whole_here at)
    where
      by_state : (o : Option FileState) → IsSomeAnd o (IsWholeDirectory at.file) → count_pages set tag ≤ file_pages
      by_state None whole = absurd whole
      by_state (Some s) whole = omega (arith, count_here at, whole.fits)

  -- what its first cell says
  state_live : {X : Type 0} (P : X → Type 0) (x : X) (how : FileState → Option X) (o : Option FileState) (Q : FileState → Type 0) → IsSomeAnd o Q → option_and_then how (option_and_then if_live o) ≡ Some x → ((s : FileState) → Q s → how s ≡ Some x → P x) → P x
  state_live P x how None Q whole is from = absurd whole
  state_live {X} P x how (Some s) Q whole is from = by_removed (is_removing s.pending) is
    where
      by_removed : (b : Bool) → option_and_then how (cond b None (Some s)) ≡ Some x → P x
      by_removed true is = absurd (none_is_some x is)
      by_removed false is = from s whole is

  pub size_here : (at : IsAt set tag) (a : Attributes) → Some a ≡ option_and_then (of_live attributes_of) (was.chains tag) → a.size ≡ page_bytes * count_pages set tag
  size_here at a said =
      state_live (λ (a : Attributes). a.size ≡ page_bytes * count_pages set tag) a (λ s. Some s.attributes) (states_of was.chains tag) (IsWholeDirectory at.file) (whole_here at)
      (mapped (live_at (states_of was.chains) tag) ∙ sym (told_attributes fileset places pages was.chains was.stands.together.files tag) ∙ sym said)
      (λ s whole is. sym (ap (λ o. option_map_or (λ (x : Attributes). x.size) o 0) is) ∙ whole.size ∙ ap (λ n. page_bytes * n) (sym (count_here at)))
    where
      mapped : (o : Option FileState) → option_and_then (λ (s : FileState). Some s.attributes) o ≡ option_map (λ (s : FileState). s.attributes) o
      mapped None = refl
      mapped (Some s) = refl

  pub total_here : (at : IsAt set tag) (index : IndexPlace) → Some index ≡ option_and_then (of_live index_place_of) (was.chains tag) → index.entries ≡ total_on at.file.index
  total_here at index said =
      state_live (λ (i : IndexPlace). i.entries ≡ total_on at.file.index) index (λ s. s.index) (states_of was.chains tag) (IsWholeDirectory at.file) (whole_here at)
      (sym (told_index fileset places pages was.chains was.stands.together.files tag) ∙ sym said)
      (λ s whole is. subst (λ o. IfSome o (λ (i : IndexPlace). i.entries ≡ total_on at.file.index)) is whole.entries)

  pub index_here : (at : IsAt set tag) → at.file.index ≡ shown_at pages (was.indexes tag)
  index_here at = sym (ap (λ o. option_map_or (λ (file : Bitfile). file.index) o []) at.is) ∙ index_told fileset places space cells pages was.chains was.indexes set was.stands tag (subst (λ o. IsSomeAnd o (λ (file : Bitfile). file.kind ≡ Directory)) (sym at.is) at.kind)

  pub index_count_here : (at : IsAt set tag) → count_index set tag ≡ length at.file.index
  index_count_here at = ap (λ o. option_map_or (λ (file : Bitfile). length file.index) o 0) at.is

  -- a page of its index
  pub page_here : (at : IsAt set tag) (number : ℕ) → index_at set tag number ≡ slice_get (shown_at pages (was.indexes tag)) number
  page_here at number = ap (λ o. option_and_then (λ (file : Bitfile). slice_get file.index number) o) at.is ∙ ap (λ xs. slice_get xs number) (index_here at)

  pub index_fits_here : (at : IsAt set tag) → length at.file.index < 2 ^ 32
  index_fits_here at = by_state (states_of was.chains tag) (whole_here at)
    where
      by_state : (o : Option FileState) → IsSomeAnd o (IsWholeDirectory at.file) → length at.file.index < 2 ^ 32
      by_state None whole = absurd whole
      by_state (Some s) whole = whole.index_fits

  -- what a tag names has the kind that its attributes say, and one that is no directory has no page
  pub kind_here : (a : Attributes) → Some a ≡ option_and_then (of_live attributes_of) (was.chains tag) → IsSomeAnd (set tag) (λ file. file.kind ≡ a.kind)
  kind_here a said = by_file (set tag) (subst (λ o. by_what o (set tag)) (sym said) (told_any fileset places space cells pages set was tag was.chains was.stands.together.files))
    where
      by_what : Option Attributes → Option Bitfile → Type 0
      by_what o None = o ≡ None
      by_what o (Some file) = IsSomeAnd o (IsWhat file)

      by_file : (o : Option Bitfile) → by_what (Some a) o → IsSomeAnd o (λ file. file.kind ≡ a.kind)
      by_file None what = absurd (some_is_none a what)
      by_file (Some file) what = what.kind

  pub no_file_here : None ≡ option_and_then (of_live attributes_of) (was.chains tag) → count_pages set tag ≡ 0
  no_file_here said = by_file (set tag) (subst (λ o. by_what o (set tag)) (sym said) (told_any fileset places space cells pages set was tag was.chains was.stands.together.files))
    where
      by_what : Option Attributes → Option Bitfile → Type 0
      by_what o None = o ≡ None
      by_what o (Some file) = IsSomeAnd o (IsWhat file)

      by_file : (o : Option Bitfile) → by_what None o → option_map_or (λ (file : Bitfile). length file.pages) o 0 ≡ 0
      by_file None what = refl
      by_file (Some file) what = absurd what

  pub no_pages_here : IsSomeAnd (set tag) (λ file. file.kind ≡ File) → count_pages set tag ≡ 0
  no_pages_here kind = by_file (set tag) kind (was.chains tag) (was.stands.shows tag)
    where
      by_pages : (xs : List (List ℕ)) → slice_get xs 0 ≡ None → length xs ≡ 0
      by_pages [] none = refl
      by_pages (x ∷ xs) none = absurd (some_is_none x none)

      by_removed : (file : Bitfile) → file.kind ≡ File → (cs : List PlacedCell) (b : Bool) → IsSomeAnd (cond b None (Some cs)) (λ live. ShowsFile pages live file) → length file.pages ≡ 0
      by_removed file kind cs true shows = absurd shows
      by_removed file kind cs false shows = by_pages file.pages (shows.each 0 ∙ ap (λ (k : Kind). shown_page pages cs k 0) kind)

      by_file : (o : Option Bitfile) → IsSomeAnd o (λ file. file.kind ≡ File) → (chain : Option (List PlacedCell)) → ShowsAt pages chain o → option_map_or (λ (file : Bitfile). length file.pages) o 0 ≡ 0
      by_file None kind chain shows = absurd kind
      by_file (Some file) kind None shows = absurd shows
      by_file (Some file) kind (Some cs) shows = by_removed file kind cs (is_removed cs) shows
