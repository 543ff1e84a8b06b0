-- What is told of the files of a fileset is what a set shows of them.
use Rattle.std.proofs.Common.{◌≡◌, ◌∙◌, ℕ, Bool, true, false, cond, Option, Some, None, IsSomeAnd, List, [], slice_get, refl, sym, ap}
use Rattle.std.specs.Option.{option_and_then, option_map, option_map_or}
use Rattle.index_pages.specs.domain_base.declared.place.Kind.{Kind}
use Rattle.index_pages.specs.domain_base.declared.place.Kind.TheVariants.{Directory}
use Rattle.index_pages.specs.domain_base.declared.place.Tag.{Tag}
use Rattle.index_pages.specs.page_store.Bitfiles.{Bitfile, Bitfiles, IsDirectory, kind_at, links_at, page_at}
use Rattle.index_pages.specs.page_store.Pages.{Pages}
use Rattle.index_pages.specs.metadata_cells.Chain.{PlacedCell}
use Rattle.index_pages.specs.tag_dirs.declared.dir.TagPlace.{TagPlace}
use Rattle.index_pages.specs.extent_maps.declared.run.PagePlace.TheVariants.{Absent}
use Rattle.index_pages.specs.free_cells.Cells.{Cells}
use Rattle.index_pages.specs.free_space.Spaces.{Spaces}
use Rattle.index_pages.specs.file_chains.Files.{places_of}
use Rattle.index_pages.specs.fileset_files.declared.attributes.Attributes.{Attributes}
use Rattle.index_pages.specs.fileset_files.Files.{Chains, attributes_of, is_removed, of_live, place_at}
use Rattle.index_pages.specs.fileset_files.Shown.{IsWhat, ShowsAt, ShowsFile, index_of, page_there, shown_page}
use Rattle.index_pages.specs.Homes.{AreIndexHomes, shown_at}
use Rattle.stored_set.proofs.IndexPut.{index_is}
use Rattle.stored_set.specs.Standing.{Indexes, StandsShown}

some_is_none : {X : Type 0} (x : X) → Some x ≡ None → ⊥
some_is_none x e = cc

module _ (fileset : ℕ) (places : List TagPlace) (space : Spaces) (cells : Cells) (pages : Pages) (chains : Chains) (indexes : Indexes) (files : Bitfiles) (was : StandsShown fileset places space cells pages chains indexes files) (tag : Tag) where
  -- one thing that attributes say
  told : {X : Type 0} (of_file : Bitfile → X) (of_attributes : Attributes → X) → ((file : Bitfile) (is : Attributes) → IsWhat file is → of_file file ≡ of_attributes is) → option_map of_file (files tag) ≡ option_map of_attributes (option_and_then (of_live attributes_of) (chains tag))
  told of_file of_attributes same = by_file (files tag) (chains tag) (was.shows tag)
    where
      by_what : (file : Bitfile) (o : Option Attributes) → IsSomeAnd o (IsWhat file) → Some (of_file file) ≡ option_map of_attributes o
      by_what file None what = absurd what
      by_what file (Some is) what = ap Some (same file is what)

      by_removed : (file : Bitfile) (cs : List PlacedCell) (b : Bool) → IsSomeAnd (cond b None (Some cs)) (λ live. ShowsFile pages live file) → Some (of_file file) ≡ option_map of_attributes (cond b None (attributes_of cs))
      by_removed file cs true shows = absurd shows
      by_removed file cs false shows = by_what file (attributes_of cs) shows.what

      by_file : (file : Option Bitfile) (chain : Option (List PlacedCell)) → ShowsAt pages chain file → option_map of_file file ≡ option_map of_attributes (option_and_then (of_live attributes_of) chain)
      by_file None chain shows = sym (ap (option_map of_attributes) shows)
      by_file (Some file) None shows = absurd shows
      by_file (Some file) (Some cs) shows = by_removed file cs (is_removed cs) shows

  pub kind_told : kind_at files tag ≡ option_map (λ (is : Attributes). is.kind) (option_and_then (of_live attributes_of) (chains tag))
  kind_told = told (λ file. file.kind) (λ is. is.kind) (λ file is what. what.kind)

  pub links_told : links_at files tag ≡ option_map_or (λ (is : Attributes). is.links) (option_and_then (of_live attributes_of) (chains tag)) 0
  links_told = number (files tag) (option_and_then (of_live attributes_of) (chains tag)) (told (λ file. file.links) (λ is. is.links) (λ file is what. what.links))
    where
      number : (file : Option Bitfile) (is : Option Attributes) → option_map (λ (f : Bitfile). f.links) file ≡ option_map (λ (a : Attributes). a.links) is → option_map_or (λ (f : Bitfile). f.links) file 0 ≡ option_map_or (λ (a : Attributes). a.links) is 0
      number None None same = refl
      number None (Some a) same = ap (λ (o : Option ℕ). option_map_or (λ (n : ℕ). n) o 0) same
      number (Some f) None same = ap (λ (o : Option ℕ). option_map_or (λ (n : ℕ). n) o 0) same
      number (Some f) (Some a) same = ap (λ (o : Option ℕ). option_map_or (λ (n : ℕ). n) o 0) same

  -- a directory's page stands at its home
  pub page_told : IsDirectory files tag → (number : ℕ) → page_at files tag number ≡ page_there pages (place_at chains tag number)
  page_told directory number = by_file (files tag) (chains tag) directory (was.shows tag)
    where
      by_removed : (file : Bitfile) (cs : List PlacedCell) (b : Bool) → file.kind ≡ Directory → IsSomeAnd (cond b None (Some cs)) (λ live. ShowsFile pages live file) → slice_get file.pages number ≡ page_there pages (places_of cs number)
      by_removed file cs true directory shows = absurd shows
      by_removed file cs false directory shows = shows.each number ∙ ap (λ (kind : Kind). shown_page pages cs kind number) directory

      by_file : (file : Option Bitfile) (chain : Option (List PlacedCell)) → IsSomeAnd file (λ file. file.kind ≡ Directory) → ShowsAt pages chain file
          → option_and_then (λ (file : Bitfile). slice_get file.pages number) file ≡ page_there pages (option_map_or (λ cs. places_of cs number) chain Absent)
      by_file None chain directory shows = absurd directory
      by_file (Some file) None directory shows = absurd shows
      by_file (Some file) (Some cs) directory shows = by_removed file cs (is_removed cs) directory shows

  -- an index has as many pages as homes, and shows what stands there
  pub index_told : IsDirectory files tag → option_map_or (λ (file : Bitfile). file.index) (files tag) [] ≡ shown_at pages (indexes tag)
  index_told directory = by_file (files tag) (chains tag) directory (was.shows tag) (was.indexed tag)
    where
      by_removed : (file : Bitfile) (cs : List PlacedCell) (b : Bool) → IsSomeAnd (cond b None (Some cs)) (λ live. ShowsFile pages live file) → AreIndexHomes pages (index_of cs) (indexes tag) → file.index ≡ shown_at pages (indexes tag)
      by_removed file cs true shows are = absurd shows
      by_removed file cs false shows are = index_is pages (index_of cs) (indexes tag) file.index are shows.index

      by_file : (file : Option Bitfile) (chain : Option (List PlacedCell)) → IsSomeAnd file (λ file. file.kind ≡ Directory) → ShowsAt pages chain file → AreIndexHomes pages (option_and_then index_of chain) (indexes tag)
          → option_map_or (λ (file : Bitfile). file.index) file [] ≡ shown_at pages (indexes tag)
      by_file None chain directory shows are = absurd directory
      by_file (Some file) None directory shows are = absurd shows
      by_file (Some file) (Some cs) directory shows are = by_removed file cs (is_removed cs) shows are
