-- What a set shows at a tag, by the chain that the tag leads to.
use Rattle.std.proofs.Common.{◌≡◌, ◌∙◌, ◌<◌, ℕ, zero, suc, Bool, true, false, cond, Option, Some, None, IsSome, IsSomeAnd, List, [], ◌∷◌, length, slice_get, refl, sym, ap, subst, arith}
use Rattle.std.proofs.lemmas.Bool.{true≢false}
use Rattle.std.specs.Option.{option_and_then, option_map_or}
use Rattle.index_pages.specs.domain_base.declared.place.Home.{Home}
use Rattle.index_pages.specs.domain_base.declared.place.Tag.{Tag}
use Rattle.index_pages.specs.page_store.Bitfiles.{Bitfile, Bitfiles, IsDirectory, count_pages, linked, page_at, with_change, with_file}
use Rattle.index_pages.specs.page_store.Pages.{Pages}
use Rattle.index_pages.specs.metadata_cells.Chain.{PlacedCell}
use Rattle.index_pages.specs.tag_dirs.declared.dir.TagPlace.{TagPlace}
use Rattle.index_pages.specs.extent_maps.declared.run.PagePlace.{PagePlace}
use Rattle.index_pages.specs.extent_maps.declared.run.PagePlace.TheVariants.{Absent, At, Hole}
use Rattle.index_pages.specs.extent_maps.Runs.{home_at}
use Rattle.index_pages.specs.free_cells.Cells.{Cells}
use Rattle.index_pages.specs.free_space.Spaces.{Spaces, missed}
use Rattle.index_pages.specs.fileset_files.declared.attributes.Attributes.{Attributes}
use Rattle.index_pages.specs.fileset_files.Changes.{IsLive}
use Rattle.index_pages.specs.fileset_files.Files.{AreFiles, Chains, attributes_of, is_removed, of_live, place_at}
use Rattle.index_pages.specs.fileset_files.Shown.{IsWhat, ShowsAt, ShowsFile, page_there}
use Rattle.index_pages.specs.fileset_files.Together.{AreTogether}
use Rattle.index_pages.proofs.OfFilesetFiles.Created.{one_chains}
use Rattle.stored_set.proofs.Told.{page_told}
use Rattle.stored_set.specs.Standing.{Indexes, StandsShown, owned}
use Rattle.stored_set.specs.Sets.{StandsAsSet}

-- what a live tag's attributes say is what its file is
abbrev pub Told : Option Attributes → Option Bitfile → Type 0
Told o None = o ≡ None
Told o (Some file) = IsSomeAnd o (IsWhat file)

none_is_some : {X : Type 0} (x : X) → None ≡ Some x → ⊥
none_is_some x e = cc

get_within : (xs : List (List ℕ)) (k : ℕ) → k < length xs → IsSome (slice_get xs k)
get_within [] k within = absurd (omega (arith, within))
get_within (x ∷ xs) zero within = refl
get_within (x ∷ xs) (suc k) within = get_within xs k (omega (arith, within))

-- the page at a place, if that has a home
pub page_at_home : (pages : Pages) (place : PagePlace) → page_there pages place ≡ option_and_then pages (home_at place)
page_at_home pages (At home) = refl
page_at_home pages Hole = refl
page_at_home pages Absent = refl

module _ (fileset : ℕ) (places : List TagPlace) (space : Spaces) (cells : Cells) (pages : Pages) (files : Bitfiles) (was : StandsAsSet fileset places space cells pages files) (tag : Tag) where
  told : Told (option_and_then (of_live attributes_of) (was.chains tag)) (files tag)
  told = by_file (files tag) (was.chains tag) (was.stands.shows tag)
    where
      by_removed : (file : Bitfile) (cs : List PlacedCell) (b : Bool) → IsSomeAnd (cond b None (Some cs)) (λ live. ShowsFile pages live file) → IsSomeAnd (cond b None (attributes_of cs)) (IsWhat file)
      by_removed file cs true shows = absurd shows
      by_removed file cs false shows = shows.what

      by_file : (file : Option Bitfile) (chain : Option (List PlacedCell)) → ShowsAt pages chain file → Told (option_and_then (of_live attributes_of) chain) file
      by_file None chain shows = shows
      by_file (Some file) None shows = absurd shows
      by_file (Some file) (Some cs) shows = by_removed file cs (is_removed cs) shows

  -- and of any chains of these pages
  pub told_any : (chains : Chains) → AreFiles fileset places pages chains → Told (option_and_then (of_live attributes_of) (chains tag)) (files tag)
  told_any chains are = subst (λ o. Told (option_and_then (of_live attributes_of) o) (files tag)) (one_chains pages fileset places was.chains chains was.stands.together.files are tag) told

  pub live_any : IsSome (files tag) → (chains : Chains) → AreFiles fileset places pages chains → IsLive tag chains
  live_any some chains are = by_file (files tag) (option_and_then (of_live attributes_of) (chains tag)) some (told_any chains are)
    where
      by_file : (file : Option Bitfile) (o : Option Attributes) → IsSome file → Told o file → IsSome o
      by_file None o some is = absurd (true≢false (sym some))
      by_file (Some file) None some is = absurd is
      by_file (Some file) (Some a) some is = refl

  pub not_live : IsSome (files tag) → (chains : Chains) → AreFiles fileset places pages chains → None ≡ option_and_then (of_live attributes_of) (chains tag) → ⊥
  not_live some chains are none = true≢false (sym (subst (λ o. IsSome o) (sym none) (live_any some chains are)))

  -- a tag that names nothing is shown as nothing
  pub none_shown : was.chains tag ≡ None → files tag ≡ None
  none_shown none = by_file (files tag) (subst (λ o. ShowsAt pages o (files tag)) none (was.stands.shows tag))
    where
      by_file : (file : Option Bitfile) → ShowsAt pages None file → file ≡ None
      by_file None shows = refl
      by_file (Some file) shows = absurd shows

  -- the owner that is said again
  pub owned_again : (is : Attributes) (links : ℕ) (chains : Chains) → AreFiles fileset places pages chains → Some is ≡ option_and_then (of_live attributes_of) (chains tag) → with_change tag (owned (record is { links = links })) files ≡ with_change tag (linked links) files
  owned_again is links chains are said = by_file (files tag) (subst (λ o. Told o (files tag)) (sym said) (told_any chains are))
    where
      by_file : (file : Option Bitfile) → Told (Some is) file
          → option_map_or (λ file. with_file tag (owned (record is { links = links }) file) files) file files ≡ option_map_or (λ file. with_file tag (linked links file) files) file files
      by_file None what = refl
      by_file (Some file) what = λ i. with_file tag (record { kind = file.kind; uid = sym what.uid i; gid = sym what.gid i; links = links; pages = file.pages; index = file.index }) files

  -- a directory's page stands at its home
  pub page_shown : IsDirectory files tag → (number : ℕ) (place : PagePlace) → place ≡ place_at was.chains tag number → page_at files tag number ≡ option_and_then pages (home_at place)
  page_shown directory number place is = page_told fileset places space cells pages was.chains was.indexes files was.stands tag directory number ∙ ap (page_there pages) (sym is) ∙ page_at_home pages place

  pub page_stands : IsDirectory files tag → (number : ℕ) → number < count_pages files tag → (place : PagePlace) → place ≡ place_at was.chains tag number → IsSome (option_and_then pages (home_at place))
  page_stands directory number within place is = subst (λ o. IsSome o) (page_shown directory number place is) (by_file (files tag) within)
    where
      by_file : (file : Option Bitfile) → number < option_map_or (λ (file : Bitfile). length file.pages) file 0 → IsSome (option_and_then (λ (file : Bitfile). slice_get file.pages number) file)
      by_file None within = absurd (omega (arith, within))
      by_file (Some file) within = get_within file.pages number within

-- the home that a place with one has
pub home_is : (place : PagePlace) (home : Home) → home_at place ≡ Some home → place ≡ At home
home_is (At h) home is = ap At (ap (λ o. option_map_or (λ x. x) o h) is)
home_is Hole home is = absurd (none_is_some home is)
home_is Absent home is = absurd (none_is_some home is)

-- a miss changes nothing that is shown
pub missed_still : (fileset : ℕ) (places : List TagPlace) (space : Spaces) (cells : Cells) (pages : Pages) (chains : Chains) (indexes : Indexes) (files : Bitfiles) → StandsShown fileset places space cells pages chains indexes files → AreTogether fileset places (missed space) cells pages chains
    → StandsShown fileset places (missed space) cells pages chains indexes files
missed_still fileset places space cells pages chains indexes files was together = record {
  together = together;
  shows = was.shows;
  indexed = was.indexed;
  stand = λ t h inside. let is = was.stand t h inside in record { apart = record { held = is.apart.held; off_table = is.apart.off_table }; no_tags = is.no_tags };
  apart = was.apart;
  once = was.once;
}
