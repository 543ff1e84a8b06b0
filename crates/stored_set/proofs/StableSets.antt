-- Of a set that stands it is enough to know that it does.
use Rattle.std.proofs.Common.{◌≡◌, ℕ, Option, Some, None, IsSomeAnd, List, [], ◌∷◌, length, refl}
use Rattle.std.proofs.Math.Logic.{∥∥₁_map}
use Rattle.std.specs.Coded.{Coded-set, coded_list, coded_option, coded_ℕ}
use Rattle.std.specs.Option.{option_and_then}
use Rattle.index_pages.specs.domain_base.declared.place.Home.{Home}
use Rattle.index_pages.specs.domain_base.declared.place.Kind.TheVariants.{File}
use Rattle.index_pages.specs.page_store.Bitfiles.{Bitfile, Bitfiles, shown_index}
use Rattle.index_pages.specs.page_store.Pages.{Pages}
use Rattle.index_pages.specs.metadata_cells.Chain.{PlacedCell}
use Rattle.index_pages.specs.tag_dirs.TagPage.{next_of}
use Rattle.index_pages.specs.tag_dirs.declared.dir.TagPlace.{TagPlace}
use Rattle.index_pages.specs.extent_maps.declared.run.PagePlace.{PagePlace}
use Rattle.index_pages.specs.extent_maps.declared.run.PagePlace.TheVariants.{Absent, At, Hole}
use Rattle.index_pages.specs.free_cells.Cells.{Cells}
use Rattle.index_pages.specs.free_space.Spaces.{Spaces}
use Rattle.index_pages.specs.fileset_files.declared.attributes.Attributes.{Attributes}
use Rattle.index_pages.specs.fileset_files.declared.indexing.IndexPlace.{IndexPlace}
use Rattle.index_pages.specs.fileset_files.Files.{Chains, attributes_of, of_live}
use Rattle.index_pages.specs.fileset_files.Shown.{AreIndexPages, IsWhat, ShowsAt, ShowsFile, index_of}
use Rattle.index_pages.specs.fileset_files.State.{FileState, States}
use Rattle.index_pages.specs.Homes.{AreIndexHomes, IsIndexPage, next_at}
use Rattle.stored_set.specs.Standing.{AreTagsOnVolumes, Indexes, StandsShown}
use Rattle.stored_set.specs.Whole.{AreWholeDirectories, HaveNoIndex, IsWholeAt, IsWholeDirectory, total_on}
use Rattle.stored_set.proofs.Stable.{IsStable, both, equal, file_code, home_code, if_some, is_none, kind_code, less, not, nothing, one_number, one_page, some_and, tag_code, three, unit, when}
use Rattle.stored_set.proofs.StableFiles.{file_page, together}

-- ---- what is shown

what : (file : Bitfile) (is : Attributes) → IsStable (IsWhat file is)
what file is t = record {
  kind = equal kind_code _ _ (∥∥₁_map t (λ x. x.kind));
  uid = one_number _ _ (∥∥₁_map t (λ x. x.uid));
  gid = one_number _ _ (∥∥₁_map t (λ x. x.gid));
  links = one_number _ _ (∥∥₁_map t (λ x. x.links));
}

index_pages : (pages : Pages) (first : Option Home) (shown : List (List ℕ)) → IsStable (AreIndexPages pages first shown)
index_pages pages None [] = unit
index_pages pages None (page ∷ more) = nothing
index_pages pages (Some home) [] = nothing
index_pages pages (Some home) (page ∷ more) =
    some_and (λ stored. (page ≡ shown_index stored) × AreIndexPages pages (next_of stored) more) (λ stored. both (one_page _ _) (index_pages pages (next_of stored) more)) (pages home)

shows_file : (pages : Pages) (cs : List PlacedCell) (file : Bitfile) → IsStable (ShowsFile pages cs file)
shows_file pages cs file t = record {
  what = some_and (IsWhat file) (what file) (attributes_of cs) (∥∥₁_map t (λ x. x.what));
  each = λ number. equal (coded_option (coded_list coded_ℕ)) _ _ (∥∥₁_map t (λ x. x.each number));
  index = index_pages pages (index_of cs) file.index (∥∥₁_map t (λ x. x.index));
}

shows_at : (pages : Pages) (chain : Option (List PlacedCell)) (file : Option Bitfile) → IsStable (ShowsAt pages chain file)
shows_at pages chain None = is_none _
shows_at pages None (Some file) = nothing
shows_at pages (Some cs) (Some file) = some_and (λ live. ShowsFile pages live file) (λ live. shows_file pages live file) (of_live Some cs)

-- ---- indexes

index_page : (page : List ℕ) → IsStable (IsIndexPage page)
index_page page t = record { whole = one_number _ _ (∥∥₁_map t (λ x. x.whole)); next = less _ _ (∥∥₁_map t (λ x. x.next)) }

pub index_homes : (pages : Pages) (first : Option Home) (homes : List Home) → IsStable (AreIndexHomes pages first homes)
index_homes pages None [] = unit
index_homes pages (Some first) (home ∷ more) = three (equal home_code _ _) (some_and IsIndexPage index_page (pages home)) (index_homes pages (next_at pages home) more)
index_homes pages None (home ∷ more) = nothing
index_homes pages (Some first) [] = nothing

pub indexes_set : (a b : Indexes) → IsProp (a ≡ b)
indexes_set a b p q = λ i j tag. Coded-set (coded_list home_code) (a tag) (b tag) (λ k. p k tag) (λ k. q k tag) i j

pub files_set : (a b : Bitfiles) → IsProp (a ≡ b)
files_set a b p q = λ i j tag. Coded-set (coded_option file_code) (a tag) (b tag) (λ k. p k tag) (λ k. q k tag) i j

-- ---- the set

pub stands_shown : (fileset : ℕ) (places : List TagPlace) (space : Spaces) (cells : Cells) (pages : Pages) (chains : Chains) (indexes : Indexes) (files : Bitfiles) → IsStable (StandsShown fileset places space cells pages chains indexes files)
stands_shown fileset places space cells pages chains indexes files t = record {
  together = together fileset places space cells pages chains (∥∥₁_map t (λ x. x.together));
  shows = λ tag. shows_at pages (chains tag) (files tag) (∥∥₁_map t (λ x. x.shows tag));
  indexed = λ tag. index_homes pages (option_and_then index_of (chains tag)) (indexes tag) (∥∥₁_map t (λ x. x.indexed tag));
  stand = λ tag home inside. file_page space cells places home (∥∥₁_map t (λ x. x.stand tag home inside));
  apart = λ s u page home inside at. not (∥∥₁_map t (λ x. x.apart s u page home inside)) at;
  once = λ s u home one other. equal tag_code _ _ (∥∥₁_map t (λ x. x.once s u home one other));
}

-- ---- directories that are whole

hole_absent : Hole ≡ Absent → ⊥
hole_absent e = cc

at_absent : (home : Home) → At home ≡ Absent → ⊥
at_absent home e = cc

absent : (place : PagePlace) → IsStable (place ≡ Absent)
absent Absent t = refl
absent Hole t = absurd (nothing (∥∥₁_map t hole_absent))
absent (At home) t = absurd (nothing (∥∥₁_map t (at_absent home)))

whole_directory : (file : Bitfile) (state : FileState) → IsStable (IsWholeDirectory file state)
whole_directory file state t = record {
  fits = less _ _ (∥∥₁_map t (λ x. x.fits));
  size = one_number _ _ (∥∥₁_map t (λ x. x.size));
  keeps = one_number _ _ (∥∥₁_map t (λ x. x.keeps));
  none = λ page behind. absent (state.places page) (∥∥₁_map t (λ x. x.none page behind));
  index_fits = less _ _ (∥∥₁_map t (λ x. x.index_fits));
  entries = if_some (λ (index : IndexPlace). index.entries ≡ total_on file.index) (λ index. one_number _ _) state.index (∥∥₁_map t (λ x. x.entries));
}

whole_at : (state : Option FileState) (file : Option Bitfile) → IsStable (IsWholeAt state file)
whole_at state None = unit
whole_at state (Some file) = when (IsSomeAnd state (IsWholeDirectory file)) (some_and (IsWholeDirectory file) (whole_directory file) state)

pub whole_directories : (states : States) (files : Bitfiles) → IsStable (AreWholeDirectories states files)
whole_directories states files t tag = whole_at (states tag) (files tag) (∥∥₁_map t (λ x. x tag))

pub no_index : (files : Bitfiles) → IsStable (HaveNoIndex files)
no_index files t tag = if_some (λ (file : Bitfile). file.kind ≡ File → length file.index ≡ 0) (λ file. when (length file.index ≡ 0) (one_number _ _)) (files tag) (∥∥₁_map t (λ x. x tag))

pub tags_low : (places : List TagPlace) → IsStable (AreTagsOnVolumes places)
tags_low places t home is = less _ _ (∥∥₁_map t (λ x. x home is))
