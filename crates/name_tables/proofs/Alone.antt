-- Sets of files in pages: without a file, and with the root alone.
use Rattle.std.proofs.Common.{◌≡◌, ℕ, Bool, cond, List, [], Contains, Some, None, IsSome, refl, sym, subst, arith}
use Rattle.fileset_lending.specs.domain_base.declared.place.Home.{Home}
use Rattle.fileset_lending.specs.domain_base.declared.place.Kind.TheVariants.{Directory}
use Rattle.fileset_lending.specs.domain_base.declared.place.Tag.{Tag}
use Rattle.fileset_lending.specs.page_store.Bitfiles.{Bitfile, Bitfiles, new_file, with_file}
use Rattle.fileset_lending.specs.page_store.Pages.{Pages}
use Rattle.fileset_lending.specs.tag_dirs.declared.dir.TagPlace.{TagPlace}
use Rattle.fileset_lending.specs.free_cells.Cells.{Cells}
use Rattle.fileset_lending.specs.free_space.Spaces.{Spaces}
use Rattle.fileset_lending.specs.fileset_files.Together.{AreTogether}
use Rattle.fileset_lending.proofs.OfFilesetFiles.OneChain.{same_tag_itself}
use Rattle.fileset_lending.specs.stored_set.Standing.{AreTagsOnVolumes}
use Rattle.fileset_lending.specs.stored_set.Sets.{StandsAsSet}
use Rattle.fileset_lending.specs.name_space.Changes.{HasOriginal}
use Rattle.fileset_lending.specs.name_space.Names.{root_tag}
use Rattle.fileset_lending.proofs.OfNameSpace.Roots.{root_original_lem}

none_in : (h : Home) → ¬ Contains [] h
none_in h inside = omega (arith, inside.1)

pub no_file : (fileset : ℕ) (places : List TagPlace) (space : Spaces) (cells : Cells) (pages : Pages) → AreTogether fileset places space cells pages (λ tag. None) → AreTagsOnVolumes places → StandsAsSet fileset places space cells pages (λ t. None)
no_file fileset places space cells pages together low = record {
  chains = λ t. None;
  indexes = λ t. [];
  stands = record {
    together = together;
    shows = λ t. refl;
    indexed = λ t. tt;
    stand = λ t h inside. absurd (none_in h inside);
    apart = λ s t k h inside at. none_in h inside;
    once = λ s t h one other. absurd (none_in h one);
  };
  whole = λ t. tt;
  bare = λ t. tt;
  low = low;
}

-- a new directory where there was nothing, with the tag of the root
pub has_root : (files before : Bitfiles) (tag : Tag) → tag ≡ root_tag → before ≡ (λ t. None) → files ≡ with_file tag (new_file Directory 0 0) before → HasOriginal files
has_root files before tag is none made =
    subst (λ (f : Bitfiles). HasOriginal f) (sym made)
    (subst (λ (b : Bitfiles). HasOriginal (with_file tag (new_file Directory 0 0) b)) (sym none)
    (subst (λ (t : Tag). HasOriginal (with_file t (new_file Directory 0 0) (λ u. None))) (sym is) (_, root_original_lem (with_file root_tag (new_file Directory 0 0) (λ u. None)) (λ u. refl))))

-- what was made is there
pub made_there : (files before : Bitfiles) (tag : Tag) (file : Bitfile) → files ≡ with_file tag file before → IsSome (files tag)
made_there files before tag file made = subst (λ (f : Bitfiles). IsSome (f tag)) (sym made) (subst (λ (b : Bool). IsSome (cond b (Some file) (before tag))) (sym (same_tag_itself tag)) refl)
