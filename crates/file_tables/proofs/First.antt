-- The set without a file, and those with a new file or directory.
use Rattle.std.proofs.Common.{◌≡◌, ℕ, Bool, cond, Some, None, IsSome, IsSomeAnd, List, [], Contains, length, Result, Ok, Err, IfOk, refl, sym, ap, subst, arith}
use Rattle.std.specs.Option.{option_map_or}
use Rattle.release_steps.specs.domain_base.declared.place.Home.{Home}
use Rattle.release_steps.specs.domain_base.declared.place.Kind.{Kind}
use Rattle.release_steps.specs.domain_base.declared.place.Kind.TheVariants.{Directory, File}
use Rattle.release_steps.specs.domain_base.declared.place.Tag.{Tag}
use Rattle.release_steps.specs.page_store.Bitfiles.{Bitfile, Bitfiles, IsDirectory, count_pages, linked, new_file, put_page, with_change, with_file}
use Rattle.release_steps.specs.page_store.Pages.{Pages}
use Rattle.release_steps.specs.tag_dirs.declared.dir.TagPlace.{TagPlace}
use Rattle.release_steps.specs.free_cells.Cells.{Cells}
use Rattle.release_steps.specs.free_space.Spaces.{Spaces}
use Rattle.release_steps.specs.fileset_files.Together.{AreTogether}
use Rattle.release_steps.proofs.OfFilesetFiles.OneChain.{same_tag_itself}
use Rattle.file_tables.specs.Worlds.{only_new, with_first_page}
use Rattle.stored_set.specs.Standing.{AreTagsOnVolumes}
use Rattle.stored_set.specs.Sets.{StandsAsSet}

none_in : (h : Home) → ¬ Contains [] h
none_in h inside = omega (arith, inside.1)

pub first_set : (fileset : ℕ) (places : List TagPlace) (space : Spaces) (cells : Cells) (pages : Pages) → AreTogether fileset places space cells pages (λ tag. None) → AreTagsOnVolumes places → StandsAsSet fileset places space cells pages (λ t. None)
first_set fileset places space cells pages together low = record {
  chains = λ t. None;
  indexes = λ t. [];
  stands = record {
    together = together;
    shows = λ t. refl;
    indexed = λ t. tt;
    stand = λ t h inside. absurd (none_in h inside);
    apart = λ s t k h inside at. none_in h inside;
    once = λ s t h one other. absurd (none_in h one);
  };
  whole = λ t. tt;
  bare = λ t. tt;
  low = low;
}

pub if_ok : {A E : Type 0} {P Q : A → Type 0} → ((a : A) → P a → Q a) → (r : Result A E) → IfOk r P → IfOk r Q
if_ok f (Ok a) p = f a p
if_ok f (Err e) p = tt

pub new_there : (kind : Kind) (tag : Tag) → only_new kind tag tag ≡ Some (new_file kind 11 12)
new_there kind tag = ap (λ (b : Bool). cond b (Some (new_file kind 11 12)) None) (same_tag_itself tag)

-- what is so of any set that has the new directory
pub is_directory : (set : Bitfiles) (tag : Tag) → only_new Directory tag tag ≡ set tag → IsDirectory set tag
is_directory set tag same = subst (λ o. IsSomeAnd o (λ (file : Bitfile). file.kind ≡ Directory)) same (subst (λ o. IsSomeAnd o (λ (file : Bitfile). file.kind ≡ Directory)) (sym (new_there Directory tag)) refl)

pub has_none : (set : Bitfiles) (tag : Tag) → only_new Directory tag tag ≡ set tag → 0 ≡ count_pages set tag
has_none set tag same = subst (λ o. 0 ≡ option_map_or (λ (file : Bitfile). length file.pages) o 0) same (subst (λ o. 0 ≡ option_map_or (λ (file : Bitfile). length file.pages) o 0) (sym (new_there Directory tag)) refl)

-- or the new file
pub is_some : (set : Bitfiles) (tag : Tag) → only_new File tag tag ≡ set tag → IsSome (set tag)
is_some set tag same = subst (λ o. IsSome o) same (subst (λ o. IsSome o) (sym (new_there File tag)) refl)

-- a file with three links, and a directory with a page
pub linked_there : (tag : Tag) → IsSome (with_change tag (linked 3) (only_new File tag) tag)
linked_there tag =
    subst (λ o. IsSome (option_map_or (λ (file : Bitfile). with_file tag (linked 3 file) (only_new File tag)) o (only_new File tag) tag)) (sym (new_there File tag))
    (subst (λ (b : Bool). IsSome (cond b (Some (linked 3 (new_file File 11 12))) (only_new File tag tag))) (sym (same_tag_itself tag)) refl)

pub page_directory : (set : Bitfiles) (tag : Tag) (bytes : List ℕ) → with_first_page tag bytes tag ≡ set tag → IsDirectory set tag
page_directory set tag bytes same =
    subst (λ o. IsSomeAnd o (λ (file : Bitfile). file.kind ≡ Directory)) same
    (subst (λ o. IsSomeAnd (option_map_or (λ (file : Bitfile). with_file tag (put_page 0 bytes file) (only_new Directory tag)) o (only_new Directory tag) tag) (λ (file : Bitfile). file.kind ≡ Directory)) (sym (new_there Directory tag))
    (subst (λ (b : Bool). IsSomeAnd (cond b (Some (put_page 0 bytes (new_file Directory 11 12))) (only_new Directory tag tag)) (λ (file : Bitfile). file.kind ≡ Directory)) (sym (same_tag_itself tag)) refl))
