-- Files have no index.
use Rattle.std.proofs.Common.{◌≡◌, ◌∙◌, ℕ, Bool, true, false, cond, Option, Some, None, IfSome, IsSomeAnd, List, length, refl, sym, ap, subst}
use Rattle.std.specs.Option.{option_map_or}
use Rattle.index_pages.specs.domain_base.declared.place.Kind.{Kind}
use Rattle.index_pages.specs.domain_base.declared.place.Kind.TheVariants.{Directory, File}
use Rattle.index_pages.specs.domain_base.declared.place.Tag.{Tag}
use Rattle.index_pages.specs.page_store.Bitfiles.{Bitfile, Bitfiles, IsDirectory, linked, insert_index, new_file as shown_new, put_index, put_page, same_tag, with_change, with_file, without_file}
use Rattle.index_pages.specs.fileset_files.declared.attributes.Attributes.{Attributes}
use Rattle.stored_set.specs.Standing.{owned}
use Rattle.stored_set.specs.Whole.{HaveNoIndex}

-- what is asked of a file
abbrev IsBare : Bitfile → Type 0
IsBare file = file.kind ≡ File → length file.index ≡ 0

directory_is_file : Directory ≡ File → ⊥
directory_is_file e = cc

module _ (files : Bitfiles) (was : HaveNoIndex files) (tag : Tag) where
  pub bare_changed : (change : Bitfile → Bitfile) → ((file : Bitfile) → files tag ≡ Some file → IsBare file → IsBare (change file)) → HaveNoIndex (with_change tag change files)
  bare_changed change keeps = by_file (files tag) refl
    where
      by_tag : (file : Bitfile) → files tag ≡ Some file → (t : Tag) (b : Bool) → IfSome (cond b (Some (change file)) (files t)) IsBare
      by_tag file is t true = keeps file is (subst (λ o. IfSome o IsBare) is (was tag))
      by_tag file is t false = was t

      by_file : (o : Option Bitfile) → files tag ≡ o → HaveNoIndex (option_map_or (λ file. with_file tag (change file) files) o files)
      by_file None is = was
      by_file (Some file) is = λ t. by_tag file is t (same_tag t tag)

  -- of which the kind and the index stay
  pub bare_owned : (value : Attributes) → HaveNoIndex (with_change tag (owned value) files)
  bare_owned value = bare_changed (owned value) (λ file is bare. bare)

  pub bare_linked : (links : ℕ) → HaveNoIndex (with_change tag (linked links) files)
  bare_linked links = bare_changed (linked links) (λ file is bare. bare)

  pub bare_written : (number : ℕ) (page : List ℕ) → HaveNoIndex (with_change tag (put_page number page) files)
  bare_written number page = bare_changed (put_page number page) (λ file is bare. bare)

  -- which is a directory
  no_file : IsDirectory files tag → (file : Bitfile) → files tag ≡ Some file → ¬ file.kind ≡ File
  no_file directory file is kind = directory_is_file (sym (subst (λ o. IsSomeAnd o (λ (file : Bitfile). file.kind ≡ Directory)) is directory) ∙ kind)

  pub bare_put : IsDirectory files tag → (number : ℕ) (page : List ℕ) → HaveNoIndex (with_change tag (put_index number page) files)
  bare_put directory number page = bare_changed (put_index number page) (λ file is bare kind. absurd (no_file directory file is kind))

  pub bare_inserted : IsDirectory files tag → (number : ℕ) (page : List ℕ) → HaveNoIndex (with_change tag (insert_index number page) files)
  bare_inserted directory number page = bare_changed (insert_index number page) (λ file is bare kind. absurd (no_file directory file is kind))

  -- one that is made, and one that is taken out
  pub bare_made : (kind : Kind) (uid gid : ℕ) → HaveNoIndex (with_file tag (shown_new kind uid gid) files)
  bare_made kind uid gid t = by_tag (same_tag t tag)
    where
      by_tag : (b : Bool) → IfSome (cond b (Some (shown_new kind uid gid)) (files t)) IsBare
      by_tag true = λ is_file. refl
      by_tag false = was t

  pub bare_taken : HaveNoIndex (without_file tag files)
  bare_taken t = by_tag (same_tag t tag)
    where
      by_tag : (b : Bool) → IfSome (cond b None (files t)) IsBare
      by_tag true = tt
      by_tag false = was t
