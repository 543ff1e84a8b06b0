-- What was read by the cell to which a tag leads is what a fileset has at the tag.
use Rattle.std.proofs.Common.{◌≡◌, ◌∙◌, inl, inr, ℕ, List, Option, Some, None, IsSomeAnd, sym, subst, ⊎_elim}
use Rattle.index_row_faults.specs.domain_base.declared.place.CellAt.{CellAt}
use Rattle.index_row_faults.specs.domain_base.declared.place.Tag.{Tag}
use Rattle.index_row_faults.specs.page_store.Pages.{Pages}
use Rattle.index_row_faults.specs.tag_dirs.Directory.{cell_of}
use Rattle.index_row_faults.specs.tag_dirs.declared.dir.TagPlace.{TagPlace}
use Rattle.index_row_faults.specs.domain_layout.Reached.{Frame}
use Rattle.index_row_faults.specs.directory_faults.declared.there.FileThere.{FileThere}
use Rattle.slot_files.specs.Files.{IsBehind, IsInClone, IsInOriginal, IsOfClone, IsOfOriginal, IsThrough, ReadsSo}
use Rattle.slot_files.proofs.ReadFiles.{reads_none, reads_same}

no_cell : {P : Type 0} (at : CellAt) → None ≡ Some at → P
no_cell at is = absurd (cc)

module _ (pages : Pages) (frame : Frame) where
  pub in_original : (dir : List TagPlace) (tag : Tag) (at : CellAt) → cell_of pages dir tag ≡ Some at → (found : Option FileThere) → ReadsSo frame tag (IsOfOriginal pages at) found → ReadsSo frame tag (IsInOriginal pages dir tag) found
  in_original dir tag at leads found reads =
      reads_same frame tag (IsOfOriginal pages at) (IsInOriginal pages dir tag) found
      (λ cells seen so. subst (λ o. IsSomeAnd o (λ a. IsOfOriginal pages a cells seen)) (sym leads) so)
      (λ cells seen so. subst (λ o. IsSomeAnd o (λ a. IsOfOriginal pages a cells seen)) leads so) reads

  pub not_in_original : (dir : List TagPlace) (tag : Tag) → cell_of pages dir tag ≡ None → ReadsSo frame tag (IsInOriginal pages dir tag) None
  not_in_original dir tag none =
      reads_none frame tag (IsInOriginal pages dir tag) (λ cells seen so. subst (λ o. IsSomeAnd o (λ a. IsOfOriginal pages a cells seen)) none so)

  module _ (own behind : List TagPlace) (number : ℕ) (tag : Tag) where
    pub in_own : (at : CellAt) → cell_of pages own tag ≡ Some at → (found : Option FileThere) → ReadsSo frame tag (IsOfClone pages at) found → ReadsSo frame tag (IsInClone pages own behind number tag) found
    in_own at leads found reads =
        reads_same frame tag (IsOfClone pages at) (IsInClone pages own behind number tag) found
        (λ cells seen so. inl (subst (λ o. IsSomeAnd o (λ a. IsOfClone pages a cells seen)) (sym leads) so))
        (λ cells seen so. ⊎_elim (λ its. subst (λ o. IsSomeAnd o (λ a. IsOfClone pages a cells seen)) leads its) (λ other. no_cell at (sym other.0 ∙ leads)) so) reads

    pub in_clone : cell_of pages own tag ≡ None → (found : Option FileThere) → ReadsSo frame tag (IsBehind pages behind number tag) found → ReadsSo frame tag (IsInClone pages own behind number tag) found
    in_clone none found reads =
        reads_same frame tag (IsBehind pages behind number tag) (IsInClone pages own behind number tag) found
        (λ cells seen so. inr (none, so))
        (λ cells seen so. ⊎_elim (λ its. absurd (subst (λ o. IsSomeAnd o (λ a. IsOfClone pages a cells seen)) none its)) (λ other. other.1) so) reads

  module _ (behind : List TagPlace) (number : ℕ) (tag : Tag) where
    pub in_behind : (at : CellAt) → cell_of pages behind tag ≡ Some at → (found : Option FileThere) → ReadsSo frame tag (IsThrough pages number at) found → ReadsSo frame tag (IsBehind pages behind number tag) found
    in_behind at leads found reads =
        reads_same frame tag (IsThrough pages number at) (IsBehind pages behind number tag) found
        (λ cells seen so. subst (λ o. IsSomeAnd o (λ a. IsThrough pages number a cells seen)) (sym leads) so)
        (λ cells seen so. subst (λ o. IsSomeAnd o (λ a. IsThrough pages number a cells seen)) leads so) reads

    pub not_behind : cell_of pages behind tag ≡ None → ReadsSo frame tag (IsBehind pages behind number tag) None
    not_behind none =
        reads_none frame tag (IsBehind pages behind number tag) (λ cells seen so. subst (λ o. IsSomeAnd o (λ a. IsThrough pages number a cells seen)) none so)
