-- Why what stands at a path does not go, by its row and its own rows.
use Rattle.std.proofs.Common.{◌≡◌, ◌∙◌, ◌==◌, ◌||◌, ◌≤◌, ℕ, Bool, true, false, not, List, [], ◌∷◌, Option, Some, None, IfSome, length, refl, sym, ap, subst, arith, eqb-true}
use Rattle.plain_program.specs.domain_base.declared.place.Kind.{Kind}
use Rattle.plain_program.specs.domain_base.declared.place.Kind.TheVariants as kinds
use Rattle.plain_program.specs.domain_base.declared.place.Tag.{Tag}
use Rattle.directory_rows.specs.page_store.Bitfiles.{Bitfile, Bitfiles, IsBitfile, IsDirectory}
use Rattle.directory_rows.specs.directory_pages.declared.row.Row.{Row}
use Rattle.directory_rows.specs.Directory.{IsWellFormed, rows_in}
use Rattle.std.proofs.lemmas.Bool.{not-false}
use Rattle.std.specs.Option.{option_and_then, option_map_or}
use Rattle.std.specs.FinMap as map
use Rattle.plain_program.specs.fileset_model.Apply.{is_named_elsewhere, not_empty}
use Rattle.plain_program.specs.fileset_values.Orders.{Path}
use Rattle.plain_program.specs.fileset_model.Paths.{file_here, first_refusal, is_directory, node_at, refuse_if, rows_of, target_refusal}
use Rattle.plain_program.specs.fileset_model.declared.fileset.FilesetSlot.{FilesetSlot}
use Rattle.plain_program.specs.fileset_values.declared.reply.Refusal.{Refusal}
use Rattle.plain_program.specs.fileset_values.declared.reply.Refusal.TheVariants.{IsDirectory as IsDirectoryHere, NotDirectory, NotEmpty}
use Rattle.plain_program.specs.legal_histories.Valid.{IsDirectoryAt, IsValidFileset}
use Rattle.plain_program.proofs.OfLegalHistories.ValidCountLemmas.{named_by}
use Rattle.plain_program.proofs.OfLegalHistories.ValidLemmas.{passed, passed_test, to_some_and}
use Rattle.plain_program.proofs.OfLegalHistories.ValidTreeLemmas.{at_directory, some_of}
use Rattle.name_space.specs.Changes.{IsOriginal, Removes, leaf_checks, leaf_refusal, rmdir_checks}
use Rattle.name_space.specs.Names.{is_directory_kind, led_to, number_of}
use Rattle.name_space.proofs.Listed.{row_count_is}
use Rattle.name_space.proofs.Originals.{IsIn, all_shown, is_in}
use Rattle.name_space.proofs.Spots.{directory_here_is, file_here_is}
use Rattle.name_space.proofs.Taken.{file_rows}

one_refusal : (test : Bool) (refusal : Refusal) → first_refusal (refuse_if test refusal ∷ []) ≡ refuse_if test refusal
one_refusal true refusal = refl
one_refusal false refusal = refl

-- what a refusal leaves out
pub leaf_kind : (of is : Kind) (bare : Bool) → leaf_refusal of is bare ≡ None → is ≡ of
leaf_kind kinds.File kinds.File bare none = refl
leaf_kind kinds.File kinds.Directory bare none = cc
leaf_kind kinds.Directory kinds.File bare none = cc
leaf_kind kinds.Directory kinds.Directory bare none = refl

bare_leaf : (bare : Bool) → leaf_refusal kinds.Directory kinds.Directory bare ≡ None → bare ≡ true
bare_leaf true none = refl
bare_leaf false none = cc

no_row : (rows : List Row) → length rows ≡ 0 → rows ≡ []
no_row [] is = refl
no_row (row ∷ rows) is = absurd (omega (arith, is))

module _ (files : Bitfiles) (slot : FilesetSlot) (original : IsOriginal files slot) (path : Path) (some : 1 ≤ length path) (tag : Tag) (is : Kind) (led : led_to files path ≡ Some (tag, is)) where
  had : IsIn files slot.tree tag is
  had = is_in files slot original.names original.role path tag is led

  directory : is ≡ kinds.Directory → IsDirectory files tag
  directory of = to_some_and (λ (f : Bitfile). f.kind ≡ kinds.Directory) (files tag) had.file had.there (had.kind ∙ of)

  pub leaf_good : is ≡ kinds.Directory → IsWellFormed files tag
  leaf_good of = original.names.directories tag (directory of)

  not_empty_is : is ≡ kinds.Directory → not_empty slot path ≡ refuse_if (not (length (rows_in files tag) == 0)) NotEmpty
  not_empty_is of =
      let good = leaf_good of in
      let rows : length (rows_in files tag) ≡ length (rows_of slot.tree path) =
      row_count_is files slot tag original.names good.directory good.names path (all_shown files slot original.names original.role path) (led ∙ ap (λ k. Some (tag, k)) of) in
      ap (λ b. refuse_if (b || not (length (rows_of slot.tree path) == 0)) NotEmpty) (long (length path) some)
      ∙ ap (λ n. refuse_if (not (n == 0)) NotEmpty) (sym rows)
    where
      long : (n : ℕ) → 1 ≤ n → (n == 0) ≡ false
      long n some = elim (n == 0) as (λ b. (n == 0) ≡ b → b ≡ false) [
        | true ↦ λ zero. absurd (omega (arith, some, eqb-true n 0 zero))
        | false ↦ λ other. refl
      ] refl

  pub leaf_checked : (of : Kind) → first_refusal (leaf_checks of path slot) ≡ leaf_refusal of is (length (rows_in files tag) == 0)
  leaf_checked kinds.File =
      one_refusal _ IsDirectoryHere ∙ directory_here_is files slot original path tag is led
  leaf_checked kinds.Directory =
      ap (λ (r : Option Refusal). first_refusal (r ∷ not_empty slot path ∷ [])) (file_here_is files slot original path tag is led)
      ∙ rest_checked is refl
    where
      rest_checked : (k : Kind) → is ≡ k → first_refusal (refuse_if (not (is_directory_kind k)) NotDirectory ∷ not_empty slot path ∷ []) ≡ leaf_refusal kinds.Directory k (length (rows_in files tag) == 0)
      rest_checked kinds.File of = refl
      rest_checked kinds.Directory of = ap (λ (r : Option Refusal). first_refusal (None ∷ r ∷ [])) (not_empty_is of)

  -- what can go has no row
  pub leaf_rows : IfSome (files tag) IsBitfile → (of : Kind) → leaf_refusal of is (length (rows_in files tag) == 0) ≡ None → rows_in files tag ≡ []
  leaf_rows sound of none = by_kind of is refl none
    where
      by_kind : (of k : Kind) → is ≡ k → leaf_refusal of k (length (rows_in files tag) == 0) ≡ None → rows_in files tag ≡ []
      by_kind kinds.File kinds.File same none = file_rows files tag had.file had.there sound (had.kind ∙ same)
      by_kind kinds.File kinds.Directory same none = cc
      by_kind kinds.Directory kinds.File same none = cc
      by_kind kinds.Directory kinds.Directory same none = no_row (rows_in files tag) (eqb-true (length (rows_in files tag)) 0 (bare_leaf (length (rows_in files tag) == 0) none))

-- ---- directories have one path

module _ (slot : FilesetSlot) (valid : IsValidFileset slot.tree) (path : Path) (number : ℕ) (at : map.get slot.tree.paths path ≡ Some number) where
  directory_here : file_here slot path ≡ None → IsDirectoryAt slot.tree path
  directory_here none =
      let node = some_of (map.get slot.tree.nodes number) (valid.led_to path number at) in
      let is : node_at slot.tree path ≡ Some node.0 = ap (option_and_then (map.get slot.tree.nodes)) at ∙ node.1 in
      let test = passed_test (option_map_or (λ node. not (is_directory node)) (node_at slot.tree path) false) NotDirectory none in
      at_directory slot.tree path (record {
        number = number;
        node = node.0;
        leads = at;
        is = node.1;
        directory = not-false (is_directory node.0) (sym (ap (λ o. option_map_or (λ node. not (is_directory node)) o false) is) ∙ test);
      })

  pub one_of_directory : file_here slot path ≡ None → is_named_elsewhere slot.tree path number ≡ false
  one_of_directory none = elim (is_named_elsewhere slot.tree path number) as (λ b. is_named_elsewhere slot.tree path number ≡ b → b ≡ false) [
    | true ↦ λ is.
        let other = named_by slot.tree path number is in
        absurd (other.1 (sym (valid.one_path path other.0 number (directory_here none) at other.2)))
    | false ↦ λ is. refl
  ] refl

-- a directory that was removed is gone
pub directory_gone : (old new : Bitfiles) (slot : FilesetSlot) → IsOriginal old slot → (path : Path) (tag : Tag) (gone : Bool) → Removes (rmdir_checks path) path slot old new tag gone → Removes (rmdir_checks path) path slot old new tag true
directory_gone old new slot original path tag gone removes =
    let rest = (passed (target_refusal slot path) (file_here slot path ∷ not_empty slot path ∷ []) removes.allowed).1 in
    let none : file_here slot path ≡ None = (passed (file_here slot path) (not_empty slot path ∷ []) rest).0 in
    subst (λ b. Removes (rmdir_checks path) path slot old new tag b)
    (removes.last ∙ ap not (one_of_directory slot original.valid path (number_of tag) removes.was none)) removes
