-- What the first cell of a chain says of its file goes on to be said where the chain is another.
use Rattle.std.proofs.Common.{IfSome, List, None, Option, Some, [], ℕ, ◌∙◌, ◌∷◌, ◌≡◌, ap, arith, false, refl, sym, true}
use Rattle.std.specs.Option.{option_and_then, option_map, option_map_or}
use Rattle.release_list.specs.domain_base.declared.place.Tag.{Tag}
use Rattle.release_list.specs.cell_records.declared.record.Record.{Record}
use Rattle.release_list.specs.cell_records.Records.{kind_of}
use Rattle.release_list.specs.metadata_cells.Cell.{record_of}
use Rattle.release_list.specs.metadata_cells.Chain.{PlacedCell}
use Rattle.release_list.specs.file_chains.Changes.{with_kind}
use Rattle.release_list.specs.file_chains.FileChanges.{SameFirst}
use Rattle.release_list.specs.fileset_files.Changes.{with_first}
use Rattle.release_list.specs.fileset_files.Files.{HasFirstKinds, IsOf, first_record, is_first_kind, is_removed, says_remove}
use Rattle.release_list.proofs.OfFilesetFiles.FirstRoom.{kinds_replaced}
use Rattle.release_list.proofs.OfFilesetFiles.OneChain.{kinds_same}
use Rattle.release_list.specs.Listed.{left_of, leftover_in}
use Rattle.release_list.specs.Steps.{kept_all, says_no_source, says_trimmed, without_source}
use Rattle.release_list.proofs.Firsts.{first_same}
use Rattle.release_list.proofs.Records.{kept_of, source_of_kind, sourceless_other}
use Rattle.release_steps.specs.Tags.{start_of}
use Rattle.release_steps.proofs.AllKept.{none_trimmed, trimmed_first}

-- it begins there, is of the same tag, has kinds of records that it may have, and is not to be
-- removed, if it was
pub record SaysSame (cells after : List PlacedCell) : Type 0 where
  pub start : start_of after ≡ start_of cells
  pub is_of : (fileset : ℕ) (tag : Tag) → IsOf fileset tag cells → IsOf fileset tag after
  pub kinds : HasFirstKinds cells → HasFirstKinds after
  pub live : is_removed cells ≡ false → is_removed after ≡ false
  pub attributes : ¬ first_record 1 cells ≡ None → ¬ first_record 1 after ≡ None

pub says_itself : (cells : List PlacedCell) → SaysSame cells cells
says_itself cells = record { start = refl; is_of = λ fileset tag is. is; kinds = λ has. has; live = λ is. is; attributes = λ has. has }

pub says_first : (cells after : List PlacedCell) → SameFirst cells after → SaysSame cells after
says_first [] after same = absurd same
says_first (a ∷ xs) [] same = absurd same
says_first (a ∷ xs) (b ∷ ys) same = record {
  start = ap Some same.0;
  is_of = λ fileset tag is. (ap (λ h. h.slot) same.1 ∙ is.0, ap (λ h. h.seq) same.1 ∙ is.1, ap (λ h. h.fileset) same.1 ∙ is.2);
  kinds = λ has. kinds_same (a ∷ xs) (b ∷ ys) same has;
  live = λ is. ap (λ o. option_map_or says_remove o false) (first_same 6 refl (a ∷ xs) (b ∷ ys) same) ∙ is;
  attributes = λ has none. has (sym (first_same 1 refl (a ∷ xs) (b ∷ ys) same) ∙ none);
}

-- records of a kind that a first cell may have
kinds_kept : (kind : ℕ) → is_first_kind kind ≡ true → (o : Option Record) → IfSome o (λ r. kind_of r ≡ kind) → IfSome o (λ r. is_first_kind (kind_of r) ≡ true)
kinds_kept kind may None is = tt
kinds_kept kind may (Some r) is = ap is_first_kind is ∙ may

map_none : (change : Record → Record) (o : Option Record) → option_map change o ≡ None → o ≡ None
map_none change None is = refl
map_none change (Some r) is = absurd (let e : Some (change r) ≡ None = is in cc)

pub says_trim : (cells : List PlacedCell) → SaysSame cells (with_first says_trimmed cells)
says_trim [] = says_itself []
says_trim (first ∷ rest) = record {
  start = refl;
  is_of = λ fileset tag is. is;
  kinds = λ has. kinds_replaced 6 None (with_kind 1 (option_map kept_all (record_of 1 first.cell.records)) first.cell.records)
      (kinds_replaced 1 (option_map kept_all (record_of 1 first.cell.records)) first.cell.records has
      (kinds_kept 1 refl (option_map kept_all (record_of 1 first.cell.records)) (kept_of first.cell)))
      tt;
  live = λ is. ap (λ o. option_map_or says_remove o false) (none_trimmed first.cell);
  attributes = λ has none. has (map_none kept_all (record_of 1 first.cell.records) (sym (trimmed_first first.cell) ∙ none));
}

pub says_alone : (cells : List PlacedCell) → SaysSame cells (with_first says_no_source cells)
says_alone [] = says_itself []
says_alone (first ∷ rest) = record {
  start = refl;
  is_of = λ fileset tag is. is;
  kinds = λ has. kinds_replaced 2 (option_map without_source (record_of 2 first.cell.records)) first.cell.records has
      (kinds_kept 2 refl (option_map without_source (record_of 2 first.cell.records)) (source_of_kind first.cell));
  live = λ is. ap (λ o. option_map_or says_remove o false) (sourceless_other first.cell 6 (λ e. omega (arith, e))) ∙ is;
  attributes = λ has none. has (sym (sourceless_other first.cell 1 (λ e. omega (arith, e))) ∙ none);
}

-- ---- what is left to be done

pub left_first : (cells after : List PlacedCell) → SameFirst cells after → left_of after ≡ left_of cells
left_first [] after same = absurd same
left_first (a ∷ xs) [] same = absurd same
left_first (a ∷ xs) (b ∷ ys) same = ap (option_and_then leftover_in) (first_same 6 refl (a ∷ xs) (b ∷ ys) same)

pub left_alone : (cells : List PlacedCell) → left_of (with_first says_no_source cells) ≡ left_of cells
left_alone [] = refl
left_alone (first ∷ rest) = ap (option_and_then leftover_in) (sourceless_other first.cell 6 (λ e. omega (arith, e)))
