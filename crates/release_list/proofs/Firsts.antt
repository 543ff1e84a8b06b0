-- Records of first cells that say nothing of pages, where those that do are others; and what goes by
-- what first cells say.
use Rattle.std.proofs.Common.{◌≡◌, ◌∙◌, inl, inr, ℕ, not, true, false, is_some, nat_le, List, [], ◌∷◌, Option, Some, None, refl, sym, ap, ⊎_elim}
use Rattle.std.specs.Option.{option_and_then}
use Rattle.file_release.specs.domain_base.declared.place.CellAt.{CellAt}
use Rattle.file_release.specs.cell_records.declared.record.Record.{Record}
use Rattle.file_release.specs.cell_records.Records.{kind_of}
use Rattle.file_release.specs.metadata_cells.Cell.{record_of}
use Rattle.file_release.specs.metadata_cells.Chain.{PlacedCell}
use Rattle.file_release.specs.extent_records.Writing.{most_rows}
use Rattle.file_release.specs.file_chains.FileChanges.{SameFirst}
use Rattle.file_release.specs.file_chains.Files.{has_rows}
use Rattle.file_release.specs.fileset_files.Files.{first_record}
use Rattle.file_release.proofs.OfFilesetFiles.FirstCell.{find_filter}
use Rattle.release_list.specs.Listed.{SaysWhatGoes, record_at}
use Rattle.release_list.specs.Standing.{Files}

pub first_same : (k : ℕ) → nat_le 1 (most_rows k) ≡ false → (chain after : List PlacedCell) → SameFirst chain after → first_record k after ≡ first_record k chain
first_same k none [] after same = absurd same
first_same k none (a ∷ xs) [] same = absurd same
first_same k none (a ∷ xs) (b ∷ ys) same =
    sym (find_filter k (λ r. not (has_rows r)) b.cell.records keeps) ∙ ap (record_of k) same.2 ∙ find_filter k (λ r. not (has_rows r)) a.cell.records keeps
  where
    keeps : (r : Record) → kind_of r ≡ k → not (has_rows r) ≡ true
    keeps r is = ap (λ (j : ℕ). not (nat_le 1 (most_rows j))) is ∙ ap not none

pub then_then : {X Y Z : Type 0} (f : Y → Option Z) (g : X → Option Y) (o : Option X) → option_and_then (λ x. option_and_then f (g x)) o ≡ option_and_then f (option_and_then g o)
then_then f g None = refl
then_then f g (Some x) = refl

-- where a first cell has the same records of what is left and of attributes, the same goes
pub says_by : (files now : Files) (a : CellAt) → record_at now 6 a ≡ record_at files 6 a → record_at now 1 a ≡ record_at files 1 a → SaysWhatGoes files a → SaysWhatGoes now a
says_by files now a six one says = ⊎_elim (λ some. inl (ap is_some six ∙ some)) (λ none. inr (one ∙ none)) says

pub says_same : (files now : Files) (a : CellAt) → now a ≡ files a → SaysWhatGoes files a → SaysWhatGoes now a
says_same files now a same says = says_by files now a (ap (option_and_then (first_record 6)) same) (ap (option_and_then (first_record 1)) same) says
