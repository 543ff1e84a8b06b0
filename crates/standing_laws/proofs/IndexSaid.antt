-- A first cell that says another index, or that its file goes and has none: what is asked of it.
use Rattle.std.proofs.Common.{◌≡◌, ◌∙◌, ◌≤◌, ℕ, true, false, List, ◌∷◌, Option, Some, None, IfSome, is_some, refl, sym, ap, arith}
use Rattle.std.specs.Option.{option_map, option_map_or}
use Rattle.domain_standing.specs.domain_base.declared.version.Version.{Version}
use Rattle.domain_standing.specs.page_store.Pages.{Pages}
use Rattle.domain_standing.specs.cell_records.Records.{kind_of, last_kind}
use Rattle.domain_standing.specs.cell_records.declared.record.Leftover.TheVariants.{Remove}
use Rattle.domain_standing.specs.cell_records.declared.record.Record.TheVariants as written
use Rattle.domain_standing.specs.metadata_cells.Cell.{Cell, record_of}
use Rattle.domain_standing.specs.metadata_cells.Chain.{PlacedCell}
use Rattle.domain_standing.specs.file_chains.Files.{AreFile}
use Rattle.domain_standing.specs.fileset_files.declared.indexing.IndexPlace.{IndexPlace}
use Rattle.domain_standing.specs.fileset_files.Changes.{says_removed}
use Rattle.domain_standing.specs.fileset_files.Files.{is_first_kind, is_removed, says_remove}
use Rattle.domain_standing.specs.fileset_files.Index.{index_record, says_index}
use Rattle.domain_standing.proofs.OfFilesetFiles.FirstCell.{find_other, find_put, map_stays}
use Rattle.domain_standing.proofs.OfFilesetFiles.FirstTogether.{index_keeps, not_of, rows}
use Rattle.domain_standing.specs.fileset_table.Table.{Table}
use Rattle.domain_standing.proofs.OfReleaseSteps.FirstWell.{SaysBeside}
use Rattle.domain_standing.specs.domain_layout.CellRules.{is_good_first, keeps_well, says_directory}
use Rattle.standing_laws.proofs.RestFirst.{AreFirsts, AreKnown, SaysWell, low_kind, removed_good, removed_known, removed_well}
use Rattle.standing_laws.proofs.RestRecords.{all_first, first_alike, kinds_put}

pub of_nine : (o : Option IndexPlace) → IfSome (option_map index_record o) (λ r. kind_of r ≡ 9)
of_nine None = tt
of_nine (Some index) = refl

pub index_other : (o : Option IndexPlace) (cell : Cell) (k : ℕ) → ¬ k ≡ 9 → record_of k (says_index o cell).records ≡ record_of k cell.records
index_other o cell k nine = find_other 9 k (option_map index_record o) cell.records nine (of_nine o)

pub index_firsts : (o : Option IndexPlace) (cell : Cell) → AreFirsts cell.records → AreFirsts (says_index o cell).records
index_firsts o cell firsts = kinds_put (λ k. is_first_kind k ≡ true) 9 (option_map index_record o) cell.records firsts (by_index o)
  where
    by_index : (o : Option IndexPlace) → IfSome (option_map index_record o) (λ r. is_first_kind (kind_of r) ≡ true)
    by_index None = tt
    by_index (Some index) = refl

module _ (o : Option IndexPlace) (cell : Cell) where
  other : (k : ℕ) → ¬ k ≡ 9 → record_of k (says_index o cell).records ≡ record_of k cell.records
  other = index_other o cell

  pub index_known : (version : Version) → AreKnown version cell.records → AreKnown version (says_index o cell).records
  index_known version was = kinds_put (λ k. k ≤ last_kind version) 9 (option_map index_record o) cell.records was (by_index o)
    where
      by_index : (o : Option IndexPlace) → IfSome (option_map index_record o) (λ r. kind_of r ≤ last_kind version)
      by_index None = tt
      by_index (Some index) = low_kind version 9 (omega arith)

  pub index_good : (table : Table) → is_good_first table cell ≡ true → AreFirsts cell.records → is_good_first table (says_index o cell) ≡ true
  index_good table was firsts = first_alike table cell (says_index o cell) refl (record {
    one = ap is_some (other 1 (λ e. omega (arith, e)));
    clone = ap is_some (other 2 (λ e. omega (arith, e)));
    four = ap is_some (other 4 (λ e. omega (arith, e)));
    parent = ap is_some (other 10 (λ e. omega (arith, e)));
    fourteen = ap is_some (other 14 (λ e. omega (arith, e)));
    kinds = all_first (says_index o cell).records (index_firsts o cell firsts) ∙ sym (all_first cell.records firsts);
    directory = ap (λ o. option_map_or says_directory o false) (other 1 (λ e. omega (arith, e)));
    removed = ap (λ o. option_map_or says_remove o false) (other 6 (λ e. omega (arith, e)));
    keeps = λ i. option_map_or (λ r. keeps_well r (is_some (other 6 (λ e. omega (arith, e)) i))) (other 1 (λ e. omega (arith, e)) i) false;
  }) ∙ was

pub index_well : (version : Version) (table : Table) (o : Option IndexPlace) (cell : Cell) → SaysWell version table cell → AreFirsts cell.records → SaysWell version table (says_index o cell)
index_well version table o cell was firsts = record {
  known = index_known o cell version was.known;
  good = index_good o cell table was.good firsts;
  births = λ value is. was.births value (sym (index_other o cell 1 (λ e. omega (arith, e))) ∙ is);
}

-- ---- a file that is to be removed, and has no index then

abbrev pub says_gone : Cell → Cell
says_gone cell = says_removed (says_index None cell)

pub gone_there : (cell : Cell) → record_of 6 (says_removed cell).records ≡ Some (written.Pending Remove)
gone_there cell = find_put 6 (Some (written.Pending Remove)) cell.records refl

pub removed_firsts : (cell : Cell) → AreFirsts cell.records → AreFirsts (says_removed cell).records
removed_firsts cell firsts = kinds_put (λ k. is_first_kind k ≡ true) 6 (Some (written.Pending Remove)) cell.records firsts refl

pub gone_well : (version : Version) (table : Table) (first : PlacedCell) (rest : List PlacedCell) → SaysWell version table first.cell → AreFirsts first.cell.records → is_removed (first ∷ rest) ≡ false → SaysWell version table (says_gone first.cell)
gone_well version table first rest was firsts live =
    removed_well version table (record { at = first.at; cell = says_index None first.cell }) rest (index_well version table None first.cell was firsts) (index_firsts None first.cell firsts)
    (ap (λ o. option_map_or says_remove o false) (index_other None first.cell 6 (λ e. omega (arith, e))) ∙ live)
    (removed_firsts (says_index None first.cell) (index_firsts None first.cell firsts))

pub gone_beside : (pages : Pages) (first : PlacedCell) (rest : List PlacedCell) → AreFile pages first rest → SaysBeside says_gone first.cell
gone_beside pages first rest file = record {
  maps = map_stays 6 (Some (written.Pending Remove)) (says_index None first.cell).records file.value (index_keeps pages first rest file None ∙ file.map.only) (not_of file.value 6 (rows pages first rest file) refl) refl ∙ sym file.map.only;
  source = find_other 6 2 (Some (written.Pending Remove)) (says_index None first.cell).records (λ e. omega (arith, e)) refl ∙ index_other None first.cell 2 (λ e. omega (arith, e));
}

pub gone_known : (version : Version) (cell : Cell) → AreKnown version cell.records → AreKnown version (says_gone cell).records
gone_known version cell was = removed_known version (says_index None cell) (index_known None cell version was)

pub gone_good : (table : Table) (cell : Cell) → is_good_first table cell ≡ true → AreFirsts cell.records → is_good_first table (says_gone cell) ≡ true
gone_good table cell was firsts = removed_good table (says_index None cell) (index_good None cell table was firsts) (index_firsts None cell firsts) (removed_firsts (says_index None cell) (index_firsts None cell firsts))

-- it names no index
pub gone_none : (cell : Cell) → record_of 9 (says_gone cell).records ≡ None
gone_none cell = find_other 6 9 (Some (written.Pending Remove)) (says_index None cell).records (λ e. omega (arith, e)) refl ∙ find_put 9 None cell.records tt
