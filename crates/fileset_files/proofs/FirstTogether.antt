-- All belongs together where one file's first cell says something else, but not of pages.
use Rattle.std.proofs.Common.{◌≡◌, ◌∙◌, ℕ, ◌∷◌, ◌++◌, true, false, nat_le, List, Option, Some, None, IfSome, IsSome, refl, sym, ap, subst, ⊎_elim}
use Rattle.std.proofs.lemmas.Bool.{cases_Bool, true≢false}
use Rattle.std.specs.Option.{option_map, option_map_or}
use Rattle.file_chains.specs.domain_base.declared.place.Tag.{Tag}
use Rattle.file_chains.specs.page_store.Pages.{Pages}
use Rattle.file_chains.specs.page_store.Bitfiles.{same_tag}
use Rattle.file_chains.specs.cell_records.declared.record.Record.{Record}
use Rattle.file_chains.specs.cell_records.declared.record.Record.TheVariants as written
use Rattle.file_chains.specs.cell_records.Records.{kind_of}
use Rattle.file_chains.specs.metadata_cells.Cell.{Cell, record_of}
use Rattle.file_chains.specs.metadata_cells.CellPage.{KeepsHeaders, KeepsWellFormed}
use Rattle.file_chains.specs.metadata_cells.Chain.{LeavesOthers, PlacedCell, StandsAt, is_at, records_of}
use Rattle.tag_dirs.specs.declared.dir.TagPlace.{TagPlace}
use Rattle.file_chains.specs.extent_maps.declared.run.PagePlace.TheVariants.{Absent}
use Rattle.file_chains.specs.extent_maps.Runs.{place_of}
use Rattle.file_chains.specs.extent_records.Rows.{runs_in, runs_of}
use Rattle.file_chains.specs.extent_records.Writing.{most_rows}
use Rattle.file_chains.specs.free_cells.Cells.{Cells}
use Rattle.file_chains.specs.free_space.Spaces.{Spaces}
use Rattle.file_chains.specs.FileChanges.{AreOnTables}
use Rattle.file_chains.specs.Files.{AreFile, has_rows, map_records, places_of}
use Rattle.file_chains.proofs.Added.{not_zeros}
use Rattle.file_chains.proofs.ChainChanges.{at_apart}
use Rattle.file_chains.proofs.MapRecords.{kind_found, runs_by_map, value_has_rows}
use Rattle.file_chains.proofs.Still.{allocated_still}
use Rattle.fileset_files.specs.declared.attributes.Attributes.{Attributes}
use Rattle.fileset_files.specs.Changes.{says_attributes, says_parent, with_attributes, with_chain, with_first}
use Rattle.fileset_files.specs.declared.indexing.IndexPlace.{IndexPlace}
use Rattle.fileset_files.specs.Files.{AreFiles, Chains, place_at}
use Rattle.fileset_files.specs.Stripes.{says_stripe, stripe_record}
use Rattle.fileset_files.specs.declared.striping.Stripe.{Stripe}
use Rattle.fileset_files.specs.Index.{index_record, says_index}
use Rattle.fileset_files.specs.Together.{AreTogether}
use Rattle.std.proofs.lemmas.Grind.{flat_map-append}
use Rattle.fileset_files.proofs.FirstCell.{map_stays}
use Rattle.fileset_files.proofs.OneChain.{chain_other, chain_same}
use Rattle.fileset_files.proofs.OneFile.{tags_same}
use Rattle.fileset_files.specs.Truncation.{says_truncated}
use Rattle.fileset_files.proofs.Room.{attributes_kind}
use Rattle.fileset_files.proofs.Truncated.{maps_truncated}

module _ (old new : Pages) (fileset : ℕ) (places : List TagPlace) (tag : Tag) (chains : Chains) (space : Spaces) (cells : Cells) (change : Cell → Cell) (are : AreTogether fileset places space cells old chains)
    (files : AreFiles fileset places new (with_chain tag (with_first change) chains)) (first : PlacedCell) (rest : List PlacedCell) (is : chains tag ≡ Some (first ∷ rest)) (stands : StandsAt old first.at first.cell) (leaves : LeavesOthers (is_at first.at) old new)
    (good : KeepsWellFormed old new) (headers : KeepsHeaders old new) (maps : runs_of (records_of (with_first change (first ∷ rest))) ≡ runs_of (records_of (first ∷ rest))) where
  abbrev now : Chains
  now = with_chain tag (with_first change) chains

  now_tag : (t : Tag) → same_tag t tag ≡ true → now t ≡ Some (with_first change (first ∷ rest))
  now_tag t same = chain_same tag (with_first change) chains t same ∙ ap (λ (u : Tag). option_map (with_first change) (chains u)) (tags_same t tag same) ∙ ap (option_map (with_first change)) is

  place_same : (t : Tag) (p : ℕ) → place_at now t p ≡ place_at chains t p
  place_same t p = ⊎_elim
      (λ same.
      ap (λ o. option_map_or (λ cs. places_of cs p) o Absent) (now_tag t same) ∙ ap (λ rs. place_of rs p) maps
      ∙ sym (ap (λ o. option_map_or (λ cs. places_of cs p) o Absent) is) ∙ sym (ap (λ (u : Tag). place_at chains u p) (tags_same t tag same)))
      (λ other. ap (λ o. option_map_or (λ cs. places_of cs p) o Absent) (chain_other tag (with_first change) chains t other))
      (cases_Bool (same_tag t tag))

  on_now : (t : Tag) → IfSome (now t) (AreOnTables cells)
  on_now t = ⊎_elim
      (λ same. subst (λ o. IfSome o (AreOnTables cells)) (sym (now_tag t same)) (subst (λ o. IfSome o (AreOnTables cells)) is (are.on_tables tag)))
      (λ other. subst (λ o. IfSome o (AreOnTables cells)) (sym (chain_other tag (with_first change) chains t other)) (are.on_tables t))
      (cases_Bool (same_tag t tag))

  pub together_first : AreTogether fileset places space cells new (with_chain tag (with_first change) chains)
  together_first = record {
    files = files;
    allocated = allocated_still space cells old new are.allocated good headers (is_at first.at) leaves (λ q free. at_apart first.at q (λ same. not_zeros old q first.at first.cell (are.allocated.belong.zeros q free) stands (sym same)));
    on_tables = on_now;
    tag_pages = are.tag_pages;
    file_pages = λ t p h there. are.file_pages t p h (sym (place_same t p) ∙ there);
    once = λ s t p q h a b. are.once s t p q h (sym (place_same s p) ∙ a) (sym (place_same t q) ∙ b);
  }

-- a first cell whose record that says where pages stand is the same
pub runs_kept : (change : Cell → Cell) (first : PlacedCell) (rest : List PlacedCell) → map_records (change first.cell).records ≡ map_records first.cell.records → runs_of (records_of (with_first change (first ∷ rest))) ≡ runs_of (records_of (first ∷ rest))
runs_kept change first rest same =
    flat_map-append runs_in (change first.cell).records (records_of rest)
    ∙ ap (λ xs. xs ++ runs_of (records_of rest)) (runs_by_map (change first.cell).records ∙ ap runs_of same ∙ sym (runs_by_map first.cell.records))
    ∙ sym (flat_map-append runs_in first.cell.records (records_of rest))

-- ---- which changes leave that record

pub not_of : (map : Record) (k : ℕ) → has_rows map ≡ true → nat_le 1 (most_rows k) ≡ false → ¬ kind_of map ≡ k
not_of map k rows none is = true≢false (sym rows ∙ ap (λ k. nat_le 1 (most_rows k)) is ∙ none)

module _ (pages : Pages) (first : PlacedCell) (rest : List PlacedCell) (file : AreFile pages first rest) where
  pub rows : has_rows file.value ≡ true
  rows = value_has_rows file.value file.map.is_map

  pub attributes_keep : (value : Attributes) → map_records (says_attributes value first.cell).records ≡ map_records first.cell.records
  attributes_keep value =
      map_stays 1 (option_map (with_attributes value) (record_of 1 first.cell.records)) first.cell.records file.value file.map.only (not_of file.value 1 rows refl) (none_there (record_of 1 first.cell.records) refl) ∙ sym file.map.only
    where
      none_there : (o : Option Record) → record_of 1 first.cell.records ≡ o → IfSome (option_map (with_attributes value) o) (λ r. has_rows r ≡ false)
      none_there None is = tt
      none_there (Some r) is = ap (λ k. nat_le 1 (most_rows k)) (attributes_kind value r ∙ kind_found 1 first.cell.records r is)

  pub parent_keeps : (parent : Tag) → map_records (says_parent parent first.cell).records ≡ map_records first.cell.records
  parent_keeps parent = map_stays 10 (Some (written.Parent parent.slot parent.seq)) first.cell.records file.value file.map.only (not_of file.value 10 rows refl) refl ∙ sym file.map.only

  pub stripe_keeps : (stripe : Stripe) → map_records (says_stripe stripe first.cell).records ≡ map_records first.cell.records
  stripe_keeps stripe = map_stays 11 (Some (stripe_record stripe)) first.cell.records file.value file.map.only (not_of file.value 11 rows refl) refl ∙ sym file.map.only

  pub index_keeps : (index : Option IndexPlace) → map_records (says_index index first.cell).records ≡ map_records first.cell.records
  index_keeps index = map_stays 9 (option_map index_record index) first.cell.records file.value file.map.only (not_of file.value 9 rows refl) (no_rows index) ∙ sym file.map.only
    where
      no_rows : (o : Option IndexPlace) → IfSome (option_map index_record o) (λ r. has_rows r ≡ false)
      no_rows None = tt
      no_rows (Some i) = refl

  pub truncated_keeps : (size : ℕ) (lowered : Option ℕ) → map_records (says_truncated size lowered first.cell).records ≡ map_records first.cell.records
  truncated_keeps size lowered = by_attributes (record_of 1 first.cell.records) refl file.attributes
    where
      by_attributes : (o : Option Record) → record_of 1 first.cell.records ≡ o → IsSome o → map_records (says_truncated size lowered first.cell).records ≡ map_records first.cell.records
      by_attributes None is some = absurd (true≢false (sym some))
      by_attributes (Some was) is some = maps_truncated size first.cell was is file.value file.map.only rows lowered ∙ sym file.map.only
