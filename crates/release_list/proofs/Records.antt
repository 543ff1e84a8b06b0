-- Records of first cells that say that nothing is left to be done, or that nothing is read through.
use Rattle.std.proofs.Common.{◌≡◌, ◌∙◌, ℕ, ◌≤◌, false, true, nat_le, List, [], ◌∷◌, Option, Some, None, IfSome, IsSome, inl, length, length-append, refl, sym, ap, subst, arith}
use Rattle.std.specs.Option.{option_map}
use Rattle.file_release.specs.domain_base.declared.place.CellAt.{CellAt}
use Rattle.file_release.specs.page_store.Pages.{Pages}
use Rattle.file_release.specs.cell_records.declared.record.Record.{Record}
use Rattle.file_release.specs.cell_records.declared.record.Record.TheVariants as written
use Rattle.file_release.specs.cell_records.Records.{Allowed, kind_of}
use Rattle.file_release.specs.metadata_cells.Cell.{AreRecords, Cell, record_of, spellings}
use Rattle.file_release.specs.metadata_cells.Chain.{StandsAt}
use Rattle.file_release.proofs.OfMetadataCells.Spellings.{spellings-append}
use Rattle.file_release.proofs.OfMetadataCells.Unique.{one_stands}
use Rattle.file_release.specs.extent_records.Writing.{most_rows}
use Rattle.file_release.specs.file_chains.Changes.{HasRoom, above, below, with_kind, with_record}
use Rattle.file_release.specs.file_chains.Files.{has_rows, map_records}
use Rattle.file_release.proofs.OfFileChains.MapRecords.{kind_found}
use Rattle.file_release.proofs.OfFileChains.Replaced.{parted, records_replaced}
use Rattle.file_release.proofs.OfFilesetFiles.FirstCell.{find_other, find_put, map_stays}
use Rattle.file_release.proofs.OfFilesetFiles.FirstTogether.{not_of}
use Rattle.file_release.proofs.OfFilesetFiles.Room.{allowed_found, same_room}
use Rattle.release_list.specs.Steps.{kept_all, says_no_source, says_trimmed, without_source}

-- ---- one record

pub kept_kind : (r : Record) → kind_of (kept_all r) ≡ kind_of r
kept_kind (written.Attributes kind uid gid flags size keep links birth unsynced) = refl
kept_kind (written.CloneFile vol cell page frozen) = refl
kept_kind (written.Extents rows) = refl
kept_kind (written.ShortExtents rows) = refl
kept_kind (written.Holes rows) = refl
kept_kind (written.Pending what) = refl
kept_kind (written.UserQuota id files blocks) = refl
kept_kind (written.GroupQuota id files blocks) = refl
kept_kind (written.DirIndex vol page entries) = refl
kept_kind (written.Parent slot seq) = refl
kept_kind (written.Stripe width mark vols) = refl
kept_kind (written.Volume vol pages bitmap_pages) = refl
kept_kind (written.DenseExtents rows) = refl
kept_kind (written.ShortDense rows) = refl

pub kept_allowed : (r : Record) → Allowed r → Allowed (kept_all r)
unfolding Allowed
kept_allowed (written.Attributes kind uid gid flags size keep links birth unsynced) allowed =
    (allowed.0, allowed.1, allowed.2, allowed.3, allowed.4, omega arith, allowed.6, allowed.7, allowed.8)
kept_allowed (written.CloneFile vol cell page frozen) allowed = allowed
kept_allowed (written.Extents rows) allowed = allowed
kept_allowed (written.ShortExtents rows) allowed = allowed
kept_allowed (written.Holes rows) allowed = allowed
kept_allowed (written.Pending what) allowed = allowed
kept_allowed (written.UserQuota id files blocks) allowed = allowed
kept_allowed (written.GroupQuota id files blocks) allowed = allowed
kept_allowed (written.DirIndex vol page entries) allowed = allowed
kept_allowed (written.Parent slot seq) allowed = allowed
kept_allowed (written.Stripe width mark vols) allowed = allowed
kept_allowed (written.Volume vol pages bitmap_pages) allowed = allowed
kept_allowed (written.DenseExtents rows) allowed = allowed
kept_allowed (written.ShortDense rows) allowed = allowed

pub sourceless_kind : (r : Record) → kind_of (without_source r) ≡ kind_of r
sourceless_kind (written.Attributes kind uid gid flags size keep links birth unsynced) = refl
sourceless_kind (written.CloneFile vol cell page frozen) = refl
sourceless_kind (written.Extents rows) = refl
sourceless_kind (written.ShortExtents rows) = refl
sourceless_kind (written.Holes rows) = refl
sourceless_kind (written.Pending what) = refl
sourceless_kind (written.UserQuota id files blocks) = refl
sourceless_kind (written.GroupQuota id files blocks) = refl
sourceless_kind (written.DirIndex vol page entries) = refl
sourceless_kind (written.Parent slot seq) = refl
sourceless_kind (written.Stripe width mark vols) = refl
sourceless_kind (written.Volume vol pages bitmap_pages) = refl
sourceless_kind (written.DenseExtents rows) = refl
sourceless_kind (written.ShortDense rows) = refl

pub sourceless_allowed : (r : Record) → Allowed r → Allowed (without_source r)
unfolding Allowed
sourceless_allowed (written.Attributes kind uid gid flags size keep links birth unsynced) allowed = allowed
sourceless_allowed (written.CloneFile vol cell page frozen) allowed = (inl (refl, refl, refl), allowed.1)
sourceless_allowed (written.Extents rows) allowed = allowed
sourceless_allowed (written.ShortExtents rows) allowed = allowed
sourceless_allowed (written.Holes rows) allowed = allowed
sourceless_allowed (written.Pending what) allowed = allowed
sourceless_allowed (written.UserQuota id files blocks) allowed = allowed
sourceless_allowed (written.GroupQuota id files blocks) allowed = allowed
sourceless_allowed (written.DirIndex vol page entries) allowed = allowed
sourceless_allowed (written.Parent slot seq) allowed = allowed
sourceless_allowed (written.Stripe width mark vols) allowed = allowed
sourceless_allowed (written.Volume vol pages bitmap_pages) allowed = allowed
sourceless_allowed (written.DenseExtents rows) allowed = allowed
sourceless_allowed (written.ShortDense rows) allowed = allowed

-- ---- a cell

module _ (cell : Cell) (was : Record) (has : record_of 1 cell.records ≡ Some was) where
  pub trim_said : with_kind 6 None (with_kind (kind_of (kept_all was)) (Some (kept_all was)) cell.records) ≡ (says_trimmed cell).records
  trim_said = ap (λ (k : ℕ). with_kind 6 None (with_kind k (Some (kept_all was)) cell.records)) (kept_kind was ∙ kind_found 1 cell.records was has) ∙ ap (λ o. with_kind 6 None (with_kind 1 (option_map kept_all o) cell.records)) (sym has)

module _ (cell : Cell) (was : Record) (has : record_of 2 cell.records ≡ Some was) where
  pub source_said : with_record (kind_of (without_source was)) (Some (without_source was)) cell ≡ says_no_source cell
  source_said = ap (λ (k : ℕ). with_record k (Some (without_source was)) cell) (sourceless_kind was ∙ kind_found 2 cell.records was has) ∙ ap (λ o. with_record 2 (option_map without_source o) cell) (sym has)

-- a first cell that says that its trim is done may be written
module _ (pages : Pages) (at : CellAt) (cell : Cell) (was : Record) (stands : StandsAt pages at cell) (has : record_of 1 cell.records ≡ Some was) where
  abbrev kept : List Record
  kept = with_kind (kind_of (kept_all was)) (Some (kept_all was)) cell.records

  allowed : Allowed (kept_all was)
  allowed = kept_allowed was (allowed_found 1 cell.records was has stands.is.well_formed.allowed)

  pub trimmed_good : AreRecords (says_trimmed cell).records
  trimmed_good =
      subst AreRecords (trim_said cell was has)
      (records_replaced 6 None kept (records_replaced (kind_of (kept_all was)) (Some (kept_all was)) cell.records stands.is.well_formed allowed refl) tt tt)

  pub trimmed_fits : length (spellings (says_trimmed cell).records) ≤ 272
  trimmed_fits =
      let room = same_room pages at cell was (kept_all was) stands (ap (λ (k : ℕ). record_of k cell.records) (kept_kind was ∙ kind_found 1 cell.records was has) ∙ has) allowed in
      let fits = subst (λ (c : Cell). length (spellings (with_kind (kind_of (kept_all was)) (Some (kept_all was)) c.records)) ≤ 272) (one_stands pages at room.cell cell room.stands stands) room.fits in
      subst (λ (rs : List Record). length (spellings rs) ≤ 272) (trim_said cell was has)
      (omega (
        arith,
        fits,
        parted 6 kept,
        ap length (spellings-append (below 6 kept) (above 6 kept)),
        length-append (spellings (below 6 kept)) (spellings (above 6 kept)),
      ))

-- a clone's first cell that says that it reads through none
module _ (pages : Pages) (at : CellAt) (cell : Cell) (was : Record) (stands : StandsAt pages at cell) (has : record_of 2 cell.records ≡ Some was) where
  pub sourceless_fine : Allowed (without_source was)
  sourceless_fine = sourceless_allowed was (allowed_found 2 cell.records was has stands.is.well_formed.allowed)

  pub sourceless_room : HasRoom pages at (kind_of (without_source was)) (Some (without_source was))
  sourceless_room = same_room pages at cell was (without_source was) stands (ap (λ (k : ℕ). record_of k cell.records) (sourceless_kind was ∙ kind_found 2 cell.records was has) ∙ has) sourceless_fine

-- a record that was found, changed within its kind
changed_kind : (k : ℕ) (change : Record → Record) → ((r : Record) → kind_of (change r) ≡ kind_of r) → (rs : List Record) → IfSome (option_map change (record_of k rs)) (λ r. kind_of r ≡ k)
changed_kind k change same rs = by_record (record_of k rs) refl
  where
    by_record : (o : Option Record) → record_of k rs ≡ o → IfSome (option_map change o) (λ r. kind_of r ≡ k)
    by_record None is = tt
    by_record (Some r) is = same r ∙ kind_found k rs r is

changed_rows : (k : ℕ) → nat_le 1 (most_rows k) ≡ false → (o : Option Record) → IfSome o (λ r. kind_of r ≡ k) → IfSome o (λ r. has_rows r ≡ false)
changed_rows k none None of_kind = tt
changed_rows k none (Some r) of_kind = ap (λ (j : ℕ). nat_le 1 (most_rows j)) of_kind ∙ none

changed_some : (change : Record → Record) (o : Option Record) → IsSome o → IsSome (option_map change o)
changed_some change None some = some
changed_some change (Some r) some = refl

module _ (cell : Cell) where
  pub kept_of : IfSome (option_map kept_all (record_of 1 cell.records)) (λ r. kind_of r ≡ 1)
  kept_of = changed_kind 1 kept_all kept_kind cell.records

  pub source_of_kind : IfSome (option_map without_source (record_of 2 cell.records)) (λ r. kind_of r ≡ 2)
  source_of_kind = changed_kind 2 without_source sourceless_kind cell.records

  pub trimmed_maps : (value : Record) → map_records cell.records ≡ value ∷ [] → has_rows value ≡ true → map_records (says_trimmed cell).records ≡ value ∷ []
  trimmed_maps value only rows =
      map_stays 6 None (with_kind 1 (option_map kept_all (record_of 1 cell.records)) cell.records) value
      (map_stays 1 (option_map kept_all (record_of 1 cell.records)) cell.records value only (not_of value 1 rows refl) (changed_rows 1 refl (option_map kept_all (record_of 1 cell.records)) kept_of))
      (not_of value 6 rows refl) tt

  pub trimmed_attributes : IsSome (record_of 1 cell.records) → IsSome (record_of 1 (says_trimmed cell).records)
  trimmed_attributes some =
      subst IsSome (sym (find_other 6 1 None (with_kind 1 (option_map kept_all (record_of 1 cell.records)) cell.records) (λ same. omega (arith, same)) tt ∙ find_put 1 (option_map kept_all (record_of 1 cell.records)) cell.records kept_of))
      (changed_some kept_all (record_of 1 cell.records) some)

  -- other records stay
  pub trimmed_other : (k : ℕ) → ¬ k ≡ 1 → ¬ k ≡ 6 → record_of k (says_trimmed cell).records ≡ record_of k cell.records
  trimmed_other k one six =
      find_other 6 k None (with_kind 1 (option_map kept_all (record_of 1 cell.records)) cell.records) six tt
      ∙ find_other 1 k (option_map kept_all (record_of 1 cell.records)) cell.records one kept_of

  pub sourceless_maps : (value : Record) → map_records cell.records ≡ value ∷ [] → has_rows value ≡ true → map_records (says_no_source cell).records ≡ value ∷ []
  sourceless_maps value only rows = map_stays 2 (option_map without_source (record_of 2 cell.records)) cell.records value only (not_of value 2 rows refl) (changed_rows 2 refl (option_map without_source (record_of 2 cell.records)) source_of_kind)

  pub sourceless_other : (k : ℕ) → ¬ k ≡ 2 → record_of k (says_no_source cell).records ≡ record_of k cell.records
  sourceless_other k two = find_other 2 k (option_map without_source (record_of 2 cell.records)) cell.records two source_of_kind

  pub sourceless_there : record_of 2 (says_no_source cell).records ≡ option_map without_source (record_of 2 cell.records)
  sourceless_there = find_put 2 (option_map without_source (record_of 2 cell.records)) cell.records source_of_kind
