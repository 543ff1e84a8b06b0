-- The records of a new file's first cell.
use Rattle.std.proofs.Common.{◌≡◌, ◌≢◌, ◌∙◌, ℕ, ◌^◌, ◌<◌, ◌≤◌, true, nat_le, List, [], ◌∷◌, map, Some, None, refl, sym, ap, subst, arith}
use Rattle.std.proofs.lemmas.Bool.{true≢false}
use Rattle.std.specs.List.{AllByRecursion}
use Rattle.file_chains.specs.domain_base.declared.place.Kind.{Kind}
use Rattle.file_chains.specs.domain_base.declared.place.Kind.TheVariants.{Directory, File}
use Rattle.file_chains.specs.domain_base.declared.place.Tag.{Tag}
use Rattle.file_chains.specs.domain_base.declared.version.Version.{Version}
use Rattle.file_chains.specs.domain_base.declared.version.Version.TheVariants.{Three, Four}
use Rattle.file_chains.specs.cell_records.declared.record.Record.{Record}
use Rattle.file_chains.specs.cell_records.declared.record.Record.TheVariants as written
use Rattle.file_chains.specs.cell_records.Records.{Allowed, kind_of}
use Rattle.file_chains.specs.metadata_cells.Cell.{AreRecords, record_of}
use Rattle.file_chains.specs.extent_records.Writing.{most_rows, short_kind}
use Rattle.file_chains.specs.Changes.{with_kind}
use Rattle.file_chains.specs.Files.{map_records}
use Rattle.file_chains.proofs.MapRecords.{one_map_record, value_has_rows}
use Rattle.file_chains.proofs.Replaced.{records_replaced}
use Rattle.fileset_files.specs.Changes.{kind_number}
use Rattle.fileset_files.specs.Creation.{AreNew, AreNewFile, new_attributes, new_parent}
use Rattle.fileset_files.specs.declared.new_cells.NewFile.{NewFile}
use Rattle.fileset_files.specs.Files.{is_first_kind}
use Rattle.fileset_files.proofs.FirstCell.{find_other, find_put, map_stays}
use Rattle.fileset_files.proofs.FirstRoom.{kinds_replaced}

-- numbers that fit their fields
pub record AreFitting (what : NewFile) : Type 0 where
  pub uid : what.uid < 2 ^ 32
  pub gid : what.gid < 2 ^ 32
  pub birth : what.birth < 2 ^ 64

pub new_allowed : (what : NewFile) → AreFitting what → Allowed (new_attributes what)
unfolding Allowed
new_allowed what fit = (kind_fits what.kind, fit.uid, fit.gid, omega arith, omega arith, omega arith, (omega arith, omega arith), fit.birth, omega arith)
  where
    kind_fits : (kind : Kind) → (1 ≤ kind_number kind) × (kind_number kind ≤ 2)
    kind_fits File = (omega arith, omega arith)
    kind_fits Directory = (omega arith, omega arith)

pub parent_allowed : (tag : Tag) → tag.slot < 2 ^ 32 → tag.seq < 2 ^ 16 → Allowed (written.Parent tag.slot tag.seq)
unfolding Allowed
parent_allowed tag slot seq = (slot, seq)

none_records : AreRecords []
none_records = record { allowed = tt; rising = tt }

-- a record of extents is none of these kinds
short_not : (version : Version) (k : ℕ) → k ≡ 1 → short_kind version ≢ k
short_not Three k is same = omega (arith, is, same)
short_not Four k is same = omega (arith, is, same)

short_first : (version : Version) → is_first_kind (short_kind version) ≡ true
short_first Three = refl
short_first Four = refl

not_ten : (version : Version) → 10 ≢ short_kind version
not_ten Three is = omega (arith, is)
not_ten Four is = omega (arith, is)

module _ (version : Version) (what : NewFile) (records : List Record) (new : AreNewFile version what records) (fit : AreFitting what) where
  abbrev one : List Record
  one = with_kind 1 (Some (new_attributes what)) []

  abbrev two : List Record
  two = with_kind (short_kind version) (Some new.value) one

  good_one : AreRecords one
  good_one = records_replaced 1 (Some (new_attributes what)) [] none_records (new_allowed what fit) refl

  good_two : AreRecords two
  good_two = records_replaced (short_kind version) (Some new.value) one good_one new.is_map.allowed new.of_kind

  kinds_two : AllByRecursion (λ r. is_first_kind (kind_of r) ≡ true) two
  kinds_two = kinds_replaced (short_kind version) (Some new.value) one (kinds_replaced 1 (Some (new_attributes what)) [] tt refl) (ap is_first_kind new.of_kind ∙ short_first version)

  attributes_two : record_of 1 two ≡ Some (new_attributes what)
  attributes_two = find_other (short_kind version) 1 (Some new.value) one (λ is. short_not version 1 refl (sym is)) new.of_kind ∙ find_put 1 (Some (new_attributes what)) [] refl

  others_two : (k : ℕ) → ¬ k ≡ 1 → ¬ k ≡ short_kind version → record_of k two ≡ None
  others_two k not_one not_map = find_other (short_kind version) k (Some new.value) one not_map new.of_kind ∙ find_other 1 k (Some (new_attributes what)) [] not_one refl

  only_two : map_records two ≡ new.value ∷ []
  only_two = by_version version new.of_kind
    where
      by_version : (v : Version) → kind_of new.value ≡ short_kind v → map_records (with_kind (short_kind v) (Some new.value) one) ≡ new.value ∷ []
      by_version Three kind = one_map_record new.value new.is_map
      by_version Four kind = one_map_record new.value new.is_map

  map_kind : (rs : List Record) → map_records rs ≡ new.value ∷ [] → map kind_of (map_records rs) ≡ short_kind version ∷ []
  map_kind rs only = ap (map kind_of) only ∙ ap (λ (k : ℕ). k ∷ []) new.of_kind

  pub new_file : (tag : Tag) → what.kind ≡ File → AreNew version what tag records
  new_file tag kind = subst (AreNew version what tag) (sym new.all) (record {
    says = record {
      attributes = attributes_two;
      parent = others_two 10 (λ is. omega (arith, is)) (not_ten version) ∙ sym (ap (λ (k : Kind). new_parent k tag) kind);
      map = map_kind two only_two;
      others = λ k not_one not_ten not_map. others_two k not_one not_map;
    };
    good = good_two;
    kinds = kinds_two;
    value = new.value;
    only = only_two;
    is_map = new.is_map;
    empty = new.empty;
  })

  pub new_directory : (tag : Tag) → what.kind ≡ Directory → tag.slot < 2 ^ 32 → tag.seq < 2 ^ 16 → AreNew version what tag (with_kind 10 (Some (written.Parent tag.slot tag.seq)) records)
  new_directory tag kind slot seq =
      let parent : Record = written.Parent tag.slot tag.seq in
      let only = map_stays 10 (Some parent) two new.value only_two (λ is. true≢false (sym (value_has_rows new.value new.is_map) ∙ ap (λ k. nat_le 1 (most_rows k)) is)) refl in
      subst (λ rs. AreNew version what tag (with_kind 10 (Some parent) rs)) (sym new.all) (record {
        says = record {
          attributes = find_other 10 1 (Some parent) two (λ is. omega (arith, is)) refl ∙ attributes_two;
          parent = find_put 10 (Some parent) two refl ∙ sym (ap (λ (k : Kind). new_parent k tag) kind);
          map = map_kind (with_kind 10 (Some parent) two) only;
          others = λ k not_one not_ten not_map. find_other 10 k (Some parent) two not_ten refl ∙ others_two k not_one not_map;
        };
        good = records_replaced 10 (Some parent) two good_two (parent_allowed tag slot seq) refl;
        kinds = kinds_replaced 10 (Some parent) two kinds_two refl;
        value = new.value;
        only = only;
        is_map = new.is_map;
        empty = new.empty;
      })
