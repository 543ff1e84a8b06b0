-- A first cell that says something else: what is asked of it still.
use Rattle.std.proofs.Common.{◌≡◌, ◌∙◌, ◌<◌, ◌≤◌, ◌&&◌, ℕ, Bool, true, false, not, cond, nat_eq, nat_lt, List, ◌∷◌, Option, Some, None, IfSome, IsSomeAnd, is_some, refl, sym, ap, subst, arith, ⊎_elim}
use Rattle.std.proofs.lemmas.Bool.{and_parts, eqb-true, ltb-true, or_cases}
use Rattle.std.specs.List.{list_all}
use Rattle.std.specs.Option.{option_and_then, option_map, option_map_or}
use Rattle.domain_standing.specs.domain_base.declared.place.Kind.TheVariants.{Directory, File}
use Rattle.domain_standing.specs.domain_base.declared.place.Tag.{Tag}
use Rattle.domain_standing.specs.domain_base.declared.version.Version.{Version}
use Rattle.domain_standing.specs.domain_base.declared.version.Version.TheVariants.{Four, Three}
use Rattle.domain_standing.specs.cell_records.Records.{kind_of, last_kind}
use Rattle.domain_standing.specs.cell_records.declared.record.Leftover.TheVariants.{Remove, Trim}
use Rattle.domain_standing.specs.cell_records.declared.record.Record.{Record}
use Rattle.domain_standing.specs.cell_records.declared.record.Record.TheVariants as written
use Rattle.domain_standing.specs.metadata_cells.Cell.{Cell, record_of}
use Rattle.domain_standing.specs.metadata_cells.Chain.{PlacedCell}
use Rattle.domain_standing.specs.extent_maps.Runs.{Places}
use Rattle.domain_standing.specs.file_chains.Changes.{with_record}
use Rattle.domain_standing.proofs.OfFileChains.MapRecords.{kind_found}
use Rattle.domain_standing.specs.fileset_files.declared.attributes.Attributes.{Attributes}
use Rattle.domain_standing.specs.fileset_files.Changes.{says_attributes, says_parent, says_removed, with_attributes}
use Rattle.domain_standing.specs.fileset_files.Files.{attributes_in, attributes_of, is_first_kind, is_removed, keep_in, of_live, says_remove}
use Rattle.domain_standing.specs.fileset_files.Truncation.{HasPageWithin, resized, says_size, says_truncated}
use Rattle.domain_standing.proofs.OfFilesetFiles.FirstCell.{find_other, find_put}
use Rattle.domain_standing.proofs.OfFilesetFiles.Room.{attributes_kind}
use Rattle.domain_standing.proofs.OfFilesetFiles.Truncated.{resized_kind}
use Rattle.domain_standing.specs.fileset_table.Table.{Table}
use Rattle.domain_standing.specs.domain_layout.CellRules.{agree, has_first_records, has_its_kinds, has_kind, is_good_first, item_of, keeps_well, of_original, says_directory}
use Rattle.domain_standing.specs.domain_layout.TagRules.{IsLate}
use Rattle.standing_laws.proofs.RestRecords.{AreKinds, all_first, directory_resized, directory_said, first_alike, good_kinds, good_records, good_removed, is_of_directory, keeps_lowered, keeps_resized, keeps_said, kinds_put, late_resized, late_said, says_keeps}

-- the kinds up to 12 are records in each version
pub low_kind : (version : Version) (k : ℕ) → k ≤ 12 → k ≤ last_kind version
low_kind Three k low = low
low_kind Four k low = omega (arith, low)

abbrev pub AreKnown : Version → List Record → Type 0
AreKnown version rs = AreKinds (λ k. k ≤ last_kind version) rs

abbrev pub AreFirsts : List Record → Type 0
AreFirsts rs = AreKinds (λ k. is_first_kind k ≡ true) rs

-- what is to be known of a first cell that says something else
pub record SaysWell (version : Version) (table : Table) (cell : Cell) : Type 0 where
  pub known : AreKnown version cell.records
  pub good : is_good_first table cell ≡ true
  pub births : (value : Record) → record_of 1 cell.records ≡ Some value → ¬ IsLate table.made value

some_is : {X : Type 0} {x y : X} → Some x ≡ Some y → x ≡ y
some_is e = cc

-- a live file's attributes
pub attributes_there : (P : Attributes → Type 0) (first : PlacedCell) (rest : List PlacedCell) → is_removed (first ∷ rest) ≡ false → IsSomeAnd (option_and_then (of_live attributes_of) (Some (first ∷ rest))) P
    → IsSomeAnd (option_and_then attributes_in (record_of 1 first.cell.records)) P
attributes_there P first rest live is = subst (λ (b : Bool). IsSomeAnd (cond b None (attributes_of (first ∷ rest))) P) live is

-- ---- its attributes

module _ (version : Version) (table : Table) (a : Cell) (was : SaysWell version table a) (change : Record → Record) (same_kind : (r : Record) → kind_of (change r) ≡ kind_of r) (late : (r : Record) → IsLate table.made (change r) → IsLate table.made r) where
  abbrev changed : Cell
  changed = with_record 1 (option_map change (record_of 1 a.records)) a

  of_one : IfSome (option_map change (record_of 1 a.records)) (λ r. kind_of r ≡ 1)
  of_one = by_found (record_of 1 a.records) refl
    where
      by_found : (o : Option Record) → record_of 1 a.records ≡ o → IfSome (option_map change o) (λ r. kind_of r ≡ 1)
      by_found None is = tt
      by_found (Some r) is = same_kind r ∙ kind_found 1 a.records r is

  pub one_put : record_of 1 changed.records ≡ option_map change (record_of 1 a.records)
  one_put = find_put 1 (option_map change (record_of 1 a.records)) a.records of_one

  pub one_other : (k : ℕ) → ¬ k ≡ 1 → record_of k changed.records ≡ record_of k a.records
  one_other k other = find_other 1 k (option_map change (record_of 1 a.records)) a.records other of_one

  pub one_known : AreKnown version changed.records
  one_known = kinds_put (λ k. k ≤ last_kind version) 1 (option_map change (record_of 1 a.records)) a.records was.known (by_value (option_map change (record_of 1 a.records)) of_one)
    where
      by_value : (o : Option Record) → IfSome o (λ r. kind_of r ≡ 1) → IfSome o (λ r. kind_of r ≤ last_kind version)
      by_value None is = tt
      by_value (Some r) is = subst (λ (k : ℕ). k ≤ last_kind version) (sym is) (low_kind version 1 (omega arith))

  pub one_firsts : AreFirsts a.records → AreFirsts changed.records
  one_firsts firsts = kinds_put (λ k. is_first_kind k ≡ true) 1 (option_map change (record_of 1 a.records)) a.records firsts (by_value (option_map change (record_of 1 a.records)) of_one)
    where
      by_value : (o : Option Record) → IfSome o (λ r. kind_of r ≡ 1) → IfSome o (λ r. is_first_kind (kind_of r) ≡ true)
      by_value None is = tt
      by_value (Some r) is = ap is_first_kind is

  pub one_births : (value : Record) → record_of 1 changed.records ≡ Some value → ¬ IsLate table.made value
  one_births value has is_late = by_found (record_of 1 a.records) refl (sym one_put ∙ has)
    where
      none_some : None ≡ Some value → ⊥
      none_some e = cc

      by_found : (o : Option Record) → record_of 1 a.records ≡ o → option_map change o ≡ Some value → ⊥
      by_found None is e = none_some e
      by_found (Some r) is e = was.births r is (late r (subst (IsLate table.made) (sym (some_is e)) is_late))

  module _ (firsts : AreFirsts a.records) (firsts_now : AreFirsts changed.records) (directory : (r : Record) → record_of 1 a.records ≡ Some r → says_directory (change r) ≡ says_directory r) where
    pub one_there : has_kind 1 changed.records ≡ has_kind 1 a.records
    one_there = ap is_some one_put ∙ by_found (record_of 1 a.records)
      where
        by_found : (o : Option Record) → is_some (option_map change o) ≡ is_some o
        by_found None = refl
        by_found (Some r) = refl

    pub one_directory : is_of_directory changed.records ≡ is_of_directory a.records
    one_directory = ap (λ o. option_map_or says_directory o false) one_put ∙ by_found (record_of 1 a.records) refl
      where
        by_found : (o : Option Record) → record_of 1 a.records ≡ o → option_map_or says_directory (option_map change o) false ≡ option_map_or says_directory o false
        by_found None is = refl
        by_found (Some r) is = directory r is

    pub one_well : ((r : Record) (pending : Bool) → keeps_well (change r) pending ≡ keeps_well r pending) → SaysWell version table changed
    one_well keeps = record {
      known = one_known;
      good = first_alike table a changed refl (record {
        one = one_there;
        clone = ap is_some (one_other 2 (λ e. omega (arith, e)));
        four = ap is_some (one_other 4 (λ e. omega (arith, e)));
        parent = ap is_some (one_other 10 (λ e. omega (arith, e)));
        fourteen = ap is_some (one_other 14 (λ e. omega (arith, e)));
        kinds = all_first changed.records firsts_now ∙ sym (all_first a.records firsts);
        directory = one_directory;
        removed = ap (λ o. option_map_or (λ r. says_remove r) o false) (one_other 6 (λ e. omega (arith, e)));
        keeps = keeps_same;
      }) ∙ was.good;
      births = one_births;
    }
      where
        by_found : (b : Bool) (o : Option Record) → option_map_or (λ r. keeps_well r b) (option_map change o) false ≡ option_map_or (λ r. keeps_well r b) o false
        by_found b None = refl
        by_found b (Some r) = keeps r b

        keeps_same : says_keeps changed.records ≡ says_keeps a.records
        keeps_same =
            ap (λ (b : Bool). option_map_or (λ r. keeps_well r b) (record_of 1 changed.records) false) (ap is_some (one_other 6 (λ e. omega (arith, e))))
            ∙ ap (λ o. option_map_or (λ r. keeps_well r (has_kind 6 a.records)) o false) one_put
            ∙ by_found (has_kind 6 a.records) (record_of 1 a.records)

-- ---- a first cell that says that its file is to be removed

removed_other : (cell : Cell) (k : ℕ) → ¬ k ≡ 6 → record_of k (says_removed cell).records ≡ record_of k cell.records
removed_other cell k six = find_other 6 k (Some (written.Pending Remove)) cell.records six refl

pub removed_known : (version : Version) (cell : Cell) → AreKnown version cell.records → AreKnown version (says_removed cell).records
removed_known version cell was = kinds_put (λ k. k ≤ last_kind version) 6 (Some (written.Pending Remove)) cell.records was (low_kind version 6 (omega arith))

pub removed_good : (table : Table) (cell : Cell) → is_good_first table cell ≡ true → AreFirsts cell.records → AreFirsts (says_removed cell).records → is_good_first table (says_removed cell) ≡ true
removed_good table cell was firsts firsts_now =
    good_removed table (says_removed cell) records_now (ap (λ o. option_map_or says_remove o false) (find_put 6 (Some (written.Pending Remove)) cell.records refl))
  where
    kinds : list_all (λ r. is_first_kind (kind_of r)) (says_removed cell).records ≡ list_all (λ r. is_first_kind (kind_of r)) cell.records
    kinds = all_first (says_removed cell).records firsts_now ∙ sym (all_first cell.records firsts)

    same_records : has_first_records (says_removed cell).records ≡ has_first_records cell.records
    same_records = λ i. is_some (removed_other cell 1 (λ e. omega (arith, e)) i)
        && not (agree (is_some (removed_other cell 4 (λ e. omega (arith, e)) i)) (is_some (removed_other cell 14 (λ e. omega (arith, e)) i)))
        && kinds i

    records_now : has_first_records (says_removed cell).records ≡ true
    records_now = same_records ∙ good_records table cell was

-- ---- what a live file's first cell says

module _ (version : Version) (table : Table) (first : PlacedCell) (rest : List PlacedCell) (was : SaysWell version table first.cell) (firsts : AreFirsts first.cell.records) (live : is_removed (first ∷ rest) ≡ false) where
  pub described_well : (value : Attributes) → IsSomeAnd (option_and_then (of_live attributes_of) (Some (first ∷ rest))) (λ was. was.kind ≡ value.kind) → AreFirsts (says_attributes value first.cell).records → SaysWell version table (says_attributes value first.cell)
  described_well value can firsts_now =
      one_well version table first.cell was (with_attributes value) (attributes_kind value) (late_said value table.made) firsts firsts_now
      (λ r is. directory_said value r (subst (λ o. IsSomeAnd (option_and_then attributes_in o) (λ was. was.kind ≡ value.kind)) is (attributes_there (λ was. was.kind ≡ value.kind) first rest live can)))
      (λ r pending. keeps_said value pending r)

  -- ---- its size

  pub sized_well : (size : ℕ) → AreFirsts (says_size size None first.cell).records → SaysWell version table (says_size size None first.cell)
  sized_well size firsts_now =
      one_well version table first.cell was (resized size None) (resized_kind size None) (late_resized size None table.made) firsts firsts_now
      (λ r is. directory_resized size None r)
      (λ r pending. keeps_resized size pending r)

  few_kept : (from : ℕ) (places : Places) (pending : Bool) (r : Record) → IsSomeAnd (keep_in r) (λ keep. HasPageWithin from keep places) → keeps_well r pending ≡ true → from < 65536
  few_kept from places pending (written.Attributes kind uid gid flags size keep links birth unsynced) has well = ⊎_elim
      (λ all. let e = eqb-true keep 65536 all in omega (arith, e, has.begins, has.ends))
      (λ few. let less = ltb-true keep 65536 (and_parts (nat_lt keep 65536) pending few).0 in omega (arith, less, has.begins, has.ends))
      (or_cases (nat_eq keep 65536) (nat_lt keep 65536 && pending) well)
  few_kept from places pending r has well = absurd has

  module _ (original : of_original (item_of table first.cell.head) ≡ true) where
    pub cut_well : (size from : ℕ) (places : Places) → IsSomeAnd (option_and_then keep_in (record_of 1 first.cell.records)) (λ keep. HasPageWithin from keep places)
        → AreFirsts (says_size size (Some from) first.cell).records → AreFirsts (says_truncated size (Some from) first.cell).records → SaysWell version table (says_truncated size (Some from) first.cell)
    cut_well size from places has sized_firsts firsts_now = record {
      known = kinds_put (λ k. k ≤ last_kind version) 6 (Some (written.Pending Trim)) (says_size size (Some from) first.cell).records (one_known version table first.cell was (resized size (Some from)) (resized_kind size (Some from)) late) (low_kind version 6 (omega arith));
      good = first_alike table first.cell (says_truncated size (Some from) first.cell) refl (record {
        one = ap is_some (other 1 (λ e. omega (arith, e))) ∙ one_there version table first.cell was (resized size (Some from)) (resized_kind size (Some from)) late firsts sized_firsts same_directory;
        clone = ap is_some (same 2 (λ e. omega (arith, e)) (λ e. omega (arith, e)));
        four = ap is_some (same 4 (λ e. omega (arith, e)) (λ e. omega (arith, e)));
        parent = ap is_some (same 10 (λ e. omega (arith, e)) (λ e. omega (arith, e)));
        fourteen = ap is_some (same 14 (λ e. omega (arith, e)) (λ e. omega (arith, e)));
        kinds = all_first (says_truncated size (Some from) first.cell).records firsts_now ∙ sym (all_first first.cell.records firsts);
        directory = ap (λ o. option_map_or says_directory o false) (other 1 (λ e. omega (arith, e))) ∙ one_directory version table first.cell was (resized size (Some from)) (resized_kind size (Some from)) late firsts sized_firsts same_directory;
        removed = ap (λ o. option_map_or says_remove o false) put ∙ sym live;
        keeps = keeps_now ∙ sym kept.1;
      }) ∙ was.good;
      births = λ value is. one_births version table first.cell was (resized size (Some from)) (resized_kind size (Some from)) late value (sym (other 1 (λ e. omega (arith, e))) ∙ is);
    }
      where
        late : (r : Record) → IsLate table.made (resized size (Some from) r) → IsLate table.made r
        late = late_resized size (Some from) table.made

        same_directory : (r : Record) → record_of 1 first.cell.records ≡ Some r → says_directory (resized size (Some from) r) ≡ says_directory r
        same_directory r is = directory_resized size (Some from) r

        put : record_of 6 (says_truncated size (Some from) first.cell).records ≡ Some (written.Pending Trim)
        put = find_put 6 (Some (written.Pending Trim)) (says_size size (Some from) first.cell).records refl

        other : (k : ℕ) → ¬ k ≡ 6 → record_of k (says_truncated size (Some from) first.cell).records ≡ record_of k (says_size size (Some from) first.cell).records
        other k six = find_other 6 k (Some (written.Pending Trim)) (says_size size (Some from) first.cell).records six refl

        same : (k : ℕ) → ¬ k ≡ 6 → ¬ k ≡ 1 → record_of k (says_truncated size (Some from) first.cell).records ≡ record_of k first.cell.records
        same k six one = other k six ∙ one_other version table first.cell was (resized size (Some from)) (resized_kind size (Some from)) late k one

        kept : (has_its_kinds false first.cell.records ≡ true) × (says_keeps first.cell.records ≡ true)
        kept = good_kinds table first.cell was.good original live

        by_found : (o : Option Record) → IsSomeAnd (option_and_then keep_in o) (λ keep. HasPageWithin from keep places) → option_map_or (λ r. keeps_well r (has_kind 6 first.cell.records)) o false ≡ true
            → option_map_or (λ r. keeps_well r true) (option_map (resized size (Some from)) o) false ≡ true
        by_found None has well = absurd has
        by_found (Some r) has well = keeps_lowered size from r (few_kept from places (has_kind 6 first.cell.records) r has well)

        keeps_now : says_keeps (says_truncated size (Some from) first.cell).records ≡ true
        keeps_now =
            ap (λ (b : Bool). option_map_or (λ r. keeps_well r b) (record_of 1 (says_truncated size (Some from) first.cell).records) false) (ap is_some put)
            ∙ ap (λ o. option_map_or (λ r. keeps_well r true) o false) (other 1 (λ e. omega (arith, e)) ∙ one_put version table first.cell was (resized size (Some from)) (resized_kind size (Some from)) late)
            ∙ by_found (record_of 1 first.cell.records) has kept.1

    -- ---- where it stands

    is_directory : (r : Record) → IsSomeAnd (attributes_in r) (λ is. is.kind ≡ Directory) → says_directory r ≡ true
    is_directory (written.Attributes kind uid gid flags size keep links birth unsynced) same = by_kind (nat_eq kind 2) same
      where
        by_kind : (b : Bool) → cond b Directory File ≡ Directory → b ≡ true
        by_kind true is = refl
        by_kind false is = absurd (file_not is)
          where
            file_not : File ≡ Directory → ⊥
            file_not e = cc
    is_directory r same = absurd same

    pub put_in_well : (parent : Tag) → IsSomeAnd (option_and_then (of_live attributes_of) (Some (first ∷ rest))) (λ is. is.kind ≡ Directory) → AreFirsts (says_parent parent first.cell).records → SaysWell version table (says_parent parent first.cell)
    put_in_well parent may firsts_now = record {
      known = kinds_put (λ k. k ≤ last_kind version) 10 (Some (written.Parent parent.slot parent.seq)) first.cell.records was.known (low_kind version 10 (omega arith));
      good = first_alike table first.cell (says_parent parent first.cell) refl (record {
        one = ap is_some (other 1 (λ e. omega (arith, e)));
        clone = ap is_some (other 2 (λ e. omega (arith, e)));
        four = ap is_some (other 4 (λ e. omega (arith, e)));
        parent = ap is_some (find_put 10 (Some (written.Parent parent.slot parent.seq)) first.cell.records refl) ∙ sym had;
        fourteen = ap is_some (other 14 (λ e. omega (arith, e)));
        kinds = all_first (says_parent parent first.cell).records firsts_now ∙ sym (all_first first.cell.records firsts);
        directory = ap (λ o. option_map_or says_directory o false) (other 1 (λ e. omega (arith, e)));
        removed = ap (λ o. option_map_or says_remove o false) (other 6 (λ e. omega (arith, e)));
        keeps = (λ i. option_map_or (λ r. keeps_well r (is_some (other 6 (λ e. omega (arith, e)) i))) (other 1 (λ e. omega (arith, e)) i) false);
      }) ∙ was.good;
      births = λ value is. was.births value (sym (other 1 (λ e. omega (arith, e))) ∙ is);
    }
      where
        other : (k : ℕ) → ¬ k ≡ 10 → record_of k (says_parent parent first.cell).records ≡ record_of k first.cell.records
        other k ten = find_other 10 k (Some (written.Parent parent.slot parent.seq)) first.cell.records ten refl

        directory : (o : Option Record) → IsSomeAnd (option_and_then attributes_in o) (λ is. is.kind ≡ Directory) → option_map_or says_directory o false ≡ true
        directory None is = absurd is
        directory (Some r) is = is_directory r is

        agreed : (b : Bool) → agree b true ≡ true → b ≡ true
        agreed true is = refl
        agreed false is = is

        had : has_kind 10 first.cell.records ≡ true
        had = agreed (has_kind 10 first.cell.records)
            (ap (agree (has_kind 10 first.cell.records)) (sym (directory (record_of 1 first.cell.records) (attributes_there (λ is. is.kind ≡ Directory) first rest live may)))
            ∙ (and_parts (agree (has_kind 2 first.cell.records) false) (agree (has_kind 10 first.cell.records) (is_of_directory first.cell.records)) (good_kinds table first.cell was.good original live).0).1)

  -- ---- that it is to be removed

  pub removed_well : AreFirsts (says_removed first.cell).records → SaysWell version table (says_removed first.cell)
  removed_well firsts_now = record {
    known = removed_known version first.cell was.known;
    good = removed_good table first.cell was.good firsts firsts_now;
    births = λ value is. was.births value (sym (removed_other first.cell 1 (λ e. omega (arith, e))) ∙ is);
  }
