-- What is asked of a first cell, by what its records are.
use Rattle.std.proofs.Common.{◌≡◌, ◌∙◌, ◌⊎◌, ◌&&◌, ◌||◌, ◌<◌, inl, inr, ℕ, Bool, true, false, not, cond, nat_eq, nat_le, nat_lt, List, [], ◌∷◌, ◌++◌, map, Option, Some, None, IfSome, IsSomeAnd, is_some, refl, sym, ap, subst, ⊎_elim}
use Rattle.std.proofs.lemmas.Bool.{and_from, and_parts, cases_Bool, eq-eqb, eqb-true, lt-ltb, or_cases, true≢false}
use Rattle.std.specs.List.{AllByRecursion, list_all, list_any}
use Rattle.std.specs.Option.{option_map_or, option_to_list}
use Rattle.domain_standing.specs.domain_base.declared.place.Kind.{Kind}
use Rattle.domain_standing.specs.domain_base.declared.place.Kind.TheVariants.{Directory, File}
use Rattle.domain_standing.specs.cell_records.Records.{kind_of}
use Rattle.domain_standing.specs.cell_records.declared.record.Record.{Record}
use Rattle.domain_standing.specs.cell_records.declared.record.Record.TheVariants as written
use Rattle.domain_standing.specs.metadata_cells.Cell.{Cell, record_of}
use Rattle.domain_standing.specs.extent_records.Writing.{most_rows}
use Rattle.domain_standing.specs.file_chains.Changes.{above, below, with_kind}
use Rattle.domain_standing.specs.file_chains.FileChanges.{map_kinds, other_records}
use Rattle.domain_standing.specs.file_chains.Files.{has_rows, map_records}
use Rattle.domain_standing.proofs.OfFileChains.Replaced.{all_append, all_filter, filter_false, filter_true}
use Rattle.domain_standing.specs.fileset_files.declared.attributes.Attributes.{Attributes}
use Rattle.domain_standing.specs.fileset_files.Changes.{kind_number, with_attributes}
use Rattle.domain_standing.specs.fileset_files.Files.{attributes_in, is_first_kind}
use Rattle.domain_standing.specs.fileset_files.Truncation.{resized}
use Rattle.domain_standing.specs.fileset_table.Table.{Table}
use Rattle.domain_standing.specs.domain_layout.CellRules.{agree, has_first_records, has_its_kinds, has_kind, is_good_first, item_of, keeps_well, of_clone, of_original, say_removed, says_directory}
use Rattle.domain_standing.specs.domain_layout.TagRules.{IsLate}

-- ---- the kinds of records

abbrev pub AreKinds : (ℕ → Type 0) → List Record → Type 0
AreKinds P rs = AllByRecursion (λ r. P (kind_of r)) rs

pub kinds_of_maps : (P : ℕ → Type 0) (rs : List Record) → AreKinds P rs → AllByRecursion P (map_kinds rs)
kinds_of_maps P rs all = mapped (map_records rs) (all_filter (λ r. P (kind_of r)) has_rows rs all)
  where
    mapped : (rs : List Record) → AreKinds P rs → AllByRecursion P (map kind_of rs)
    mapped [] all = tt
    mapped (r ∷ rs) all = (all.0, mapped rs all.1)

pub kinds_by_maps : (P : ℕ → Type 0) (rs : List Record) → AreKinds P (other_records rs) → AllByRecursion P (map_kinds rs) → AreKinds P rs
kinds_by_maps P [] others maps = tt
kinds_by_maps P (r ∷ rs) others maps = ⊎_elim
    (λ rows.
    let maps_now = subst (λ xs. AllByRecursion P (map kind_of xs)) (filter_true has_rows r rs rows) maps in
    (maps_now.0, kinds_by_maps P rs (subst (AreKinds P) (filter_false (λ r. not (has_rows r)) r rs (ap not rows)) others) maps_now.1))
    (λ none.
    let others_now = subst (AreKinds P) (filter_true (λ r. not (has_rows r)) r rs (ap not none)) others in
    (others_now.0, kinds_by_maps P rs others_now.1 (subst (λ xs. AllByRecursion P (map kind_of xs)) (filter_false has_rows r rs none) maps)))
    (cases_Bool (has_rows r))

pub kinds_put : (P : ℕ → Type 0) (kind : ℕ) (value : Option Record) (rs : List Record) → AreKinds P rs → IfSome value (λ r. P (kind_of r)) → AreKinds P (with_kind kind value rs)
kinds_put P kind value rs all is =
    all_append (λ r. P (kind_of r)) (below kind rs) (option_to_list value ++ above kind rs)
    (all_filter (λ r. P (kind_of r)) (λ r. nat_lt (kind_of r) kind) rs all) (by_value value is)
  where
    by_value : (value : Option Record) → IfSome value (λ r. P (kind_of r)) → AreKinds P (option_to_list value ++ above kind rs)
    by_value None is = all_filter (λ r. P (kind_of r)) (λ r. nat_lt kind (kind_of r)) rs all
    by_value (Some v) is = (is, all_filter (λ r. P (kind_of r)) (λ r. nat_lt kind (kind_of r)) rs all)

-- of each kind that is there
pub kinds_there : (P : ℕ → Type 0) (rs : List Record) → ((kind : ℕ) → P kind ⊎ (record_of kind rs ≡ None)) → AreKinds P rs
kinds_there P [] of = tt
kinds_there P (r ∷ rs) of = (
  ⊎_elim (λ is. is) (λ none. absurd (some_none r (sym (ap (λ (b : Bool). cond b (Some r) (record_of (kind_of r) rs)) (eq-eqb (kind_of r) (kind_of r) refl)) ∙ none))) (of (kind_of r)),
  kinds_there P rs (λ kind. ⊎_elim (λ is. inl is) (λ none. inr (behind kind (nat_eq (kind_of r) kind) none)) (of kind)),
)
  where
    some_none : (r : Record) → Some r ≡ None → ⊥
    some_none r e = cc

    behind : (kind : ℕ) (b : Bool) → cond b (Some r) (record_of kind rs) ≡ None → record_of kind rs ≡ None
    behind kind true none = absurd (some_none r none)
    behind kind false none = none

-- a kind of those that say where pages stand
pub has_by_map : (k : ℕ) → nat_le 1 (most_rows k) ≡ true → (rs : List Record) → has_kind k rs ≡ list_any (λ j. nat_eq j k) (map_kinds rs)
has_by_map k rows [] = refl
has_by_map k rows (r ∷ rs) = ⊎_elim
    (λ has. by_kind (has_by_map k rows rs) (nat_eq (kind_of r) k) ∙ sym (ap (λ xs. list_any (λ j. nat_eq j k) (map kind_of xs)) (filter_true has_rows r rs has)))
    (λ none.
    ap (λ (b : Bool). is_some (cond b (Some r) (record_of k rs))) (not_it none)
    ∙ has_by_map k rows rs ∙ sym (ap (λ xs. list_any (λ j. nat_eq j k) (map kind_of xs)) (filter_false has_rows r rs none)))
    (cases_Bool (has_rows r))
  where
    by_kind : has_kind k rs ≡ list_any (λ j. nat_eq j k) (map_kinds rs) → (b : Bool) → is_some (cond b (Some r) (record_of k rs)) ≡ (b || list_any (λ j. nat_eq j k) (map_kinds rs))
    by_kind later true = refl
    by_kind later false = later

    not_it : has_rows r ≡ false → nat_eq (kind_of r) k ≡ false
    not_it none = ⊎_elim
        (λ is. absurd (true≢false (sym (ap (λ (j : ℕ). nat_le 1 (most_rows j)) (eqb-true (kind_of r) k is) ∙ rows) ∙ none)))
        (λ other. other)
        (cases_Bool (nat_eq (kind_of r) k))

pub all_first : (rs : List Record) → AreKinds (λ k. is_first_kind k ≡ true) rs → list_all (λ r. is_first_kind (kind_of r)) rs ≡ true
all_first [] all = refl
all_first (r ∷ rs) all = and_from (is_first_kind (kind_of r)) (list_all (λ r. is_first_kind (kind_of r)) rs) all.0 (all_first rs all.1)

-- a first cell has no holes
pub first_no_holes : (rs : List Record) → AreKinds (λ k. is_first_kind k ≡ true) rs → has_kind 5 rs ≡ false
first_no_holes [] all = refl
first_no_holes (r ∷ rs) all = ⊎_elim
    (λ is. absurd (true≢false (sym all.0 ∙ ap is_first_kind (eqb-true (kind_of r) 5 is))))
    (λ other. ap (λ (b : Bool). is_some (cond b (Some r) (record_of 5 rs))) other ∙ first_no_holes rs all.1)
    (cases_Bool (nat_eq (kind_of r) 5))

-- ---- a record of attributes

pub directory_said : (value : Attributes) (r : Record) → IsSomeAnd (attributes_in r) (λ was. was.kind ≡ value.kind) → says_directory (with_attributes value r) ≡ says_directory r
directory_said value (written.Attributes kind uid gid flags size keep links birth unsynced) same = by_kind (nat_eq kind 2) same
  where
    by_kind : (b : Bool) → cond b Directory File ≡ value.kind → nat_eq (kind_number value.kind) 2 ≡ b
    by_kind true is = ap (λ (k : Kind). nat_eq (kind_number k) 2) (sym is)
    by_kind false is = ap (λ (k : Kind). nat_eq (kind_number k) 2) (sym is)
directory_said value r same = absurd same

pub keeps_said : (value : Attributes) (pending : Bool) (r : Record) → keeps_well (with_attributes value r) pending ≡ keeps_well r pending
keeps_said value pending (written.Attributes kind uid gid flags size keep links birth unsynced) = refl
keeps_said value pending r = refl

pub late_said : (value : Attributes) (made : ℕ) (r : Record) → IsLate made (with_attributes value r) → IsLate made r
late_said value made (written.Attributes kind uid gid flags size keep links birth unsynced) late = late
late_said value made r late = late

pub directory_resized : (size : ℕ) (lowered : Option ℕ) (r : Record) → says_directory (resized size lowered r) ≡ says_directory r
directory_resized size lowered (written.Attributes kind uid gid flags was keep links birth unsynced) = refl
directory_resized size lowered r = refl

pub keeps_resized : (size : ℕ) (pending : Bool) (r : Record) → keeps_well (resized size None r) pending ≡ keeps_well r pending
keeps_resized size pending (written.Attributes kind uid gid flags was keep links birth unsynced) = refl
keeps_resized size pending r = refl

pub late_resized : (size : ℕ) (lowered : Option ℕ) (made : ℕ) (r : Record) → IsLate made (resized size lowered r) → IsLate made r
late_resized size lowered made (written.Attributes kind uid gid flags was keep links birth unsynced) late = late
late_resized size lowered made r late = late

-- with pages that are stale it keeps fewer
pub keeps_lowered : (size from : ℕ) (r : Record) → from < 65536 → keeps_well (resized size (Some from) r) true ≡ true
keeps_lowered size from (written.Attributes kind uid gid flags was keep links birth unsynced) few = by_all (nat_eq from 65536) (nat_lt from 65536) (lt-ltb from 65536 few)
  where
    by_all : (a b : Bool) → b ≡ true → (a || (b && true)) ≡ true
    by_all true b is = refl
    by_all false true is = refl
    by_all false false is = is
keeps_lowered size from r few = refl

-- ---- what is asked of a first cell

abbrev pub says_keeps : List Record → Bool
says_keeps records = option_map_or (λ r. keeps_well r (has_kind 6 records)) (record_of 1 records) false

abbrev pub is_of_directory : List Record → Bool
is_of_directory records = option_map_or says_directory (record_of 1 records) false

-- two cells of which the same is so
pub record AreAlike (a b : List Record) : Type 0 where
  pub one : has_kind 1 b ≡ has_kind 1 a
  pub clone : has_kind 2 b ≡ has_kind 2 a
  pub four : has_kind 4 b ≡ has_kind 4 a
  pub parent : has_kind 10 b ≡ has_kind 10 a
  pub fourteen : has_kind 14 b ≡ has_kind 14 a
  pub kinds : list_all (λ r. is_first_kind (kind_of r)) b ≡ list_all (λ r. is_first_kind (kind_of r)) a
  pub directory : is_of_directory b ≡ is_of_directory a
  pub removed : say_removed b ≡ say_removed a
  pub keeps : says_keeps b ≡ says_keeps a

pub first_alike : (table : Table) (a b : Cell) → item_of table b.head ≡ item_of table a.head → AreAlike a.records b.records → is_good_first table b ≡ is_good_first table a
first_alike table a b item is = λ i.
    (is.one i && not (agree (is.four i) (is.fourteen i)) && is.kinds i)
    && (is.removed i
    || ((not (of_original (item i)) || ((agree (is.clone i) false && agree (is.parent i) (is.directory i)) && is.keeps i))
    && (not (of_clone (item i)) || (agree (is.clone i) true && agree (is.parent i) (is.directory i)))))

-- of an original's file that stays
module _ (table : Table) (cell : Cell) (good : is_good_first table cell ≡ true) where
  pub good_records : has_first_records cell.records ≡ true
  good_records = (and_parts (has_first_records cell.records) _ good).0

  pub good_kinds : of_original (item_of table cell.head) ≡ true → say_removed cell.records ≡ false → (has_its_kinds false cell.records ≡ true) × (says_keeps cell.records ≡ true)
  good_kinds original stays = ⊎_elim
      (λ removed. absurd (true≢false (sym removed ∙ stays)))
      (λ both. ⊎_elim
      (λ no_original. absurd (true≢false (sym no_original ∙ ap not original)))
      (λ kinds. and_parts (has_its_kinds false cell.records) (says_keeps cell.records) kinds)
      (or_cases (not (of_original (item_of table cell.head))) (has_its_kinds false cell.records && says_keeps cell.records) (and_parts (not (of_original (item_of table cell.head)) || (has_its_kinds false cell.records && says_keeps cell.records)) _ both).0))
      (or_cases (say_removed cell.records) _ (and_parts (has_first_records cell.records) _ good).1)

-- and of what is to be removed
pub good_removed : (table : Table) (cell : Cell) → has_first_records cell.records ≡ true → say_removed cell.records ≡ true → is_good_first table cell ≡ true
good_removed table cell records removed = and_from (has_first_records cell.records) _ records
    (ap (λ (b : Bool). b || ((not (of_original (item_of table cell.head)) || (has_its_kinds false cell.records && says_keeps cell.records))
    && (not (of_clone (item_of table cell.head)) || has_its_kinds true cell.records))) removed)

pub good_original : (table : Table) (cell : Cell) → has_first_records cell.records ≡ true → of_clone (item_of table cell.head) ≡ false → has_its_kinds false cell.records ≡ true → says_keeps cell.records ≡ true → is_good_first table cell ≡ true
good_original table cell records no_clone kinds keeps = and_from (has_first_records cell.records) _ records
    (either (say_removed cell.records) _ (and_from (not (of_original (item_of table cell.head)) || (has_its_kinds false cell.records && says_keeps cell.records)) (not (of_clone (item_of table cell.head)) || has_its_kinds true cell.records)
    (either (not (of_original (item_of table cell.head))) _ (and_from (has_its_kinds false cell.records) (says_keeps cell.records) kinds keeps))
    (ap (λ (b : Bool). not b || has_its_kinds true cell.records) no_clone)))
  where
    either : (a b : Bool) → b ≡ true → (a || b) ≡ true
    either true b is = refl
    either false b is = is
