-- What is asked of a cell is so of what a step makes of it.
use Rattle.std.proofs.Common.{◌≡◌, ◌∙◌, ◌&&◌, ◌||◌, inl, inr, ℕ, Bool, true, false, not, cond, nat_eq, nat_le, List, [], ◌∷◌, map, Option, Some, None, IfSome, is_some, refl, sym, ap, subst, arith, ⊎_elim, true≢false}
use Rattle.std.proofs.lemmas.Bool.{and_from, and_parts, cases_Bool, eqb-true, or_cases}
use Rattle.std.specs.List.{AllByRecursion, list_all, list_any}
use Rattle.std.specs.Option.{option_and_then, option_map, option_map_or}
use Rattle.standing_laws.specs.cell_records.Records.{kind_of}
use Rattle.standing_laws.specs.cell_records.declared.record.Leftover.{Leftover}
use Rattle.standing_laws.specs.cell_records.declared.record.Leftover.TheVariants.{Trim}
use Rattle.standing_laws.specs.cell_records.declared.record.Record.{Record}
use Rattle.standing_laws.specs.cell_records.declared.record.Record.TheVariants as written
use Rattle.standing_laws.specs.metadata_cells.declared.head.CellHead.{CellHead}
use Rattle.standing_laws.specs.metadata_cells.declared.head.CellKind.TheVariants.{Chain, Primary}
use Rattle.standing_laws.specs.metadata_cells.Cell.{Cell, record_of}
use Rattle.standing_laws.specs.metadata_cells.Chain.{PlacedCell}
use Rattle.standing_laws.specs.extent_records.Writing.{most_rows}
use Rattle.standing_laws.specs.file_chains.Changes.{with_kind}
use Rattle.standing_laws.specs.file_chains.FileChanges.{map_kinds, other_records}
use Rattle.standing_laws.specs.file_chains.Files.{IsMapCell, has_rows}
use Rattle.standing_laws.proofs.OfFileChains.MapRecords.{value_has_rows}
use Rattle.standing_laws.proofs.OfFileChains.Replaced.{all_filter, filter_false, filter_true}
use Rattle.standing_laws.specs.fileset_files.Files.{is_first_kind, says_remove}
use Rattle.standing_laws.specs.fileset_table.Table.{Table}
use Rattle.standing_laws.specs.release_list.Listed.{leftover_in}
use Rattle.standing_laws.specs.release_list.Steps.{kept_all, says_trimmed}
use Rattle.standing_laws.proofs.OfReleaseList.Firsts.{first_same}
use Rattle.standing_laws.proofs.OfReleaseList.Records.{kept_of, trimmed_other}
use Rattle.standing_laws.proofs.OfReleaseList.Spread.{none_not, some_same}
use Rattle.standing_laws.proofs.OfReleaseSteps.AllKept.{trimmed_first}
use Rattle.standing_laws.specs.domain_layout.CellRules.{agree, has_first_records, has_its_kinds, has_kind, is_chain_records, is_good_first, item_of, keeps_well, of_clone, of_original, say_removed, says_directory}
use Rattle.standing_laws.specs.domain_layout.TagRules.{IsLate}
use Rattle.standing_laws.specs.domain_standing.Rest.{HasNoHoles}
use Rattle.standing_laws.proofs.RestRecords.{AreKinds, all_first, first_alike, good_records, has_by_map, is_of_directory, kinds_by_maps, kinds_of_maps, kinds_put, says_keeps}
use Rattle.release_laws.proofs.CellFates.{CellGoes, FirstGoes, IsLess, shorter, stays, trims}

-- ---- the kinds of its records

-- a later cell has the record alone that says where pages stand
map_alone : (P : ℕ → Type 0) (cell : Cell) → IsMapCell cell → AllByRecursion P (map_kinds cell.records) → AreKinds P cell.records
map_alone P cell is maps = kinds_by_maps P cell.records
    (subst (λ rs. AreKinds P (other_records rs)) (sym is.only) (subst (AreKinds P) (sym (filter_false (λ r. not (has_rows r)) is.value [] (ap not (value_has_rows is.value is.is_map)))) tt))
    maps

module _ (P : ℕ → Type 0) where
  less_kinds : (b c : PlacedCell) → IsLess b c → AreKinds P b.cell.records → AreKinds P c.cell.records
  less_kinds b c is all = kinds_by_maps P c.cell.records
      (subst (AreKinds P) (sym is.same.2) (all_filter (λ r. P (kind_of r)) (λ r. not (has_rows r)) b.cell.records all))
      (subst (AllByRecursion P) (sym is.same.3) (kinds_of_maps P b.cell.records all))

  trimmed_kinds : P 1 → (cell : Cell) → AreKinds P cell.records → AreKinds P (says_trimmed cell).records
  trimmed_kinds one cell all =
      kinds_put P 6 None (with_kind 1 (option_map kept_all (record_of 1 cell.records)) cell.records)
      (kinds_put P 1 (option_map kept_all (record_of 1 cell.records)) cell.records all (by_value (option_map kept_all (record_of 1 cell.records)) (kept_of cell)))
      tt
    where
      by_value : (o : Option Record) → IfSome o (λ r. kind_of r ≡ 1) → IfSome o (λ r. P (kind_of r))
      by_value None is = tt
      by_value (Some r) is = subst P (sym is) one

  pub kinds_go : P 1 → (b c : PlacedCell) → CellGoes b c → AreKinds P b.cell.records → AreKinds P c.cell.records
  kinds_go one b c (inl (stays same)) all = subst (λ (x : PlacedCell). AreKinds P x.cell.records) (sym same) all
  kinds_go one b c (inl (shorter is)) all = less_kinds b c is all
  kinds_go one b c (inl (trims is)) all = subst (λ (x : Cell). AreKinds P x.records) (sym is.is) (trimmed_kinds one b.cell all)
  kinds_go one b c (inr is) all = map_alone P c.cell is.map (subst (AllByRecursion P) (sym is.kinds) (kinds_of_maps P b.cell.records all))

-- ---- what a first cell says

said_less : (k : ℕ) → nat_le 1 (most_rows k) ≡ false → (b c : PlacedCell) → IsLess b c → record_of k c.cell.records ≡ record_of k b.cell.records
said_less k nothing b c is = first_same k nothing (b ∷ []) (c ∷ []) is.same

map_less : (k : ℕ) → nat_le 1 (most_rows k) ≡ true → (b c : PlacedCell) → IsLess b c → has_kind k c.cell.records ≡ has_kind k b.cell.records
map_less k rows b c is = has_by_map k rows c.cell.records ∙ ap (list_any (λ j. nat_eq j k)) is.same.3 ∙ sym (has_by_map k rows b.cell.records)

firsts_of : (rs : List Record) → list_all (λ r. is_first_kind (kind_of r)) rs ≡ true → AreKinds (λ k. is_first_kind k ≡ true) rs
firsts_of [] all = tt
firsts_of (r ∷ rs) all = let both = and_parts (is_first_kind (kind_of r)) (list_all (λ r. is_first_kind (kind_of r)) rs) all in (both.0, firsts_of rs both.1)

firsts_good : (table : Table) (cell : Cell) → is_good_first table cell ≡ true → AreKinds (λ k. is_first_kind k ≡ true) cell.records
firsts_good table cell good =
    firsts_of cell.records
    (and_parts (has_kind 1 cell.records && not (agree (has_kind 4 cell.records) (has_kind 14 cell.records))) (list_all (λ r. is_first_kind (kind_of r)) cell.records) (good_records table cell good)).1

less_good : (table : Table) (b c : PlacedCell) → IsLess b c → is_good_first table b.cell ≡ true → is_good_first table c.cell ≡ true
less_good table b c is good =
    let firsts = firsts_good table b.cell good in
    first_alike table b.cell c.cell (ap (λ (h : CellHead). item_of table h) is.same.1) (record {
      one = ap is_some (said_less 1 refl b c is);
      clone = ap is_some (said_less 2 refl b c is);
      four = map_less 4 refl b c is;
      parent = ap is_some (said_less 10 refl b c is);
      fourteen = map_less 14 refl b c is;
      kinds = all_first c.cell.records (less_kinds (λ k. is_first_kind k ≡ true) b c is firsts) ∙ sym (all_first b.cell.records firsts);
      directory = ap (λ o. option_map_or says_directory o false) (said_less 1 refl b c is);
      removed = ap (λ o. option_map_or says_remove o false) (said_less 6 refl b c is);
      keeps = λ i. option_map_or (λ r. keeps_well r (is_some (said_less 6 refl b c is i))) (said_less 1 refl b c is i) false;
    }) ∙ good

-- ---- one that is trimmed

pub trim_stays : (o : Option Record) → option_and_then leftover_in o ≡ Some Trim → option_map_or says_remove o false ≡ false
trim_stays None left = absurd (none_not Trim left)
trim_stays (Some r) left = by_record r left
  where
    by_record : (r : Record) → leftover_in r ≡ Some Trim → says_remove r ≡ false
    by_record (written.Attributes kind uid gid flags size keep links birth unsynced) left = absurd (none_not Trim left)
    by_record (written.CloneFile vol cell page frozen) left = absurd (none_not Trim left)
    by_record (written.Extents rows) left = absurd (none_not Trim left)
    by_record (written.ShortExtents rows) left = absurd (none_not Trim left)
    by_record (written.Holes rows) left = absurd (none_not Trim left)
    by_record (written.Pending what) left = ap (λ (w : Leftover). says_remove (written.Pending w)) (some_same what Trim left)
    by_record (written.UserQuota id files blocks) left = absurd (none_not Trim left)
    by_record (written.GroupQuota id files blocks) left = absurd (none_not Trim left)
    by_record (written.DirIndex vol page entries) left = absurd (none_not Trim left)
    by_record (written.Parent slot seq) left = absurd (none_not Trim left)
    by_record (written.Stripe width mark vols) left = absurd (none_not Trim left)
    by_record (written.Volume vol pages bitmap_pages) left = absurd (none_not Trim left)
    by_record (written.DenseExtents rows) left = absurd (none_not Trim left)
    by_record (written.ShortDense rows) left = absurd (none_not Trim left)

directory_kept : (r : Record) → says_directory (kept_all r) ≡ says_directory r
directory_kept (written.Attributes kind uid gid flags size keep links birth unsynced) = refl
directory_kept r = refl

keeps_kept : (r : Record) (pending : Bool) → keeps_well (kept_all r) pending ≡ true
keeps_kept (written.Attributes kind uid gid flags size keep links birth unsynced) pending = refl
keeps_kept r pending = refl

late_kept : (made : ℕ) (r : Record) → IsLate made (kept_all r) → IsLate made r
late_kept made (written.Attributes kind uid gid flags size keep links birth unsynced) late = late
late_kept made r late = late

either : (a b : Bool) → b ≡ true → (a || b) ≡ true
either true b is = refl
either false b is = is

module _ (table : Table) (cell : Cell) (left : option_and_then leftover_in (record_of 6 cell.records) ≡ Some Trim) (good : is_good_first table cell ≡ true) where
  abbrev trimmed : Cell
  trimmed = says_trimmed cell

  other : (k : ℕ) → ¬ k ≡ 1 → ¬ k ≡ 6 → has_kind k trimmed.records ≡ has_kind k cell.records
  other k one six = ap is_some (trimmed_other cell k one six)

  one_same : has_kind 1 trimmed.records ≡ has_kind 1 cell.records
  one_same = ap is_some (trimmed_first cell) ∙ by_found (record_of 1 cell.records)
    where
      by_found : (o : Option Record) → is_some (option_map kept_all o) ≡ is_some o
      by_found None = refl
      by_found (Some r) = refl

  directory_same : is_of_directory trimmed.records ≡ is_of_directory cell.records
  directory_same = ap (λ o. option_map_or says_directory o false) (trimmed_first cell) ∙ by_found (record_of 1 cell.records)
    where
      by_found : (o : Option Record) → option_map_or says_directory (option_map kept_all o) false ≡ option_map_or says_directory o false
      by_found None = refl
      by_found (Some r) = directory_kept r

  firsts : AreKinds (λ k. is_first_kind k ≡ true) cell.records
  firsts = firsts_good table cell good

  records_now : has_first_records trimmed.records ≡ true
  records_now = (λ i. one_same i && not (agree (other 4 (λ e. omega (arith, e)) (λ e. omega (arith, e)) i) (other 14 (λ e. omega (arith, e)) (λ e. omega (arith, e)) i))
      && (all_first trimmed.records (trimmed_kinds (λ k. is_first_kind k ≡ true) refl cell firsts) ∙ sym (all_first cell.records firsts)) i) ∙ good_records table cell good

  its_same : (clone : Bool) → has_its_kinds clone trimmed.records ≡ has_its_kinds clone cell.records
  its_same clone i = agree (other 2 (λ e. omega (arith, e)) (λ e. omega (arith, e)) i) clone && agree (other 10 (λ e. omega (arith, e)) (λ e. omega (arith, e)) i) (directory_same i)

  keeps_now : says_keeps cell.records ≡ true → says_keeps trimmed.records ≡ true
  keeps_now keeps = ap (λ o. option_map_or (λ r. keeps_well r (has_kind 6 trimmed.records)) o false) (trimmed_first cell) ∙ by_found (record_of 1 cell.records) keeps
    where
      by_found : (o : Option Record) → option_map_or (λ r. keeps_well r (has_kind 6 cell.records)) o false ≡ true → option_map_or (λ r. keeps_well r (has_kind 6 trimmed.records)) (option_map kept_all o) false ≡ true
      by_found None keeps = absurd (true≢false (sym keeps))
      by_found (Some r) keeps = keeps_kept r (has_kind 6 trimmed.records)

  abbrev original : Bool
  original = of_original (item_of table cell.head)

  abbrev clone : Bool
  clone = of_clone (item_of table cell.head)

  -- it was not to be removed, so what is asked of originals and clones was so
  asked : ((not original || (has_its_kinds false cell.records && says_keeps cell.records)) && (not clone || has_its_kinds true cell.records)) ≡ true
  asked = ⊎_elim
      (λ removed. absurd (true≢false (sym removed ∙ trim_stays (record_of 6 cell.records) left)))
      (λ is. is)
      (or_cases (say_removed cell.records) _ (and_parts (has_first_records cell.records) _ good).1)

  of_originals : (not original || (has_its_kinds false trimmed.records && says_keeps trimmed.records)) ≡ true
  of_originals = ⊎_elim
      (λ no. ap (λ (b : Bool). b || (has_its_kinds false trimmed.records && says_keeps trimmed.records)) no)
      (λ both.
      let parts = and_parts (has_its_kinds false cell.records) (says_keeps cell.records) both in
      either (not original) (has_its_kinds false trimmed.records && says_keeps trimmed.records) (and_from (has_its_kinds false trimmed.records) (says_keeps trimmed.records) (its_same false ∙ parts.0) (keeps_now parts.1)))
      (or_cases (not original) (has_its_kinds false cell.records && says_keeps cell.records) (and_parts (not original || (has_its_kinds false cell.records && says_keeps cell.records)) (not clone || has_its_kinds true cell.records) asked).0)

  of_clones : (not clone || has_its_kinds true trimmed.records) ≡ true
  of_clones = ap (λ (b : Bool). not clone || b) (its_same true) ∙ (and_parts (not original || (has_its_kinds false cell.records && says_keeps cell.records)) (not clone || has_its_kinds true cell.records) asked).1

  trimmed_good : is_good_first table trimmed ≡ true
  trimmed_good = and_from (has_first_records trimmed.records) _ records_now
      (either (say_removed trimmed.records) _
      (and_from (not original || (has_its_kinds false trimmed.records && says_keeps trimmed.records)) (not clone || has_its_kinds true trimmed.records) of_originals of_clones))

-- ---- what is asked of cells

pub good_go : (table : Table) (b c : PlacedCell) → CellGoes b c → c.cell.head.kind ≡ Primary → (b.cell.head.kind ≡ Primary → is_good_first table b.cell ≡ true) → is_good_first table c.cell ≡ true
good_go table b c (inl (stays same)) primary good = ap (λ (x : PlacedCell). is_good_first table x.cell) same ∙ good (ap (λ (x : PlacedCell). x.cell.head.kind) (sym same) ∙ primary)
good_go table b c (inl (shorter is)) primary good = less_good table b c is (good (sym (ap (λ (h : CellHead). h.kind) is.same.1) ∙ primary))
good_go table b c (inl (trims is)) primary good = ap (is_good_first table) is.is ∙ trimmed_good table b.cell is.left (good (sym (ap (λ (x : Cell). x.head.kind) is.is) ∙ primary))
good_go table b c (inr is) primary good = absurd (let e : Primary ≡ Chain = sym primary ∙ is.chain in cc)

-- a later cell has no attributes
no_attributes : (cell : Cell) → IsMapCell cell → record_of 1 cell.records ≡ None
no_attributes cell is = ap (record_of 1) is.only ∙ ap (λ (b : Bool). cond b (Some is.value) None) not_one
  where
    not_one : nat_eq (kind_of is.value) 1 ≡ false
    not_one = ⊎_elim
        (λ one. absurd (true≢false (sym (value_has_rows is.value is.is_map) ∙ ap (λ (k : ℕ). nat_le 1 (most_rows k)) (eqb-true (kind_of is.value) 1 one))))
        (λ other. other)
        (cases_Bool (nat_eq (kind_of is.value) 1))

pub births_go : (made : ℕ) (b c : PlacedCell) → CellGoes b c → ((value : Record) → record_of 1 b.cell.records ≡ Some value → ¬ IsLate made value) → (value : Record) → record_of 1 c.cell.records ≡ Some value → ¬ IsLate made value
births_go made b c (inl (stays same)) was value has late = was value (ap (λ (x : PlacedCell). record_of 1 x.cell.records) (sym same) ∙ has) late
births_go made b c (inl (shorter is)) was value has late = was value (sym (said_less 1 refl b c is) ∙ has) late
births_go made b c (inl (trims is)) was value has late = by_found (record_of 1 b.cell.records) refl (sym (trimmed_first b.cell) ∙ ap (λ (x : Cell). record_of 1 x.records) (sym is.is) ∙ has)
  where
    by_found : (o : Option Record) → record_of 1 b.cell.records ≡ o → option_map kept_all o ≡ Some value → ⊥
    by_found None is same = none_not value same
    by_found (Some r) is same = was r is (late_kept made r (subst (IsLate made) (sym (some_same (kept_all r) value same)) late))
births_go made b c (inr is) was value has late = none_not value (sym (no_attributes c.cell is.map) ∙ has)

pub holes_go : (b c : PlacedCell) → CellGoes b c → HasNoHoles b → HasNoHoles c
holes_go b c (inl (stays same)) nothing = subst HasNoHoles (sym same) nothing
holes_go b c (inl (shorter is)) nothing = map_less 5 refl b c is ∙ nothing
holes_go b c (inl (trims is)) nothing = ap (λ (x : Cell). has_kind 5 x.records) is.is ∙ ap is_some (trimmed_other b.cell 5 (λ e. omega (arith, e)) (λ e. omega (arith, e))) ∙ nothing
holes_go b c (inr is) nothing = has_by_map 5 refl c.cell.records ∙ ap (list_any (λ j. nat_eq j 5)) is.kinds ∙ sym (has_by_map 5 refl b.cell.records) ∙ nothing

-- ---- first cells of chains

pub item_back : (table : Table) (b c : PlacedCell) → FirstGoes b c → item_of table c.cell.head ≡ item_of table b.cell.head
item_back table b c (stays same) = ap (λ (x : PlacedCell). item_of table x.cell.head) same
item_back table b c (shorter is) = ap (λ (h : CellHead). item_of table h) is.same.1
item_back table b c (trims is) = ap (λ (x : Cell). item_of table x.head) is.is

-- what stays was none that is to be removed
pub live_back : (b c : PlacedCell) → FirstGoes b c → option_map_or says_remove (record_of 6 c.cell.records) false ≡ false → option_map_or says_remove (record_of 6 b.cell.records) false ≡ false
live_back b c (stays same) live = ap (λ (x : PlacedCell). option_map_or says_remove (record_of 6 x.cell.records) false) (sym same) ∙ live
live_back b c (shorter is) live = ap (λ o. option_map_or says_remove o false) (sym (said_less 6 refl b c is)) ∙ live
live_back b c (trims is) live = trim_stays (record_of 6 b.cell.records) is.left

-- ---- later cells

one_kind : (cell : Cell) (is : IsMapCell cell) → map_kinds cell.records ≡ kind_of is.value ∷ []
one_kind cell is = ap map_kinds is.only ∙ ap (map kind_of) (filter_true has_rows is.value [] (value_has_rows is.value is.is_map))

same_kind : (j k : ℕ) → j ∷ [] ≡ k ∷ [] → j ≡ k
same_kind j k same = cc

abbrev is_later : ℕ → Bool
is_later k = (nat_eq k 3) || (nat_eq k 5) || (nat_eq k 13)

pub laters_go : (b c : PlacedCell) → CellGoes b c → (b.cell.head.kind ≡ Chain → is_chain_records b.cell.records ≡ true) → c.cell.head.kind ≡ Chain → is_chain_records c.cell.records ≡ true
laters_go b c (inl (stays same)) was chain = ap (λ (x : PlacedCell). is_chain_records x.cell.records) same ∙ was (ap (λ (x : PlacedCell). x.cell.head.kind) (sym same) ∙ chain)
laters_go b c (inl (shorter is)) was chain = absurd (is.first chain)
laters_go b c (inl (trims is)) was chain = absurd (is.first chain)
laters_go b c (inr is) was chain =
    let kind : kind_of is.map.value ≡ kind_of is.was_map.value = same_kind (kind_of is.map.value) (kind_of is.was_map.value) (sym (one_kind c.cell is.map) ∙ is.kinds ∙ one_kind b.cell is.was_map) in
    ap is_chain_records is.map.only ∙ ap is_later kind ∙ sym (ap is_chain_records is.was_map.only) ∙ was is.was_chain
