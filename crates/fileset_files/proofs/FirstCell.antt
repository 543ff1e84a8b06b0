-- A record of a file's first cell that says nothing of pages is changed: the file stays one.
use Rattle.std.proofs.Common.{◌≡◌, ◌≢◌, ◌∙◌, ℕ, ◌<◌, ◌≤◌, Bool, true, false, cond, nat_eq, nat_lt, List, [], ◌∷◌, ◌++◌, filter, Option, Some, None, IfSome, IsSome, refl, sym, ap, subst, arith, ⊎_elim}
use Rattle.std.proofs.lemmas.Bool.{both_ways, cases_Bool, cases_lt, eqb-true, eq-eqb, false_from_ne_true, lt-ltb, ltb-true}
use Rattle.std.proofs.lemmas.Grind.{flat_map-append}
use Rattle.std.proofs.lemmas.List.Elements.{filter-append}
use Rattle.std.specs.List.{AllByRecursion}
use Rattle.std.specs.Option.{option_to_list}
use Rattle.file_chains.specs.page_store.Pages.{Pages}
use Rattle.file_chains.specs.cell_records.declared.record.Record.{Record}
use Rattle.file_chains.specs.cell_records.Records.{kind_of}
use Rattle.file_chains.specs.metadata_cells.declared.head.CellHead.{CellHead}
use Rattle.file_chains.specs.metadata_cells.Cell.{Cell, record_of}
use Rattle.file_chains.specs.metadata_cells.Chain.{Follow, LeavesOthers, PlacedCell, StandsAt, is_at, records_of}
use Rattle.file_chains.specs.extent_maps.declared.run.Run.{Run}
use Rattle.file_chains.specs.extent_records.Rows.{IsPlaced, NoPageTwice, runs_in, runs_of}
use Rattle.file_chains.specs.Changes.{above, below, with_kind, with_record}
use Rattle.file_chains.specs.Files.{AreFile, has_rows, map_records}
use Rattle.file_chains.proofs.ChainChanges.{follow_apart}
use Rattle.file_chains.proofs.MapRecords.{runs_by_map}
use Rattle.file_chains.proofs.Replaced.{filter_false, filter_true}

-- ---- a filter of a filter

filters_swap : (p q : Record → Bool) (rs : List Record) → filter p (filter q rs) ≡ filter q (filter p rs)
filters_swap p q [] = refl
filters_swap p q (r ∷ rs) = ⊎_elim
    (λ is_q. ⊎_elim
    (λ is_p. ap (filter p) (filter_true q r rs is_q) ∙ filter_true p r (filter q rs) is_p ∙ ap (λ (xs : List Record). r ∷ xs) (filters_swap p q rs)
    ∙ sym (ap (filter q) (filter_true p r rs is_p) ∙ filter_true q r (filter p rs) is_q))
    (λ no_p. ap (filter p) (filter_true q r rs is_q) ∙ filter_false p r (filter q rs) no_p ∙ filters_swap p q rs ∙ sym (ap (filter q) (filter_false p r rs no_p)))
    (cases_Bool (p r)))
    (λ no_q. ⊎_elim
    (λ is_p. ap (filter p) (filter_false q r rs no_q) ∙ filters_swap p q rs ∙ sym (ap (filter q) (filter_true p r rs is_p) ∙ filter_false q r (filter p rs) no_q))
    (λ no_p. ap (filter p) (filter_false q r rs no_q) ∙ filters_swap p q rs ∙ sym (ap (filter q) (filter_false p r rs no_p)))
    (cases_Bool (p r)))
    (cases_Bool (q r))

-- ---- the record with rows stays

module _ (kind : ℕ) (value : Option Record) (rs : List Record) (map : Record) (only : map_records rs ≡ map ∷ []) (other : kind_of map ≢ kind) (nothing : IfSome value (λ r. has_rows r ≡ false)) where
  middle_none : map_records (option_to_list value) ≡ []
  middle_none = by_value value nothing
    where
      by_value : (value : Option Record) → IfSome value (λ r. has_rows r ≡ false) → map_records (option_to_list value) ≡ []
      by_value None nothing = refl
      by_value (Some v) nothing = filter_false has_rows v [] nothing

  below_map : map_records (below kind rs) ≡ below kind (map ∷ [])
  below_map = filters_swap has_rows (λ r. nat_lt (kind_of r) kind) rs ∙ ap (below kind) only

  above_map : map_records (above kind rs) ≡ above kind (map ∷ [])
  above_map = filters_swap has_rows (λ r. nat_lt kind (kind_of r)) rs ∙ ap (above kind) only

  whole : map_records (with_kind kind value rs) ≡ below kind (map ∷ []) ++ above kind (map ∷ [])
  whole =
      filter-append has_rows (below kind rs) (option_to_list value ++ above kind rs)
      ∙ (λ i. below_map i ++ (filter-append has_rows (option_to_list value) (above kind rs) ∙ (λ j. middle_none j ++ above_map j)) i)

  pub map_stays : map_records (with_kind kind value rs) ≡ map ∷ []
  map_stays = whole ∙ ⊎_elim
      (λ less. (λ i. filter_true (λ r. nat_lt (kind_of r) kind) map [] (lt-ltb (kind_of map) kind less) i
      ++ filter_false (λ r. nat_lt kind (kind_of r)) map [] (false_from_ne_true (nat_lt kind (kind_of map)) (λ more. omega (arith, less, ltb-true kind (kind_of map) more))) i))
      (λ not_less. (λ i. filter_false (λ r. nat_lt (kind_of r) kind) map [] (false_from_ne_true (nat_lt (kind_of map) kind) (λ less. omega (arith, not_less, ltb-true (kind_of map) kind less))) i
      ++ filter_true (λ r. nat_lt kind (kind_of r)) map [] (lt-ltb kind (kind_of map) (greater not_less)) i))
      (cases_lt (kind_of map) kind)
    where
      greater : kind ≤ kind_of map → kind < kind_of map
      greater le = ⊎_elim (λ less. less) (λ not_less. absurd (other (let e : kind_of map ≡ kind = omega (arith, le, not_less) in e))) (cases_lt kind (kind_of map))

-- ---- a record of another kind stays

pub find_filter : (j : ℕ) (p : Record → Bool) (rs : List Record) → ((r : Record) → kind_of r ≡ j → p r ≡ true) → record_of j (filter p rs) ≡ record_of j rs
find_filter j p [] keeps = refl
find_filter j p (r ∷ rs) keeps = ⊎_elim
    (λ is. ap (record_of j) (filter_true p r rs is) ∙ ap (λ o. cond (nat_eq (kind_of r) j) (Some r) o) (find_filter j p rs keeps))
    (λ is_not. ap (record_of j) (filter_false p r rs is_not) ∙ find_filter j p rs keeps
    ∙ sym (ap (λ (b : Bool). cond b (Some r) (record_of j rs)) (false_from_ne_true (nat_eq (kind_of r) j) (λ same. both_ways (p r) is_not (keeps r (eqb-true (kind_of r) j same))))))
    (cases_Bool (p r))

find_none : (j : ℕ) (p : Record → Bool) (rs : List Record) → ((r : Record) → kind_of r ≡ j → p r ≡ false) → record_of j (filter p rs) ≡ None
find_none j p [] drops = refl
find_none j p (r ∷ rs) drops = ⊎_elim
    (λ is. ap (record_of j) (filter_true p r rs is)
    ∙ ap (λ (b : Bool). cond b (Some r) (record_of j (filter p rs))) (false_from_ne_true (nat_eq (kind_of r) j) (λ same. both_ways (p r) (drops r (eqb-true (kind_of r) j same)) is))
    ∙ find_none j p rs drops)
    (λ is_not. ap (record_of j) (filter_false p r rs is_not) ∙ find_none j p rs drops)
    (cases_Bool (p r))

find_behind : (j : ℕ) (xs ys : List Record) → record_of j xs ≡ None → record_of j (xs ++ ys) ≡ record_of j ys
find_behind j [] ys none = refl
find_behind j (x ∷ xs) ys none = ⊎_elim
    (λ same. absurd (some_is_none x (sym (ap (λ (b : Bool). cond b (Some x) (record_of j xs)) same) ∙ none)))
    (λ other. ap (λ (b : Bool). cond b (Some x) (record_of j (xs ++ ys))) other
    ∙ find_behind j xs ys (sym (ap (λ (b : Bool). cond b (Some x) (record_of j xs)) other) ∙ none))
    (cases_Bool (nat_eq (kind_of x) j))
  where
    some_is_none : (x : Record) → Some x ≡ None → ⊥
    some_is_none x e = cc

find_front : (j : ℕ) (xs ys : List Record) → record_of j ys ≡ None → record_of j (xs ++ ys) ≡ record_of j xs
find_front j [] ys none = none
find_front j (x ∷ xs) ys none = ap (λ o. cond (nat_eq (kind_of x) j) (Some x) o) (find_front j xs ys none)

-- the record of the kind is the one that was put, and those of other kinds are as they were
pub find_put : (kind : ℕ) (value : Option Record) (rs : List Record) → IfSome value (λ r. kind_of r ≡ kind) → record_of kind (with_kind kind value rs) ≡ value
find_put kind value rs of_kind =
    find_behind kind (below kind rs) (option_to_list value ++ above kind rs) (find_none kind (λ r. nat_lt (kind_of r) kind) rs (λ r is. false_from_ne_true (nat_lt (kind_of r) kind) (λ less. omega (arith, is, ltb-true (kind_of r) kind less))))
    ∙ by_value value of_kind
  where
    none_above : record_of kind (above kind rs) ≡ None
    none_above = find_none kind (λ r. nat_lt kind (kind_of r)) rs (λ r is. false_from_ne_true (nat_lt kind (kind_of r)) (λ more. omega (arith, is, ltb-true kind (kind_of r) more)))

    by_value : (value : Option Record) → IfSome value (λ r. kind_of r ≡ kind) → record_of kind (option_to_list value ++ above kind rs) ≡ value
    by_value None of_kind = none_above
    by_value (Some v) of_kind = ap (λ (b : Bool). cond b (Some v) (record_of kind (above kind rs))) (eq-eqb (kind_of v) kind of_kind)

pub find_other : (kind j : ℕ) (value : Option Record) (rs : List Record) → j ≢ kind → IfSome value (λ r. kind_of r ≡ kind) → record_of j (with_kind kind value rs) ≡ record_of j rs
find_other kind j value rs other of_kind = ⊎_elim
    (λ less.
    find_front j (below kind rs) (option_to_list value ++ above kind rs)
    (find_behind j (option_to_list value) (above kind rs) (middle value of_kind)
    ∙ find_none j (λ r. nat_lt kind (kind_of r)) rs (λ r is. false_from_ne_true (nat_lt kind (kind_of r)) (λ more. omega (arith, is, less, ltb-true kind (kind_of r) more))))
    ∙ find_filter j (λ r. nat_lt (kind_of r) kind) rs (λ r is. lt-ltb (kind_of r) kind (omega (arith, is, less))))
    (λ not_less.
    find_behind j (below kind rs) (option_to_list value ++ above kind rs) (find_none j (λ r. nat_lt (kind_of r) kind) rs (λ r is. false_from_ne_true (nat_lt (kind_of r) kind) (λ less. omega (arith, is, not_less, ltb-true (kind_of r) kind less))))
    ∙ find_behind j (option_to_list value) (above kind rs) (middle value of_kind)
    ∙ find_filter j (λ r. nat_lt kind (kind_of r)) rs (λ r is. lt-ltb kind (kind_of r) (subst (λ (n : ℕ). kind < n) (sym is) (greater not_less))))
    (cases_lt j kind)
  where
    greater : kind ≤ j → kind < j
    greater le = ⊎_elim (λ less. less) (λ not_less. absurd (other (let e : j ≡ kind = omega (arith, le, not_less) in e))) (cases_lt kind j)

    middle : (value : Option Record) → IfSome value (λ r. kind_of r ≡ kind) → record_of j (option_to_list value) ≡ None
    middle None of_kind = refl
    middle (Some v) of_kind = ap (λ (b : Bool). cond b (Some v) None) (false_from_ne_true (nat_eq (kind_of v) j) (λ same. other (sym (eqb-true (kind_of v) j same) ∙ of_kind)))

-- ---- the file

module _ (old new : Pages) (first : PlacedCell) (rest : List PlacedCell) (after : Cell) (are : AreFile old first rest) (leaves : LeavesOthers (is_at first.at) old new) (stands : StandsAt new first.at after) (head : after.head ≡ first.cell.head)
    (maps : map_records after.records ≡ are.value ∷ []) (attributes : IsSome (record_of 1 after.records)) where
  runs_now : runs_of after.records ≡ runs_of first.cell.records
  runs_now = runs_by_map after.records ∙ ap runs_of (maps ∙ sym are.map.only) ∙ sym (runs_by_map first.cell.records)

  pub runs_same : runs_of (records_of (record { at = first.at; cell = after } ∷ rest)) ≡ runs_of (records_of (first ∷ rest))
  runs_same =
      flat_map-append runs_in after.records (records_of rest) ∙ ap (λ (xs : List Run). xs ++ runs_of (records_of rest)) runs_now
      ∙ sym (flat_map-append runs_in first.cell.records (records_of rest))

  pub file_changed : AreFile new (record { at = first.at; cell = after }) rest
  file_changed = record {
    links = record {
      stands = stands;
      follow = follow_apart old new first.at leaves after.head rest are.links.distinct.0 (subst (λ (h : CellHead). Follow old h rest) (sym head) are.links.follow);
      distinct = are.links.distinct;
    };
    primary = ap (λ (h : CellHead). h.kind) head ∙ are.primary;
    attributes = attributes;
    value = are.value;
    map = record { only = maps; is_map = are.map.is_map };
    others = are.others;
    one_map = record {
      placed = subst (AllByRecursion IsPlaced) (sym runs_same) are.one_map.placed;
      once = subst NoPageTwice (sym runs_same) are.one_map.once;
    };
  }

module _ (old new : Pages) (first : PlacedCell) (rest : List PlacedCell) (kind : ℕ) (value : Option Record) (are : AreFile old first rest) (leaves : LeavesOthers (is_at first.at) old new)
    (stands : StandsAt new first.at (with_record kind value first.cell)) (of_kind : IfSome value (λ r. kind_of r ≡ kind)) (nothing : IfSome value (λ r. has_rows r ≡ false))
    (other : kind_of are.value ≢ kind) (attributes : IsSome (record_of 1 (with_kind kind value first.cell.records))) where
  pub file_now : AreFile new (record { at = first.at; cell = with_record kind value first.cell }) rest
  file_now = file_changed old new first rest (with_record kind value first.cell) are leaves stands refl (map_stays kind value first.cell.records are.value are.map.only other nothing) attributes
