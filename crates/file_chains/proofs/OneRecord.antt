-- A cell with another record of the same kind in place of the one that says where pages stand.
use Rattle.std.proofs.Common.{◌≡◌, ◌∙◌, ℕ, ◌+◌, ◌*◌, ◌^◌, ◌<◌, ◌≤◌, not, Bool, true, false, nat_eq, nat_le, nat_lt, List, [], ◌∷◌, ◌++◌, filter, length, Some, IsSome, refl, sym, ap, subst, arith, length-append, ⊎_elim}
use Rattle.std.proofs.lemmas.Bool.{both_ways, cases_Bool, cases_lt, eqb-true, lt-ltb, ltb-true, true≢false}
use Rattle.std.proofs.lemmas.List.Elements.{filter-append}
use Rattle.std.specs.List.{AllByRecursion}
use Rattle.free_cells.specs.cell_records.declared.record.Record.{Record}
use Rattle.free_cells.specs.cell_records.Records.{Allowed, kind_of, spelling}
use Rattle.free_cells.specs.cell_records.Layouts.{size_of}
use Rattle.free_cells.proofs.OfCellRecords.WholeRecord.{length-spelling}
use Rattle.free_cells.specs.metadata_cells.Cell.{AreRecords, AreRising, Cell, place_of, record_of, spellings}
use Rattle.free_cells.proofs.OfMetadataCells.Spellings.{spellings-append}
use Rattle.extent_records.specs.Writing.{IsMapRecord, most_rows}
use Rattle.file_chains.specs.Changes.{above, below, with_kind, with_record}
use Rattle.file_chains.specs.FileChanges.{other_records}
use Rattle.file_chains.specs.Files.{HasMap, IsMapCell, has_rows, map_records}
use Rattle.file_chains.proofs.MapRecords.{head_same, kind_false, kind_true, rows_false, rows_true, tail_same, value_has_rows}
use Rattle.file_chains.proofs.Replaced.{filter_false, filter_true, id_small, parted}

not_less : (k : ℕ) → nat_lt k k ≡ false
not_less k = ⊎_elim (λ is. absurd (omega (arith, ltb-true k k is))) (λ is. is) (cases_Bool (nat_lt k k))

-- a record of a kind with rows has rows
same_rows : (a b : Record) → kind_of a ≡ kind_of b → has_rows a ≡ has_rows b
same_rows a b same = ap (λ (k : ℕ). nat_le 1 (most_rows k)) same

-- ---- the one record with rows

-- where none has rows, none of those that pass a test has
none_passes : (p : Record → Bool) (rs : List Record) → map_records rs ≡ [] → map_records (filter p rs) ≡ []
none_passes p [] none = refl
none_passes p (r ∷ rs) none = ⊎_elim
    (λ rows. absurd (omega (arith, ap length (sym (rows_true r rs rows) ∙ none))))
    (λ rows.
    let later = none_passes p rs (sym (rows_false r rs rows) ∙ none) in
    ⊎_elim
    (λ is. ap map_records (filter_true p r rs is) ∙ rows_false r (filter p rs) rows ∙ later)
    (λ is. ap map_records (filter_false p r rs is) ∙ later)
    (cases_Bool (p r)))
    (cases_Bool (has_rows r))

-- nor where the one that has does not pass it
one_left_out : (p : Record → Bool) (rs : List Record) (value : Record) → p value ≡ false → map_records rs ≡ value ∷ [] → map_records (filter p rs) ≡ []
one_left_out p [] value out only = refl
one_left_out p (r ∷ rs) value out only = ⊎_elim
    (λ rows.
    let all : r ∷ map_records rs ≡ value ∷ [] = sym (rows_true r rs rows) ∙ only in
    let is = head_same r value (map_records rs) all in
    ap map_records (filter_false p r rs (ap p is ∙ out)) ∙ none_passes p rs (tail_same r value (map_records rs) all))
    (λ rows.
    let later = one_left_out p rs value out (sym (rows_false r rs rows) ∙ only) in
    ⊎_elim
    (λ is. ap map_records (filter_true p r rs is) ∙ rows_false r (filter p rs) rows ∙ later)
    (λ is. ap map_records (filter_false p r rs is) ∙ later)
    (cases_Bool (p r)))
    (cases_Bool (has_rows r))

module _ (value after : Record) (is_map : IsMapRecord after) (same : kind_of after ≡ kind_of value) where
  abbrev kind : ℕ
  kind = kind_of value

  after_rows : has_rows after ≡ true
  after_rows = value_has_rows after is_map

  value_rows : has_rows value ≡ true
  value_rows = sym (same_rows after value same) ∙ after_rows

  pub only_after : (rs : List Record) → map_records rs ≡ value ∷ [] → map_records (with_kind kind (Some after) rs) ≡ after ∷ []
  only_after rs only =
      filter-append has_rows (below kind rs) (after ∷ above kind rs)
      ∙ ap (λ (xs : List Record). xs ++ map_records (after ∷ above kind rs)) (one_left_out (λ r. nat_lt (kind_of r) kind) rs value (not_less kind) only)
      ∙ rows_true after (above kind rs) after_rows
      ∙ ap (λ (xs : List Record). after ∷ xs) (one_left_out (λ r. nat_lt kind (kind_of r)) rs value (not_less kind) only)

  pub has_after : (cell : Cell) → HasMap cell value → HasMap (with_record kind (Some after) cell) after
  has_after cell has = record { only = only_after cell.records has.only; is_map = is_map }

  pub map_cell_after : (cell : Cell) → HasMap cell value → IsMapCell cell → IsMapCell (with_record kind (Some after) cell)
  map_cell_after cell has is = record {
    value = after;
    only = ap (with_kind kind (Some after)) (is.only ∙ ap (λ (r : Record). r ∷ []) is_value) ∙ ap (λ (xs : List Record). xs ++ after ∷ above kind (value ∷ [])) (filter_false (λ r. nat_lt (kind_of r) kind) value [] (not_less kind))
        ∙ ap (λ (xs : List Record). after ∷ xs) (filter_false (λ r. nat_lt kind (kind_of r)) value [] (not_less kind));
    is_map = is_map;
  }
    where
      is_value : is.value ≡ value
      is_value = head_same is.value value [] (sym (rows_true is.value [] (value_has_rows is.value is.is_map)) ∙ ap map_records (sym is.only) ∙ has.only)

  -- ---- room for it

  parted_one : (rs : List Record) → map_records rs ≡ value ∷ [] → length (spellings (below kind rs)) + length (spelling value) + length (spellings (above kind rs)) ≤ length (spellings rs)
  parted_one [] only = absurd (omega (arith, ap length only))
  parted_one (r ∷ rs) only = ⊎_elim
      (λ rows.
      let is = head_same r value (map_records rs) (sym (rows_true r rs rows) ∙ only) in
      omega (
        arith,
        parted kind rs,
        length-append (spelling r) (spellings rs),
        ap (λ (x : Record). length (spelling x)) is,
        ap (λ xs. length (spellings xs)) (filter_false (λ r. nat_lt (kind_of r) kind) r rs (ap (λ (x : Record). nat_lt (kind_of x) kind) is ∙ not_less kind)),
        ap (λ xs. length (spellings xs)) (filter_false (λ r. nat_lt kind (kind_of r)) r rs (ap (λ (x : Record). nat_lt kind (kind_of x)) is ∙ not_less kind)),
      ))
      (λ rows. one_more (parted_one rs (sym (rows_false r rs rows) ∙ only)))
      (cases_Bool (has_rows r))
    where
      one_more : length (spellings (below kind rs)) + length (spelling value) + length (spellings (above kind rs)) ≤ length (spellings rs)
          → length (spellings (below kind (r ∷ rs))) + length (spelling value) + length (spellings (above kind (r ∷ rs))) ≤ length (spellings (r ∷ rs))
      one_more before =
          let all = length-append (spelling r) (spellings rs) in
          ⊎_elim
          (λ less. ⊎_elim
          (λ more. absurd (omega (arith, ltb-true (kind_of r) kind less, ltb-true kind (kind_of r) more)))
          (λ no_more. omega (
            arith,
            before,
            all,
            ap (λ xs. length (spellings xs)) (filter_true (λ r. nat_lt (kind_of r) kind) r rs less),
            length-append (spelling r) (spellings (below kind rs)),
            ap (λ xs. length (spellings xs)) (filter_false (λ r. nat_lt kind (kind_of r)) r rs no_more),
          ))
          (cases_Bool (nat_lt kind (kind_of r))))
          (λ no_less. ⊎_elim
          (λ more. omega (
            arith,
            before,
            all,
            ap (λ xs. length (spellings xs)) (filter_true (λ r. nat_lt kind (kind_of r)) r rs more),
            length-append (spelling r) (spellings (above kind rs)),
            ap (λ xs. length (spellings xs)) (filter_false (λ r. nat_lt (kind_of r) kind) r rs no_less),
          ))
          (λ no_more. omega (
            arith,
            before,
            all,
            ap (λ xs. length (spellings xs)) (filter_false (λ r. nat_lt kind (kind_of r)) r rs no_more),
            ap (λ xs. length (spellings xs)) (filter_false (λ r. nat_lt (kind_of r) kind) r rs no_less),
          ))
          (cases_Bool (nat_lt kind (kind_of r))))
          (cases_Bool (nat_lt (kind_of r) kind))

  pub replaced_fits : (rs : List Record) → map_records rs ≡ value ∷ [] → Allowed value → length (spellings (with_kind kind (Some after) rs)) ≤ length (spellings rs)
  replaced_fits rs only allowed = omega (
    arith,
    parted_one rs only,
    length-spelling value allowed,
    length-spelling after is_map.allowed,
    ap size_of same,
    ap length (spellings-append (below kind rs) (after ∷ above kind rs)),
    length-append (spellings (below kind rs)) (spellings (after ∷ above kind rs)),
    length-append (spelling after) (spellings (above kind rs)),
  )

  -- ---- what it is beside stays

  -- a record of another kind, if there is one, is still found
  pub still_found : (k : ℕ) (rs : List Record) → k < kind → IsSome (record_of k rs) → IsSome (record_of k (with_kind kind (Some after) rs))
  still_found k rs less some = behind rs (after ∷ above kind rs) some
    where
      behind : (rs others : List Record) → IsSome (record_of k rs) → IsSome (record_of k (below kind rs ++ others))
      behind [] others some = absurd (true≢false (sym some))
      behind (r ∷ rs) others some = ⊎_elim
          (λ is.
          let lower = lt-ltb (kind_of r) kind (omega (arith, eqb-true (kind_of r) k is, less)) in
          subst (λ o. IsSome o) (sym (ap (λ (xs : List Record). record_of k (xs ++ others)) (filter_true (λ r. nat_lt (kind_of r) kind) r rs lower) ∙ kind_true k r (below kind rs ++ others) is)) refl)
          (λ is.
          let later = behind rs others (subst (λ o. IsSome o) (kind_false k r rs is) some) in
          ⊎_elim
          (λ lower. subst (λ o. IsSome o) (sym (ap (λ (xs : List Record). record_of k (xs ++ others)) (filter_true (λ r. nat_lt (kind_of r) kind) r rs lower) ∙ kind_false k r (below kind rs ++ others) is)) later)
          (λ lower. subst (λ (xs : List Record). IsSome (record_of k (xs ++ others))) (sym (filter_false (λ r. nat_lt (kind_of r) kind) r rs lower)) later)
          (cases_Bool (nat_lt (kind_of r) kind)))
          (cases_Bool (nat_eq (kind_of r) k))

  other_true : (r : Record) (rs : List Record) → has_rows r ≡ false → other_records (r ∷ rs) ≡ r ∷ other_records rs
  other_true r rs rows = filter_true (λ r. not (has_rows r)) r rs (ap not rows)

  other_false : (r : Record) (rs : List Record) → has_rows r ≡ true → other_records (r ∷ rs) ≡ other_records rs
  other_false r rs rows = filter_false (λ r. not (has_rows r)) r rs (ap not rows)

  -- after a record of a greater kind all are of greater kinds
  all_above : (low : ℕ) (rs : List Record) → 2 ^ 32 * (kind + 1) ≤ low → AreRising low rs → AllByRecursion Allowed rs → (below kind rs ≡ []) × (above kind rs ≡ rs)
  all_above low [] high rising good = (refl, refl)
  all_above low (r ∷ rs) high rising good =
      let more : kind < kind_of r = omega (arith, high, rising.0, id_small r good.0) in
      let later = all_above (place_of r) rs (omega (arith, high, rising.0)) rising.1 good.1 in (
        filter_false (λ r. nat_lt (kind_of r) kind) r rs (⊎_elim (λ is. absurd (omega (arith, more, ltb-true (kind_of r) kind is))) (λ is. is) (cases_Bool (nat_lt (kind_of r) kind))) ∙ later.0,
        filter_true (λ r. nat_lt kind (kind_of r)) r rs (lt-ltb kind (kind_of r) more) ∙ ap (λ (xs : List Record). r ∷ xs) later.1,
      )

  parted_others : (low : ℕ) (rs : List Record) → AreRising low rs → AllByRecursion Allowed rs → other_records (below kind rs) ++ other_records (above kind rs) ≡ other_records rs
  parted_others low [] rising good = refl
  parted_others low (r ∷ rs) rising good =
      let later = parted_others (place_of r) rs rising.1 good.1 in
      ⊎_elim
      (λ less.
      let lt = ltb-true (kind_of r) kind less in
      let no_more = ⊎_elim (λ is. absurd (omega (arith, lt, ltb-true kind (kind_of r) is))) (λ is. is) (cases_Bool (nat_lt kind (kind_of r))) in
      ap (λ (xs : List Record). other_records xs ++ other_records (above kind (r ∷ rs))) (filter_true (λ r. nat_lt (kind_of r) kind) r rs less)
      ∙ ap (λ (xs : List Record). other_records (r ∷ below kind rs) ++ other_records xs) (filter_false (λ r. nat_lt kind (kind_of r)) r rs no_more)
      ∙ ⊎_elim
      (λ rows. ap (λ (xs : List Record). xs ++ other_records (above kind rs)) (other_false r (below kind rs) rows) ∙ later ∙ sym (other_false r rs rows))
      (λ rows. ap (λ (xs : List Record). xs ++ other_records (above kind rs)) (other_true r (below kind rs) rows) ∙ ap (λ (xs : List Record). r ∷ xs) later ∙ sym (other_true r rs rows))
      (cases_Bool (has_rows r)))
      (λ no_less.
      ap (λ (xs : List Record). other_records xs ++ other_records (above kind (r ∷ rs))) (filter_false (λ r. nat_lt (kind_of r) kind) r rs no_less)
      ∙ ⊎_elim
      (λ more.
      let gt = ltb-true kind (kind_of r) more in
      let all = all_above (place_of r) rs (omega (arith, gt)) rising.1 good.1 in
      ap (λ (xs : List Record). other_records xs ++ other_records (above kind (r ∷ rs))) all.0
      ∙ ap other_records (filter_true (λ r. nat_lt kind (kind_of r)) r rs more ∙ ap (λ (xs : List Record). r ∷ xs) all.1))
      (λ no_more.
      let is : kind_of r ≡ kind = equal r no_less no_more in
      ap (λ (xs : List Record). other_records (below kind rs) ++ other_records xs) (filter_false (λ r. nat_lt kind (kind_of r)) r rs no_more)
      ∙ later ∙ sym (other_false r rs (same_rows r value is ∙ value_rows)))
      (cases_Bool (nat_lt kind (kind_of r))))
      (cases_Bool (nat_lt (kind_of r) kind))
    where
      equal : (r : Record) → nat_lt (kind_of r) kind ≡ false → nat_lt kind (kind_of r) ≡ false → kind_of r ≡ kind
      equal r no_less no_more =
          ⊎_elim (λ less. absurd (both_ways (nat_lt (kind_of r) kind) no_less (lt-ltb (kind_of r) kind less)))
          (λ ge. ⊎_elim (λ more. absurd (both_ways (nat_lt kind (kind_of r)) no_more (lt-ltb kind (kind_of r) more)))
          (λ le. omega (arith, ge, le)) (cases_lt kind (kind_of r)))
          (cases_lt (kind_of r) kind)

  pub others_same : (rs : List Record) → AreRecords rs → other_records (with_kind kind (Some after) rs) ≡ other_records rs
  others_same rs good =
      filter-append (λ r. not (has_rows r)) (below kind rs) (after ∷ above kind rs)
      ∙ ap (λ (xs : List Record). other_records (below kind rs) ++ xs) (other_false after (above kind rs) after_rows)
      ∙ parted_others 0 rs good.rising good.allowed
