-- The first cell of a file has room for each record that it may have, once.
use Rattle.std.proofs.Common.{◌≡◌, ℕ, ◌+◌, ◌*◌, ◌^◌, ◌<◌, ◌≤◌, Bool, true, cond, nat_eq, nat_lt, List, [], ◌∷◌, ◌++◌, length, Option, Some, None, IfSome, refl, sym, ap, subst, arith, length-append, ⊎_elim}
use Rattle.std.proofs.lemmas.Bool.{eqb-true, lt-ltb, or_cases, true≢false}
use Rattle.std.specs.List.{AllByRecursion, list_any}
use Rattle.std.specs.Option.{option_to_list}
use Rattle.file_chains.specs.cell_records.declared.record.Record.{Record}
use Rattle.file_chains.specs.cell_records.declared.record.Record.TheVariants.{Attributes, CloneFile, Extents, ShortExtents, Holes, Pending, UserQuota, GroupQuota, DirIndex, Parent, Stripe, Volume, DenseExtents, ShortDense}
use Rattle.file_chains.specs.cell_records.Records.{Allowed, kind_of, spelling}
use Rattle.file_chains.specs.cell_records.Layouts.{size_of}
use Rattle.file_chains.proofs.OfCellRecords.WholeRecord.{length-spelling}
use Rattle.file_chains.specs.metadata_cells.Cell.{AreRecords, AreRising, Cell, id_of, place_of, spellings}
use Rattle.file_chains.specs.metadata_cells.Chain.{StandsAt}
use Rattle.file_chains.specs.domain_base.declared.place.CellAt.{CellAt}
use Rattle.file_chains.specs.page_store.Pages.{Pages}
use Rattle.file_chains.specs.Changes.{HasRoom, above, below, with_kind}
use Rattle.file_chains.proofs.Replaced.{all_append, all_filter, records_replaced}
use Rattle.fileset_files.specs.Files.{is_first_kind}

-- the bytes of one record of each of these kinds above a kind
bytes_above : ℕ → ℕ
bytes_above low =
    cond (nat_lt low 1) 52 0 + (cond (nat_lt low 2) 20 0 + (cond (nat_lt low 4) 68 0 + (cond (nat_lt low 6) 12 0
    + (cond (nat_lt low 9) 20 0 + (cond (nat_lt low 10) 12 0 + (cond (nat_lt low 11) 16 0 + cond (nat_lt low 14) 52 0))))))

at_least : (low kind bytes : ℕ) → low < kind → cond (nat_lt low kind) bytes 0 ≡ bytes
at_least low kind bytes less = ap (λ (b : Bool). cond b bytes 0) (lt-ltb low kind less)

enough_1 : (low : ℕ) → low < 1 → 252 ≤ bytes_above low
unfolding bytes_above
enough_1 low less = omega (arith, at_least low 1 52 (omega (arith, less)), at_least low 2 20 (omega (arith, less)), at_least low 4 68 (omega (arith, less)), at_least low 6 12 (omega (arith, less)), at_least low 9 20 (omega (arith, less)), at_least low 10 12 (omega (arith, less)), at_least low 11 16 (omega (arith, less)), at_least low 14 52 (omega (arith, less)))

enough_2 : (low : ℕ) → low < 2 → 200 ≤ bytes_above low
unfolding bytes_above
enough_2 low less = omega (arith, at_least low 2 20 (omega (arith, less)), at_least low 4 68 (omega (arith, less)), at_least low 6 12 (omega (arith, less)), at_least low 9 20 (omega (arith, less)), at_least low 10 12 (omega (arith, less)), at_least low 11 16 (omega (arith, less)), at_least low 14 52 (omega (arith, less)))

enough_4 : (low : ℕ) → low < 4 → 180 ≤ bytes_above low
unfolding bytes_above
enough_4 low less = omega (arith, at_least low 4 68 (omega (arith, less)), at_least low 6 12 (omega (arith, less)), at_least low 9 20 (omega (arith, less)), at_least low 10 12 (omega (arith, less)), at_least low 11 16 (omega (arith, less)), at_least low 14 52 (omega (arith, less)))

enough_6 : (low : ℕ) → low < 6 → 112 ≤ bytes_above low
unfolding bytes_above
enough_6 low less = omega (arith, at_least low 6 12 (omega (arith, less)), at_least low 9 20 (omega (arith, less)), at_least low 10 12 (omega (arith, less)), at_least low 11 16 (omega (arith, less)), at_least low 14 52 (omega (arith, less)))

enough_9 : (low : ℕ) → low < 9 → 100 ≤ bytes_above low
unfolding bytes_above
enough_9 low less = omega (arith, at_least low 9 20 (omega (arith, less)), at_least low 10 12 (omega (arith, less)), at_least low 11 16 (omega (arith, less)), at_least low 14 52 (omega (arith, less)))

enough_10 : (low : ℕ) → low < 10 → 80 ≤ bytes_above low
unfolding bytes_above
enough_10 low less = omega (arith, at_least low 10 12 (omega (arith, less)), at_least low 11 16 (omega (arith, less)), at_least low 14 52 (omega (arith, less)))

enough_11 : (low : ℕ) → low < 11 → 68 ≤ bytes_above low
unfolding bytes_above
enough_11 low less = omega (arith, at_least low 11 16 (omega (arith, less)), at_least low 14 52 (omega (arith, less)))

enough_14 : (low : ℕ) → low < 14 → 52 ≤ bytes_above low
unfolding bytes_above
enough_14 low less = omega (arith, at_least low 14 52 (omega (arith, less)))

above_1 : bytes_above 0 ≡ 252
unfolding bytes_above
above_1 = refl

enough_at : (low kind : ℕ) → low < kind → is_first_kind kind ≡ true → size_of kind + bytes_above kind ≤ bytes_above low
unfolding bytes_above
enough_at low kind less first =
    ⊎_elim
    (λ is. at_kind 1 (eqb-true kind 1 is) (enough_1 low (subst (λ (n : ℕ). low < n) (eqb-true kind 1 is) less)))
    (λ later. ⊎_elim
    (λ is. at_kind 2 (eqb-true kind 2 is) (enough_2 low (subst (λ (n : ℕ). low < n) (eqb-true kind 2 is) less)))
    (λ later. ⊎_elim
    (λ is. at_kind 4 (eqb-true kind 4 is) (enough_4 low (subst (λ (n : ℕ). low < n) (eqb-true kind 4 is) less)))
    (λ later. ⊎_elim
    (λ is. at_kind 6 (eqb-true kind 6 is) (enough_6 low (subst (λ (n : ℕ). low < n) (eqb-true kind 6 is) less)))
    (λ later. ⊎_elim
    (λ is. at_kind 9 (eqb-true kind 9 is) (enough_9 low (subst (λ (n : ℕ). low < n) (eqb-true kind 9 is) less)))
    (λ later. ⊎_elim
    (λ is. at_kind 10 (eqb-true kind 10 is) (enough_10 low (subst (λ (n : ℕ). low < n) (eqb-true kind 10 is) less)))
    (λ later. ⊎_elim
    (λ is. at_kind 11 (eqb-true kind 11 is) (enough_11 low (subst (λ (n : ℕ). low < n) (eqb-true kind 11 is) less)))
    (λ later. ⊎_elim
    (λ is. at_kind 14 (eqb-true kind 14 is) (enough_14 low (subst (λ (n : ℕ). low < n) (eqb-true kind 14 is) less)))
    (λ none. absurd (true≢false (sym none)))
    (or_cases (nat_eq kind 14) (list_any (nat_eq kind) ([])) later))
    (or_cases (nat_eq kind 11) (list_any (nat_eq kind) (14 ∷ [])) later))
    (or_cases (nat_eq kind 10) (list_any (nat_eq kind) (11 ∷ 14 ∷ [])) later))
    (or_cases (nat_eq kind 9) (list_any (nat_eq kind) (10 ∷ 11 ∷ 14 ∷ [])) later))
    (or_cases (nat_eq kind 6) (list_any (nat_eq kind) (9 ∷ 10 ∷ 11 ∷ 14 ∷ [])) later))
    (or_cases (nat_eq kind 4) (list_any (nat_eq kind) (6 ∷ 9 ∷ 10 ∷ 11 ∷ 14 ∷ [])) later))
    (or_cases (nat_eq kind 2) (list_any (nat_eq kind) (4 ∷ 6 ∷ 9 ∷ 10 ∷ 11 ∷ 14 ∷ [])) later))
    (or_cases (nat_eq kind 1) (list_any (nat_eq kind) (2 ∷ 4 ∷ 6 ∷ 9 ∷ 10 ∷ 11 ∷ 14 ∷ [])) first)
  where
    at_kind : (k : ℕ) → kind ≡ k → size_of k + bytes_above k ≤ bytes_above low → size_of kind + bytes_above kind ≤ bytes_above low
    at_kind k is fits = subst (λ (n : ℕ). size_of n + bytes_above n ≤ bytes_above low) (sym is) fits

-- a record of such a kind has no id
no_id : (r : Record) → is_first_kind (kind_of r) ≡ true → id_of r ≡ 0
no_id (Attributes kind uid gid flags size keep links birth unsynced) is = refl
no_id (CloneFile vol cell page frozen) is = refl
no_id (Extents rows) is = refl
no_id (ShortExtents rows) is = refl
no_id (Holes rows) is = refl
no_id (Pending what) is = refl
no_id (UserQuota id files blocks) is = absurd (true≢false (sym is))
no_id (GroupQuota id files blocks) is = absurd (true≢false (sym is))
no_id (DirIndex vol page entries) is = refl
no_id (Parent slot seq) is = refl
no_id (Stripe width mark vols) is = refl
no_id (Volume vol pages bitmap_pages) is = refl
no_id (DenseExtents rows) is = refl
no_id (ShortDense rows) is = refl

fits_from : (low : ℕ) (rs : List Record) → AreRising (2 ^ 32 * low) rs → AllByRecursion Allowed rs → AllByRecursion (λ r. is_first_kind (kind_of r) ≡ true) rs → length (spellings rs) ≤ bytes_above low
fits_from low [] rising allowed first = omega arith
fits_from low (r ∷ rs) rising allowed first =
    let id = no_id r first.0 in
    let place : place_of r ≡ 2 ^ 32 * kind_of r = omega (arith, id) in
    let above : low < kind_of r = omega (arith, rising.0, place) in
    omega (
      arith,
      length-append (spelling r) (spellings rs),
      length-spelling r allowed.0,
      enough_at low (kind_of r) above first.0,
      fits_from (kind_of r) rs (subst (λ (p : ℕ). AreRising p rs) place rising.1) allowed.1 first.1,
    )

-- the first cell's records take at most 252 bytes
pub first_fits : (rs : List Record) → AreRecords rs → AllByRecursion (λ r. is_first_kind (kind_of r) ≡ true) rs → length (spellings rs) ≤ 272
first_fits rs good first = omega (arith, fits_from 0 rs good.rising good.allowed first, above_1)

-- a record of such a kind in place of those of its kind
pub kinds_replaced : (kind : ℕ) (value : Option Record) (rs : List Record) → AllByRecursion (λ r. is_first_kind (kind_of r) ≡ true) rs → IfSome value (λ r. is_first_kind (kind_of r) ≡ true)
    → AllByRecursion (λ r. is_first_kind (kind_of r) ≡ true) (with_kind kind value rs)
kinds_replaced kind value rs all is =
    all_append (λ r. is_first_kind (kind_of r) ≡ true) (below kind rs) (option_to_list value ++ above kind rs)
    (all_filter (λ r. is_first_kind (kind_of r) ≡ true) (λ r. nat_lt (kind_of r) kind) rs all) (by_value value is)
  where
    by_value : (value : Option Record) → IfSome value (λ r. is_first_kind (kind_of r) ≡ true) → AllByRecursion (λ r. is_first_kind (kind_of r) ≡ true) (option_to_list value ++ above kind rs)
    by_value None is = all_filter (λ r. is_first_kind (kind_of r) ≡ true) (λ r. nat_lt kind (kind_of r)) rs all
    by_value (Some v) is = (is, all_filter (λ r. is_first_kind (kind_of r) ≡ true) (λ r. nat_lt kind (kind_of r)) rs all)

pub first_room : (pages : Pages) (at : CellAt) (cell : Cell) (value : Record) → StandsAt pages at cell → AllByRecursion (λ r. is_first_kind (kind_of r) ≡ true) cell.records → is_first_kind (kind_of value) ≡ true → Allowed value
    → HasRoom pages at (kind_of value) (Some value)
first_room pages at cell value stands all is allowed = record {
  cell = cell;
  stands = stands;
  fits = first_fits (with_kind (kind_of value) (Some value) cell.records) (records_replaced (kind_of value) (Some value) cell.records stands.is.well_formed allowed refl) (kinds_replaced (kind_of value) (Some value) cell.records all is);
}
