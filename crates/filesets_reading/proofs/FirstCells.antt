-- If no rule of tables is broken, the first cell of a file has one record that says where pages
-- stand, and so has each cell after it.
use Rattle.std.proofs.Common.{◌≡◌, ◌∙◌, ◌⊎◌, inl, inr, ℕ, suc, ◌*◌, ◌^◌, ◌≤◌, Bool, true, false, cond, not, nat_eq, nat_le, ◌||◌, List, [], ◌∷◌, Some, None, is_some, Contains, refl, sym, ap, subst, arith, ⊎_elim}
use Rattle.std.proofs.lemmas.Bool.{and_parts, cases_Bool, eq-eqb, eqb-true, or_cases}
use Rattle.std.specs.List.{AllByRecursion, list_all}
use Rattle.domain_layout.specs.cell_records.Records.{kind_of}
use Rattle.domain_layout.specs.cell_records.declared.record.Record.{Record}
use Rattle.domain_layout.specs.cell_records.declared.record.Record.TheVariants as written
use Rattle.domain_layout.specs.metadata_cells.Cell.{AreRising, id_of, place_of, record_of}
use Rattle.domain_layout.specs.extent_records.Writing.{most_rows}
use Rattle.domain_layout.specs.file_chains.Files.{has_rows, map_records}
use Rattle.domain_layout.specs.fileset_files.Files.{is_first_kind}
use Rattle.domain_layout.specs.CellRules.{agree, has_kind, is_chain_records}

-- ---- kinds of records

-- a record of a first cell: one of extents, plain or dense, or one without rows
abbrev IsSorted : Record → Type 0
IsSorted r = (kind_of r ≡ 4) ⊎ (kind_of r ≡ 14) ⊎ ((has_rows r ≡ false) × (nat_eq (kind_of r) 4 ≡ false) × (nat_eq (kind_of r) 14 ≡ false))

no_kind : {P : Type 0} → false ≡ true → P
no_kind is = absurd (cc)

sorted : (r : Record) → is_first_kind (kind_of r) ≡ true → IsSorted r
sorted (written.Attributes kind uid gid flags size keep links birth unsynced) is = inr (inr (refl, refl, refl))
sorted (written.CloneFile vol cell page frozen) is = inr (inr (refl, refl, refl))
sorted (written.Extents rows) is = no_kind is
sorted (written.ShortExtents rows) is = inl refl
sorted (written.Holes rows) is = no_kind is
sorted (written.Pending what) is = inr (inr (refl, refl, refl))
sorted (written.UserQuota id files blocks) is = no_kind is
sorted (written.GroupQuota id files blocks) is = no_kind is
sorted (written.DirIndex vol page entries) is = inr (inr (refl, refl, refl))
sorted (written.Parent slot seq) is = inr (inr (refl, refl, refl))
sorted (written.Stripe width mark vols) is = inr (inr (refl, refl, refl))
sorted (written.Volume vol pages bitmap_pages) is = no_kind is
sorted (written.DenseExtents rows) is = no_kind is
sorted (written.ShortDense rows) is = inr (inl refl)

id_zero : (r : Record) → is_first_kind (kind_of r) ≡ true → id_of r ≡ 0
id_zero (written.UserQuota id files blocks) is = no_kind is
id_zero (written.GroupQuota id files blocks) is = no_kind is
id_zero _ is = refl

abbrev AllFirst : List Record → Type 0
AllFirst rs = AllByRecursion (λ (r : Record). is_first_kind (kind_of r) ≡ true) rs

pub all_first : (rs : List Record) → list_all (λ r. is_first_kind (kind_of r)) rs ≡ true → AllFirst rs
all_first [] is = tt
all_first (r ∷ rs) is = let both = and_parts (is_first_kind (kind_of r)) (list_all (λ r. is_first_kind (kind_of r)) rs) is in (both.0, all_first rs both.1)

-- ---- records rise, so each kind stands once

none_above : (k place : ℕ) (rs : List Record) → AreRising place rs → 2 ^ 32 * k ≤ place → AllFirst rs → record_of k rs ≡ None
none_above k place [] rise low all = refl
none_above k place (r ∷ rs) rise low all =
    ap (λ b. cond b (Some r) (record_of k rs)) other ∙ none_above k (place_of r) rs rise.1 (omega (arith, low, rise.0)) all.1
  where
    other : nat_eq (kind_of r) k ≡ false
    other = ⊎_elim (λ same. absurd (let e : kind_of r ≡ k = eqb-true (kind_of r) k same in omega (arith, low, rise.0, e, id_zero r all.0))) (λ is. is) (cases_Bool (nat_eq (kind_of r) k))

maps_none : (rs : List Record) → AllFirst rs → has_kind 4 rs ≡ false → has_kind 14 rs ≡ false → map_records rs ≡ []
maps_none [] all no_plain no_dense = refl
maps_none (r ∷ rs) all no_plain no_dense = ⊎_elim plain (λ more. ⊎_elim dense (other (maps_none rs all.1)) more) (sorted r all.0)
  where
    plain : kind_of r ≡ 4 → map_records (r ∷ rs) ≡ []
    plain is = absurd (let e : true ≡ false = sym (ap (λ b. is_some (cond b (Some r) (record_of 4 rs))) (eq-eqb (kind_of r) 4 is)) ∙ no_plain in absurd (cc))

    dense : kind_of r ≡ 14 → map_records (r ∷ rs) ≡ []
    dense is = absurd (let e : true ≡ false = sym (ap (λ b. is_some (cond b (Some r) (record_of 14 rs))) (eq-eqb (kind_of r) 14 is)) ∙ no_dense in absurd (cc))

    other : (has_kind 4 rs ≡ false → has_kind 14 rs ≡ false → map_records rs ≡ []) → (has_rows r ≡ false) × (nat_eq (kind_of r) 4 ≡ false) × (nat_eq (kind_of r) 14 ≡ false) → map_records (r ∷ rs) ≡ []
    other later (rowless, apart, also) =
        ap (λ b. cond b (r ∷ map_records rs) (map_records rs)) rowless
        ∙ later (sym (ap (λ b. is_some (cond b (Some r) (record_of 4 rs))) apart) ∙ no_plain) (sym (ap (λ b. is_some (cond b (Some r) (record_of 14 rs))) also) ∙ no_dense)

not_true : (b : Bool) → not (agree true b) ≡ true → b ≡ false
not_true true is = no_kind is
not_true false is = refl

not_agreed : (b : Bool) → not (agree b true) ≡ true → b ≡ false
not_agreed true is = no_kind is
not_agreed false is = refl

-- the one record of a cell that says where pages stand
pub record OneRecord (rs : List Record) : Type 0 where
  pub value : Record
  pub only : map_records rs ≡ value ∷ []
  pub among : Contains rs value
  pub rows : 1 ≤ most_rows (kind_of value)

rows_of : (k n : ℕ) → k ≡ n → 1 ≤ most_rows n → 1 ≤ most_rows k
rows_of k n same is = subst (λ m. 1 ≤ most_rows m) (sym same) is

later_in : (r : Record) (rs : List Record) (value : Record) → Contains rs value → Contains (r ∷ rs) value
later_in r rs value (k, within, is) = (suc k, omega (arith, within), is)

pub one_record : (place : ℕ) (rs : List Record) → AreRising place rs → AllFirst rs → not (agree (has_kind 4 rs) (has_kind 14 rs)) ≡ true → OneRecord rs
one_record place [] rise all one = no_kind one
one_record place (r ∷ rs) rise all one = ⊎_elim plain (λ more. ⊎_elim dense (other (one_record (place_of r) rs rise.1 all.1)) more) (sorted r all.0)
  where
    has_its_rows : (n : ℕ) → kind_of r ≡ n → nat_le 1 (most_rows n) ≡ true → has_rows r ≡ true
    has_its_rows n same is = ap (λ k. nat_le 1 (most_rows k)) same ∙ is

    alone : map_records rs ≡ [] → has_rows r ≡ true → map_records (r ∷ rs) ≡ r ∷ []
    alone none has = ap (λ b. cond b (r ∷ map_records rs) (map_records rs)) has ∙ ap (λ xs. r ∷ xs) none

    plain : kind_of r ≡ 4 → OneRecord (r ∷ rs)
    plain is =
        let here : has_kind 4 (r ∷ rs) ≡ true = ap (λ b. is_some (cond b (Some r) (record_of 4 rs))) (eq-eqb (kind_of r) 4 is) in
        let skipped : has_kind 14 (r ∷ rs) ≡ has_kind 14 rs = ap (λ k. is_some (cond (nat_eq k 14) (Some r) (record_of 14 rs))) is in
        let no_dense : has_kind 14 rs ≡ false = not_true (has_kind 14 rs) (sym (λ i. not (agree (here i) (skipped i))) ∙ one) in
        let no_plain : has_kind 4 rs ≡ false = ap is_some (none_above 4 (place_of r) rs rise.1 (omega (arith, is)) all.1) in
        record {
          value = r;
          only = alone (maps_none rs all.1 no_plain no_dense) (has_its_rows 4 is refl);
          among = (0, omega arith, refl);
          rows = rows_of (kind_of r) 4 is (omega arith);
        }

    dense : kind_of r ≡ 14 → OneRecord (r ∷ rs)
    dense is =
        let here : has_kind 14 (r ∷ rs) ≡ true = ap (λ b. is_some (cond b (Some r) (record_of 14 rs))) (eq-eqb (kind_of r) 14 is) in
        let skipped : has_kind 4 (r ∷ rs) ≡ has_kind 4 rs = ap (λ k. is_some (cond (nat_eq k 4) (Some r) (record_of 4 rs))) is in
        let no_plain : has_kind 4 rs ≡ false = not_agreed (has_kind 4 rs) (sym (λ i. not (agree (skipped i) (here i))) ∙ one) in
        let no_dense : has_kind 14 rs ≡ false = ap is_some (none_above 14 (place_of r) rs rise.1 (omega (arith, is)) all.1) in
        record {
          value = r;
          only = alone (maps_none rs all.1 no_plain no_dense) (has_its_rows 14 is refl);
          among = (0, omega arith, refl);
          rows = rows_of (kind_of r) 14 is (omega arith);
        }

    other : (not (agree (has_kind 4 rs) (has_kind 14 rs)) ≡ true → OneRecord rs) → (has_rows r ≡ false) × (nat_eq (kind_of r) 4 ≡ false) × (nat_eq (kind_of r) 14 ≡ false) → OneRecord (r ∷ rs)
    other later (rowless, apart, also) =
        let skipped : has_kind 4 (r ∷ rs) ≡ has_kind 4 rs = ap (λ b. is_some (cond b (Some r) (record_of 4 rs))) apart in
        let passed : has_kind 14 (r ∷ rs) ≡ has_kind 14 rs = ap (λ b. is_some (cond b (Some r) (record_of 14 rs))) also in
        let more = later (sym (λ i. not (agree (skipped i) (passed i))) ∙ one) in
        record {
          value = more.value;
          only = ap (λ b. cond b (r ∷ map_records rs) (map_records rs)) rowless ∙ more.only;
          among = later_in r rs more.value more.among;
          rows = more.rows;
        }

-- ---- chain cells

pub record ChainRecord (rs : List Record) : Type 0 where
  pub value : Record
  pub only : rs ≡ value ∷ []
  pub rows : 1 ≤ most_rows (kind_of value)

pub chain_record : (rs : List Record) → is_chain_records rs ≡ true → ChainRecord rs
chain_record [] is = no_kind is
chain_record (r ∷ []) is = record { value = r; only = refl; rows = by_kind }
  where
    by_kind : 1 ≤ most_rows (kind_of r)
    by_kind =
        ⊎_elim (λ front. ⊎_elim (λ three. rows_of (kind_of r) 3 (eqb-true (kind_of r) 3 three) (omega arith))
        (λ five. rows_of (kind_of r) 5 (eqb-true (kind_of r) 5 five) (omega arith)) (or_cases (nat_eq (kind_of r) 3) (nat_eq (kind_of r) 5) front))
        (λ last. rows_of (kind_of r) 13 (eqb-true (kind_of r) 13 last) (omega arith))
        (or_cases (nat_eq (kind_of r) 3 || nat_eq (kind_of r) 5) (nat_eq (kind_of r) 13) is)
chain_record (r ∷ s ∷ rs) is = no_kind is
