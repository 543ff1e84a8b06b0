-- The record of a cell that says where pages stand, found by its kind.
use Rattle.std.proofs.Common.{◌≡◌, ◌∙◌, ℕ, ◌<◌, Bool, true, false, cond, nat_eq, List, [], ◌∷◌, ◌++◌, length, get_or, Option, Some, None, is_some, refl, sym, ap, subst, arith, ⊎_elim, zero, suc}
use Rattle.std.proofs.lemmas.Bool.{both_ways, cases_Bool, eqb-true, eq-eqb, le-leb, or_cases, or_left, or_right, true≢false}
use Rattle.std.specs.List.{AllByRecursion, list_any}
use Rattle.free_cells.specs.cell_records.declared.record.Record.{Record}
use Rattle.free_cells.specs.cell_records.declared.record.Record.TheVariants.{Attributes, CloneFile, Extents, ShortExtents, Holes, Pending, UserQuota, GroupQuota, DirIndex, Parent, Stripe, Volume, DenseExtents, ShortDense}
use Rattle.free_cells.specs.cell_records.Records.{kind_of}
use Rattle.free_cells.specs.metadata_cells.Cell.{Cell, record_of}
use Rattle.extent_records.specs.extent_maps.declared.run.Run.{Run}
use Rattle.extent_records.specs.Rows.{AreOneMap, IsPlaced, NoPageTwice, runs_in, runs_of}
use Rattle.extent_records.specs.Writing.{IsMapRecord}
use Rattle.file_chains.specs.Files.{HasMap, has_rows, map_records}

abbrev pub map_kinds : List ℕ
map_kinds = 3 ∷ 4 ∷ 5 ∷ 13 ∷ 14 ∷ []

-- a record has rows if and only if its kind is one of five, and else says nothing
pub of_map_kind : (r : Record) → has_rows r ≡ true → list_any (nat_eq (kind_of r)) map_kinds ≡ true
of_map_kind (Attributes kind uid gid flags size keep links birth unsynced) has = absurd (true≢false (sym has))
of_map_kind (CloneFile vol cell page frozen) has = absurd (true≢false (sym has))
of_map_kind (Extents rows) has = refl
of_map_kind (ShortExtents rows) has = refl
of_map_kind (Holes rows) has = refl
of_map_kind (Pending what) has = absurd (true≢false (sym has))
of_map_kind (UserQuota id files blocks) has = absurd (true≢false (sym has))
of_map_kind (GroupQuota id files blocks) has = absurd (true≢false (sym has))
of_map_kind (DirIndex vol page entries) has = absurd (true≢false (sym has))
of_map_kind (Parent slot seq) has = absurd (true≢false (sym has))
of_map_kind (Stripe width mark vols) has = absurd (true≢false (sym has))
of_map_kind (Volume vol pages bitmap_pages) has = absurd (true≢false (sym has))
of_map_kind (DenseExtents rows) has = refl
of_map_kind (ShortDense rows) has = refl

pub has_map_kind : (r : Record) → list_any (nat_eq (kind_of r)) map_kinds ≡ true → has_rows r ≡ true
has_map_kind (Attributes kind uid gid flags size keep links birth unsynced) is = absurd (true≢false (sym is))
has_map_kind (CloneFile vol cell page frozen) is = absurd (true≢false (sym is))
has_map_kind (Extents rows) is = refl
has_map_kind (ShortExtents rows) is = refl
has_map_kind (Holes rows) is = refl
has_map_kind (Pending what) is = absurd (true≢false (sym is))
has_map_kind (UserQuota id files blocks) is = absurd (true≢false (sym is))
has_map_kind (GroupQuota id files blocks) is = absurd (true≢false (sym is))
has_map_kind (DirIndex vol page entries) is = absurd (true≢false (sym is))
has_map_kind (Parent slot seq) is = absurd (true≢false (sym is))
has_map_kind (Stripe width mark vols) is = absurd (true≢false (sym is))
has_map_kind (Volume vol pages bitmap_pages) is = absurd (true≢false (sym is))
has_map_kind (DenseExtents rows) is = refl
has_map_kind (ShortDense rows) is = refl

says_nothing : (r : Record) → has_rows r ≡ false → runs_in r ≡ []
says_nothing (Attributes kind uid gid flags size keep links birth unsynced) has = refl
says_nothing (CloneFile vol cell page frozen) has = refl
says_nothing (Extents rows) has = absurd (true≢false has)
says_nothing (ShortExtents rows) has = absurd (true≢false has)
says_nothing (Holes rows) has = absurd (true≢false has)
says_nothing (Pending what) has = refl
says_nothing (UserQuota id files blocks) has = refl
says_nothing (GroupQuota id files blocks) has = refl
says_nothing (DirIndex vol page entries) has = refl
says_nothing (Parent slot seq) has = refl
says_nothing (Stripe width mark vols) has = refl
says_nothing (Volume vol pages bitmap_pages) has = refl
says_nothing (DenseExtents rows) has = absurd (true≢false has)
says_nothing (ShortDense rows) has = absurd (true≢false has)

-- what a list of records with one more is, by what that one is
pub rows_true : (x : Record) (rs : List Record) → has_rows x ≡ true → map_records (x ∷ rs) ≡ x ∷ map_records rs
rows_true x rs is = ap (λ (b : Bool). cond b (x ∷ map_records rs) (map_records rs)) is

pub rows_false : (x : Record) (rs : List Record) → has_rows x ≡ false → map_records (x ∷ rs) ≡ map_records rs
rows_false x rs is = ap (λ (b : Bool). cond b (x ∷ map_records rs) (map_records rs)) is

pub kind_true : (kind : ℕ) (x : Record) (rs : List Record) → nat_eq (kind_of x) kind ≡ true → record_of kind (x ∷ rs) ≡ Some x
kind_true kind x rs is = ap (λ (b : Bool). cond b (Some x) (record_of kind rs)) is

pub kind_false : (kind : ℕ) (x : Record) (rs : List Record) → nat_eq (kind_of x) kind ≡ false → record_of kind (x ∷ rs) ≡ record_of kind rs
kind_false kind x rs is = ap (λ (b : Bool). cond b (Some x) (record_of kind rs)) is

pub some_is : (x y : Record) → Some x ≡ Some y → x ≡ y
some_is x y e = cc

none_is_some : (x : Record) → None ≡ Some x → ⊥
none_is_some x e = cc

-- what the records say is what those with rows say
pub runs_by_map : (records : List Record) → runs_of records ≡ runs_of (map_records records)
runs_by_map [] = refl
runs_by_map (r ∷ rs) = ⊎_elim
    (λ has. ap (λ (xs : List Run). runs_in r ++ xs) (runs_by_map rs) ∙ sym (ap runs_of (rows_true r rs has)))
    (λ none. ap (λ (xs : List Run). xs ++ runs_of rs) (says_nothing r none) ∙ runs_by_map rs ∙ sym (ap runs_of (rows_false r rs none)))
    (cases_Bool (has_rows r))

-- ---- a record of a kind

pub kind_found : (kind : ℕ) (rs : List Record) (r : Record) → record_of kind rs ≡ Some r → kind_of r ≡ kind
kind_found kind [] r is = absurd (none_is_some r is)
kind_found kind (x ∷ rs) r is = ⊎_elim
    (λ same. sym (ap kind_of (some_is x r (sym (kind_true kind x rs same) ∙ is))) ∙ eqb-true (kind_of x) kind same)
    (λ other. kind_found kind rs r (sym (kind_false kind x rs other) ∙ is))
    (cases_Bool (nat_eq (kind_of x) kind))

-- a record with rows that is found is among those with rows
found_among : (kind : ℕ) (rs : List Record) (r : Record) → record_of kind rs ≡ Some r → has_rows r ≡ true → map_records rs ≡ [] → ⊥
found_among kind [] r is has none = none_is_some r is
found_among kind (x ∷ rs) r is has none = ⊎_elim
    (λ rows. omega (arith, ap length (sym (rows_true x rs rows) ∙ none)))
    (λ rows. ⊎_elim
    (λ same. both_ways (has_rows x) rows (ap has_rows (some_is x r (sym (kind_true kind x rs same) ∙ is)) ∙ has))
    (λ other. found_among kind rs r (sym (kind_false kind x rs other) ∙ is) has (sym (rows_false x rs rows) ∙ none))
    (cases_Bool (nat_eq (kind_of x) kind)))
    (cases_Bool (has_rows x))

tail_of : List Record → List Record
tail_of [] = []
tail_of (z ∷ zs) = zs

pub head_same : (x y : Record) (xs : List Record) → x ∷ xs ≡ y ∷ [] → x ≡ y
head_same x y xs same = ap (λ rs. get_or rs 0 x) same

pub tail_same : (x y : Record) (xs : List Record) → x ∷ xs ≡ y ∷ [] → xs ≡ []
unfolding tail_of
tail_same x y xs same = ap tail_of same

-- the one record with rows is the one that is found
pub found_is : (kind : ℕ) (rs : List Record) (r value : Record) → record_of kind rs ≡ Some r → has_rows r ≡ true → map_records rs ≡ value ∷ [] → r ≡ value
found_is kind [] r value is has only = absurd (omega (arith, ap length only))
found_is kind (x ∷ rs) r value is has only = ⊎_elim
    (λ rows. let all : x ∷ map_records rs ≡ value ∷ [] = sym (rows_true x rs rows) ∙ only in
    ⊎_elim
    (λ same. sym (some_is x r (sym (kind_true kind x rs same) ∙ is)) ∙ head_same x value (map_records rs) all)
    (λ other. absurd (found_among kind rs r (sym (kind_false kind x rs other) ∙ is) has (tail_same x value (map_records rs) all)))
    (cases_Bool (nat_eq (kind_of x) kind)))
    (λ rows. ⊎_elim
    (λ same. absurd (both_ways (has_rows x) rows (ap has_rows (some_is x r (sym (kind_true kind x rs same) ∙ is)) ∙ has)))
    (λ other. found_is kind rs r value (sym (kind_false kind x rs other) ∙ is) has (sym (rows_false x rs rows) ∙ only))
    (cases_Bool (nat_eq (kind_of x) kind)))
    (cases_Bool (has_rows x))

-- and it is found by its kind
pub some_found : (rs : List Record) (value : Record) → map_records rs ≡ value ∷ [] → record_of (kind_of value) rs ≡ None → ⊥
some_found [] value only none = omega (arith, ap length only)
some_found (x ∷ rs) value only none = ⊎_elim
    (λ same. none_is_some x (sym none ∙ kind_true (kind_of value) x rs same))
    (λ other. ⊎_elim
    (λ rows. both_ways (nat_eq (kind_of x) (kind_of value)) other
    (eq-eqb (kind_of x) (kind_of value) (ap kind_of (head_same x value (map_records rs) (sym (rows_true x rs rows) ∙ only)))))
    (λ rows. some_found rs value (sym (rows_false x rs rows) ∙ only) (sym (kind_false (kind_of value) x rs other) ∙ none))
    (cases_Bool (has_rows x)))
    (cases_Bool (nat_eq (kind_of x) (kind_of value)))

pub value_has_rows : (value : Record) → IsMapRecord value → has_rows value ≡ true
value_has_rows value is_map = le-leb 1 _ is_map.has_rows

-- ---- looked for kind by kind

among : (xs : List ℕ) (k d : ℕ) → k < length xs → list_any (nat_eq (get_or xs k d)) xs ≡ true
among [] k d within = absurd (omega (arith, within))
among (x ∷ xs) zero d within = or_left (nat_eq x x) (list_any (nat_eq x) xs) (eq-eqb x x refl)
among (x ∷ xs) (suc k) d within = or_right (nat_eq (get_or xs k d) x) (list_any (nat_eq (get_or xs k d)) xs) (among xs k d (omega (arith, within)))

-- what was found under one of the kinds is the one record with rows
pub found_there : (k : ℕ) (cell : Cell) (value : Record) (o : Option Record) → k < 5 → o ≡ record_of (get_or map_kinds k 0) cell.records → is_some o ≡ true → HasMap cell value → o ≡ Some value
found_there k cell value None within is some has = absurd (true≢false (sym some))
found_there k cell value (Some r) within is some has =
    let kind : kind_of r ≡ get_or map_kinds k 0 = kind_found (get_or map_kinds k 0) cell.records r (sym is) in
    ap Some (found_is (get_or map_kinds k 0) cell.records r value (sym is)
    (has_map_kind r (subst (λ (n : ℕ). list_any (nat_eq n) map_kinds ≡ true) (sym kind) (among map_kinds k 0 within))) has.only)

-- under none of them nothing is found
pub none_there : (cell : Cell) (value : Record) → HasMap cell value → ((k : ℕ) → k < 5 → record_of (get_or map_kinds k 0) cell.records ≡ None) → ⊥
none_there cell value has none =
    let at = place_in map_kinds (kind_of value) (of_map_kind value (value_has_rows value has.is_map)) in
    some_found cell.records value has.only (ap (λ kind. record_of kind cell.records) (sym at.2) ∙ none at.0 at.1)
  where
    place_in : (xs : List ℕ) (n : ℕ) → list_any (nat_eq n) xs ≡ true → (k : ℕ) × (k < length xs) × (get_or xs k 0 ≡ n)
    place_in [] n any = absurd (true≢false (sym any))
    place_in (x ∷ xs) n any = ⊎_elim
        (λ here. (0, omega arith, sym (eqb-true n x here)))
        (λ later. let at = place_in xs n later in (suc at.0, omega (arith, at.1), at.2))
        (or_cases (nat_eq n x) (list_any (nat_eq n) xs) any)

pub none_is : (o : Option Record) → is_some o ≡ false → o ≡ None
none_is None is = refl
none_is (Some r) is = absurd (true≢false is)

pub one_map_record : (value : Record) → IsMapRecord value → map_records (value ∷ []) ≡ value ∷ []
one_map_record value is_map = rows_true value [] (value_has_rows value is_map)

-- records with rows say one map where all say one
pub one_map_of : (records : List Record) → AreOneMap records → AreOneMap (map_records records)
one_map_of records one = record {
  placed = subst (AllByRecursion IsPlaced) (runs_by_map records) one.placed;
  once = subst NoPageTwice (runs_by_map records) one.once;
}

pub one_map_back : (records : List Record) → AreOneMap (map_records records) → AreOneMap records
one_map_back records one = record {
  placed = subst (AllByRecursion IsPlaced) (sym (runs_by_map records)) one.placed;
  once = subst NoPageTwice (sym (runs_by_map records)) one.once;
}

-- a kind whose records have rows is greater than that of attributes
pub rows_kind : (r : Record) → has_rows r ≡ true → 1 < kind_of r
rows_kind (Attributes kind uid gid flags size keep links birth unsynced) has = absurd (true≢false (sym has))
rows_kind (CloneFile vol cell page frozen) has = absurd (true≢false (sym has))
rows_kind (Extents rows) has = omega arith
rows_kind (ShortExtents rows) has = omega arith
rows_kind (Holes rows) has = omega arith
rows_kind (Pending what) has = absurd (true≢false (sym has))
rows_kind (UserQuota id files blocks) has = absurd (true≢false (sym has))
rows_kind (GroupQuota id files blocks) has = absurd (true≢false (sym has))
rows_kind (DirIndex vol page entries) has = absurd (true≢false (sym has))
rows_kind (Parent slot seq) has = absurd (true≢false (sym has))
rows_kind (Stripe width mark vols) has = absurd (true≢false (sym has))
rows_kind (Volume vol pages bitmap_pages) has = absurd (true≢false (sym has))
rows_kind (DenseExtents rows) has = omega arith
rows_kind (ShortDense rows) has = omega arith
