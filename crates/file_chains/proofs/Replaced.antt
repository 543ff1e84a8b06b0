-- Records of a cell with one in place of another: a cell may have them.
use Rattle.std.proofs.Common.{◌≡◌, ℕ, ◌+◌, ◌-◌, ◌*◌, ◌^◌, ◌<◌, ◌≤◌, Bool, true, false, cond, nat_lt, List, [], ◌∷◌, ◌++◌, filter, length, Option, Some, None, IfSome, sym, ap, subst, arith, length-append, ⊎_elim}
use Rattle.std.proofs.lemmas.Bool.{cases_Bool, ltb-true}
use Rattle.std.specs.List.{AllByRecursion}
use Rattle.std.specs.Option.{option_to_list}
use Rattle.free_cells.specs.cell_records.declared.record.Record.{Record}
use Rattle.free_cells.specs.cell_records.declared.record.Record.TheVariants.{Attributes, CloneFile, Extents, ShortExtents, Holes, Pending, UserQuota, GroupQuota, DirIndex, Parent, Stripe, Volume, DenseExtents, ShortDense}
use Rattle.free_cells.specs.cell_records.Records.{Allowed, kind_of, spelling}
use Rattle.free_cells.proofs.OfCellRecords.EachKind.{is_kind}
use Rattle.free_cells.specs.domain_base.declared.place.CellAt.{CellAt}
use Rattle.free_cells.specs.page_store.Pages.{Pages}
use Rattle.free_cells.specs.metadata_cells.Cell.{AreRecords, AreRising, id_of, place_of, spellings}
use Rattle.free_cells.proofs.OfMetadataCells.Spellings.{spellings-append}
use Rattle.file_chains.specs.Changes.{HasRoom, IsInUse, above, below, with_kind}

pub id_small : (r : Record) → Allowed r → id_of r < 2 ^ 32
unfolding Allowed
id_small (Attributes kind uid gid flags size keep links birth unsynced) allowed = omega arith
id_small (CloneFile vol cell page frozen) allowed = omega arith
id_small (Extents rows) allowed = omega arith
id_small (ShortExtents rows) allowed = omega arith
id_small (Holes rows) allowed = omega arith
id_small (Pending what) allowed = omega arith
id_small (UserQuota id files blocks) allowed = allowed.0
id_small (GroupQuota id files blocks) allowed = allowed.0
id_small (DirIndex vol page entries) allowed = omega arith
id_small (Parent slot seq) allowed = omega arith
id_small (Stripe width mark vols) allowed = omega arith
id_small (Volume vol pages bitmap_pages) allowed = omega arith
id_small (DenseExtents rows) allowed = omega arith
id_small (ShortDense rows) allowed = omega arith

-- ---- what passes a test

pub filter_true : (p : Record → Bool) (r : Record) (rs : List Record) → p r ≡ true → filter p (r ∷ rs) ≡ r ∷ filter p rs
filter_true p r rs is = ap (λ (b : Bool). cond b (r ∷ filter p rs) (filter p rs)) is

pub filter_false : (p : Record → Bool) (r : Record) (rs : List Record) → p r ≡ false → filter p (r ∷ rs) ≡ filter p rs
filter_false p r rs is = ap (λ (b : Bool). cond b (r ∷ filter p rs) (filter p rs)) is

pub all_filter : (P : Record → Type 0) (p : Record → Bool) (rs : List Record) → AllByRecursion P rs → AllByRecursion P (filter p rs)
all_filter P p [] all = tt
all_filter P p (r ∷ rs) all = ⊎_elim
    (λ is. subst (AllByRecursion P) (sym (filter_true p r rs is)) (all.0, all_filter P p rs all.1))
    (λ is. subst (AllByRecursion P) (sym (filter_false p r rs is)) (all_filter P p rs all.1))
    (cases_Bool (p r))

-- what passes has what follows from that
all_passed : (P : Record → Type 0) (p : Record → Bool) (rs : List Record) → ((r : Record) → p r ≡ true → Allowed r → P r) → AllByRecursion Allowed rs → AllByRecursion P (filter p rs)
all_passed P p [] has all = tt
all_passed P p (r ∷ rs) has all = ⊎_elim
    (λ is. subst (AllByRecursion P) (sym (filter_true p r rs is)) (has r is all.0, all_passed P p rs has all.1))
    (λ is. subst (AllByRecursion P) (sym (filter_false p r rs is)) (all_passed P p rs has all.1))
    (cases_Bool (p r))

-- ---- order

rising_lower : (low lower : ℕ) (rs : List Record) → lower ≤ low → AreRising low rs → AreRising lower rs
rising_lower low lower [] le rising = tt
rising_lower low lower (r ∷ rs) le rising = (omega (arith, le, rising.0), rising.1)

rising_filter : (low : ℕ) (p : Record → Bool) (rs : List Record) → AreRising low rs → AreRising low (filter p rs)
rising_filter low p [] rising = tt
rising_filter low p (r ∷ rs) rising = ⊎_elim
    (λ is. subst (AreRising low) (sym (filter_true p r rs is)) (rising.0, rising_filter (place_of r) p rs rising.1))
    (λ is. subst (AreRising low) (sym (filter_false p r rs is)) (rising_lower (place_of r) low (filter p rs) (omega (arith, rising.0)) (rising_filter (place_of r) p rs rising.1)))
    (cases_Bool (p r))

rising_higher : (low high : ℕ) (rs : List Record) → AllByRecursion (λ (r : Record). high < place_of r) rs → AreRising low rs → AreRising high rs
rising_higher low high [] all rising = tt
rising_higher low high (r ∷ rs) all rising = (all.0, rising.1)

rising_append : (low high : ℕ) (xs ys : List Record) → low ≤ high → AreRising low xs → AllByRecursion (λ (r : Record). place_of r ≤ high) xs → AreRising high ys → AreRising low (xs ++ ys)
rising_append low high [] ys le rising all more = rising_lower high low ys le more
rising_append low high (x ∷ xs) ys le rising all more = (rising.0, rising_append (place_of x) high xs ys all.0 rising.1 all.1 more)

pub all_append : (P : Record → Type 0) (xs ys : List Record) → AllByRecursion P xs → AllByRecursion P ys → AllByRecursion P (xs ++ ys)
all_append P [] ys all more = more
all_append P (x ∷ xs) ys all more = (all.0, all_append P xs ys all.1 more)

pub records_replaced : (kind : ℕ) (value : Option Record) (rs : List Record) → AreRecords rs → IfSome value Allowed → IfSome value (λ r. kind_of r ≡ kind) → AreRecords (with_kind kind value rs)
records_replaced kind value rs good allowed of_kind = record {
  allowed = all_append Allowed (below kind rs) (option_to_list value ++ above kind rs) (all_filter Allowed (λ r. nat_lt (kind_of r) kind) rs good.allowed) (middle value allowed);
  rising = rising_append 0 (2 ^ 32 * kind - 1) (below kind rs) (option_to_list value ++ above kind rs) (omega arith) (rising_filter 0 (λ r. nat_lt (kind_of r) kind) rs good.rising)
      (all_passed (λ r. place_of r ≤ 2 ^ 32 * kind - 1) (λ r. nat_lt (kind_of r) kind) rs below_place good.allowed)
      (from value allowed of_kind);
}
  where
    middle : (value : Option Record) → IfSome value Allowed → AllByRecursion Allowed (option_to_list value ++ above kind rs)
    middle None allowed = all_filter Allowed (λ r. nat_lt kind (kind_of r)) rs good.allowed
    middle (Some v) allowed = (allowed, all_filter Allowed (λ r. nat_lt kind (kind_of r)) rs good.allowed)

    below_place : (r : Record) → nat_lt (kind_of r) kind ≡ true → Allowed r → place_of r ≤ 2 ^ 32 * kind - 1
    below_place r is allowed = omega (arith, ltb-true (kind_of r) kind is, id_small r allowed)

    above_place : (r : Record) → nat_lt kind (kind_of r) ≡ true → Allowed r → 2 ^ 32 * kind + (2 ^ 32 - 1) < place_of r
    above_place r is allowed = omega (arith, ltb-true kind (kind_of r) is)

    behind : AreRising (2 ^ 32 * kind + (2 ^ 32 - 1)) (above kind rs)
    behind = rising_higher 0 (2 ^ 32 * kind + (2 ^ 32 - 1)) (above kind rs)
        (all_passed (λ r. 2 ^ 32 * kind + (2 ^ 32 - 1) < place_of r) (λ r. nat_lt kind (kind_of r)) rs above_place good.allowed)
        (rising_filter 0 (λ r. nat_lt kind (kind_of r)) rs good.rising)

    from : (value : Option Record) → IfSome value Allowed → IfSome value (λ r. kind_of r ≡ kind) → AreRising (2 ^ 32 * kind - 1) (option_to_list value ++ above kind rs)
    from None allowed of_kind = rising_lower (2 ^ 32 * kind + (2 ^ 32 - 1)) (2 ^ 32 * kind - 1) (above kind rs) (omega arith) behind
    from (Some v) allowed of_kind =
        let h = is_kind v in
        let least : 1 ≤ kind_of v = h.0 in
        (omega (arith, of_kind, least), rising_lower (2 ^ 32 * kind + (2 ^ 32 - 1)) (place_of v) (above kind rs) (omega (arith, of_kind, id_small v allowed)) behind)

-- ---- records without those of a kind take no more bytes

pub parted : (kind : ℕ) (rs : List Record) → length (spellings (below kind rs)) + length (spellings (above kind rs)) ≤ length (spellings rs)
parted kind [] = omega arith
parted kind (r ∷ rs) =
    let before = parted kind rs in
    let all = length-append (spelling r) (spellings rs) in
    ⊎_elim
    (λ less. ⊎_elim
    (λ more. absurd (omega (arith, ltb-true (kind_of r) kind less, ltb-true kind (kind_of r) more)))
    (λ no_more. omega (
      arith,
      before,
      all,
      ap (λ xs. length (spellings xs)) (filter_true (λ r. nat_lt (kind_of r) kind) r rs less),
      length-append (spelling r) (spellings (below kind rs)),
      ap (λ xs. length (spellings xs)) (filter_false (λ r. nat_lt kind (kind_of r)) r rs no_more),
    ))
    (cases_Bool (nat_lt kind (kind_of r))))
    (λ no_less. ⊎_elim
    (λ more. omega (
      arith,
      before,
      all,
      ap (λ xs. length (spellings xs)) (filter_true (λ r. nat_lt kind (kind_of r)) r rs more),
      length-append (spelling r) (spellings (above kind rs)),
      ap (λ xs. length (spellings xs)) (filter_false (λ r. nat_lt (kind_of r) kind) r rs no_less),
    ))
    (λ no_more. omega (
      arith,
      before,
      all,
      ap (λ xs. length (spellings xs)) (filter_false (λ r. nat_lt kind (kind_of r)) r rs no_more),
      ap (λ xs. length (spellings xs)) (filter_false (λ r. nat_lt (kind_of r) kind) r rs no_less),
    ))
    (cases_Bool (nat_lt kind (kind_of r))))
    (cases_Bool (nat_lt (kind_of r) kind))

pub without_fits : (pages : Pages) (at : CellAt) (kind : ℕ) → IsInUse pages at → HasRoom pages at kind None
without_fits pages at kind used = record {
  cell = used.0;
  stands = used.1;
  fits = omega (
    arith,
    used.1.is.head.fits,
    parted kind used.0.records,
    ap length (spellings-append (below kind used.0.records) (above kind used.0.records)),
    length-append (spellings (below kind used.0.records)) (spellings (above kind used.0.records)),
  );
}
