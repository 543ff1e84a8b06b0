-- A record in place of another of its kind: the cell has room for it.
use Rattle.std.proofs.Common.{◌≡◌, ◌∙◌, ℕ, ◌+◌, ◌^◌, ◌<◌, ◌≤◌, Bool, true, false, cond, nat_eq, nat_lt, List, [], ◌∷◌, length, Some, None, refl, sym, ap, subst, arith, length-append, ⊎_elim}
use Rattle.std.proofs.lemmas.Bool.{cases_Bool, eqb-true, false_from_ne_true, ltb-true}
use Rattle.std.specs.List.{AllByRecursion}
use Rattle.file_chains.specs.domain_base.declared.place.CellAt.{CellAt}
use Rattle.file_chains.specs.page_store.Pages.{Pages}
use Rattle.file_chains.specs.cell_records.declared.record.Record.{Record}
use Rattle.file_chains.specs.cell_records.declared.record.Record.TheVariants as written
use Rattle.file_chains.specs.cell_records.Records.{Allowed, kind_of, spelling}
use Rattle.file_chains.specs.cell_records.Layouts.{size_of}
use Rattle.file_chains.proofs.OfCellRecords.WholeRecord.{length-spelling}
use Rattle.file_chains.specs.metadata_cells.Cell.{Cell, record_of, spellings}
use Rattle.file_chains.specs.metadata_cells.Chain.{StandsAt}
use Rattle.file_chains.proofs.OfMetadataCells.Spellings.{spellings-append}
use Rattle.file_chains.specs.Changes.{HasRoom, above, below}
use Rattle.file_chains.proofs.MapRecords.{kind_found, some_is}
use Rattle.file_chains.proofs.Replaced.{filter_false, filter_true, parted}
use Rattle.fileset_files.specs.declared.attributes.Attributes.{Attributes}
use Rattle.file_chains.specs.domain_base.declared.place.Kind.{Kind}
use Rattle.file_chains.specs.domain_base.declared.place.Kind.TheVariants.{Directory, File}
use Rattle.fileset_files.specs.Changes.{kind_number, with_attributes}

none_is_some : (x : Record) → None ≡ Some x → ⊥
none_is_some x e = cc

size : List Record → ℕ
size rs = length (spellings rs)

-- the records of smaller and greater kinds and the first of this kind take no more bytes than all
parted_with : (kind : ℕ) (rs : List Record) (r : Record) → record_of kind rs ≡ Some r → length (spellings (below kind rs)) + length (spellings (above kind rs)) + length (spelling r) ≤ length (spellings rs)
parted_with kind [] r is = absurd (none_is_some r is)
parted_with kind (x ∷ rs) r is = ⊎_elim
    (λ same.
    let this : kind_of x ≡ kind = eqb-true (kind_of x) kind same in
    let found = some_is x r (sym (ap (λ (b : Bool). cond b (Some x) (record_of kind rs)) same) ∙ is) in
    omega (
      arith,
      parted kind rs,
      length-append (spelling x) (spellings rs),
      ap (λ r. length (spelling r)) found,
      ap (λ xs. length (spellings xs)) (filter_false (λ r. nat_lt (kind_of r) kind) x rs (false_from_ne_true (nat_lt (kind_of x) kind) (λ less. omega (arith, this, ltb-true (kind_of x) kind less)))),
      ap (λ xs. length (spellings xs)) (filter_false (λ r. nat_lt kind (kind_of r)) x rs (false_from_ne_true (nat_lt kind (kind_of x)) (λ more. omega (arith, this, ltb-true kind (kind_of x) more)))),
    ))
    (λ other.
    let later = parted_with kind rs r (sym (ap (λ (b : Bool). cond b (Some x) (record_of kind rs)) other) ∙ is) in
    ⊎_elim
    (λ less. ⊎_elim
    (λ more. absurd (omega (arith, ltb-true (kind_of x) kind less, ltb-true kind (kind_of x) more)))
    (λ no_more. omega (
      arith,
      later,
      length-append (spelling x) (spellings rs),
      ap (λ xs. length (spellings xs)) (filter_true (λ r. nat_lt (kind_of r) kind) x rs less),
      length-append (spelling x) (spellings (below kind rs)),
      ap (λ xs. length (spellings xs)) (filter_false (λ r. nat_lt kind (kind_of r)) x rs no_more),
    ))
    (cases_Bool (nat_lt kind (kind_of x))))
    (λ no_less. ⊎_elim
    (λ more. omega (
      arith,
      later,
      length-append (spelling x) (spellings rs),
      ap (λ xs. length (spellings xs)) (filter_true (λ r. nat_lt kind (kind_of r)) x rs more),
      length-append (spelling x) (spellings (above kind rs)),
      ap (λ xs. length (spellings xs)) (filter_false (λ r. nat_lt (kind_of r) kind) x rs no_less),
    ))
    (λ no_more. omega (
      arith,
      later,
      length-append (spelling x) (spellings rs),
      ap (λ xs. length (spellings xs)) (filter_false (λ r. nat_lt kind (kind_of r)) x rs no_more),
      ap (λ xs. length (spellings xs)) (filter_false (λ r. nat_lt (kind_of r) kind) x rs no_less),
    ))
    (cases_Bool (nat_lt kind (kind_of x))))
    (cases_Bool (nat_lt (kind_of x) kind)))
    (cases_Bool (nat_eq (kind_of x) kind))

pub allowed_found : (kind : ℕ) (rs : List Record) (r : Record) → record_of kind rs ≡ Some r → AllByRecursion Allowed rs → Allowed r
allowed_found kind [] r is all = absurd (none_is_some r is)
allowed_found kind (x ∷ rs) r is all = ⊎_elim
    (λ same. subst Allowed (some_is x r (sym (ap (λ (b : Bool). cond b (Some x) (record_of kind rs)) same) ∙ is)) all.0)
    (λ other. allowed_found kind rs r (sym (ap (λ (b : Bool). cond b (Some x) (record_of kind rs)) other) ∙ is) all.1)
    (cases_Bool (nat_eq (kind_of x) kind))

pub same_room : (pages : Pages) (at : CellAt) (cell : Cell) (was value : Record) → StandsAt pages at cell → record_of (kind_of value) cell.records ≡ Some was → Allowed value → HasRoom pages at (kind_of value) (Some value)
same_room pages at cell was value stands is allowed =
    let old = allowed_found (kind_of value) cell.records was is stands.is.well_formed.allowed in
    let kinds : kind_of was ≡ kind_of value = kind_found (kind_of value) cell.records was is in
    let sizes : length (spelling value) ≡ length (spelling was) = length-spelling value allowed ∙ ap size_of (sym kinds) ∙ sym (length-spelling was old) in
    record {
      cell = cell;
      stands = stands;
      fits = omega (
        arith,
        stands.is.head.fits,
        parted_with (kind_of value) cell.records was is,
        sizes,
        ap length (spellings-append (below (kind_of value) cell.records) (value ∷ above (kind_of value) cell.records)),
        length-append (spellings (below (kind_of value) cell.records)) (spellings (value ∷ above (kind_of value) cell.records)),
        length-append (spelling value) (spellings (above (kind_of value) cell.records)),
      );
    }

-- ---- attributes

-- numbers that fit their fields
pub record AreFit (value : Attributes) : Type 0 where
  pub uid : value.uid < 2 ^ 32
  pub gid : value.gid < 2 ^ 32
  pub size : value.size < 2 ^ 64
  pub named : 1 ≤ value.links
  pub most : value.links ≤ 1000

pub attributes_kind : (value : Attributes) (was : Record) → kind_of (with_attributes value was) ≡ kind_of was
attributes_kind value (written.Attributes kind uid gid flags size keep links birth unsynced) = refl
attributes_kind value (written.CloneFile vol cell page frozen) = refl
attributes_kind value (written.Extents rows) = refl
attributes_kind value (written.ShortExtents rows) = refl
attributes_kind value (written.Holes rows) = refl
attributes_kind value (written.Pending what) = refl
attributes_kind value (written.UserQuota id files blocks) = refl
attributes_kind value (written.GroupQuota id files blocks) = refl
attributes_kind value (written.DirIndex vol page entries) = refl
attributes_kind value (written.Parent slot seq) = refl
attributes_kind value (written.Stripe width mark vols) = refl
attributes_kind value (written.Volume vol pages bitmap_pages) = refl
attributes_kind value (written.DenseExtents rows) = refl
attributes_kind value (written.ShortDense rows) = refl

pub allowed_with : (value : Attributes) (was : Record) → AreFit value → kind_of was ≡ 1 → Allowed was → Allowed (with_attributes value was)
unfolding Allowed
allowed_with value (written.Attributes kind uid gid flags size keep links birth unsynced) fit is allowed = (
  kind_fits value.kind,
  fit.uid,
  fit.gid,
  flag_fits value.is_logged,
  fit.size,
  allowed.5,
  (fit.named, fit.most),
  allowed.7,
  allowed.8,
)
  where
    kind_fits : (kind : Kind) → (1 ≤ kind_number kind) × (kind_number kind ≤ 2)
    kind_fits File = (omega arith, omega arith)
    kind_fits Directory = (omega arith, omega arith)

    flag_fits : (b : Bool) → cond b 1 0 ≤ 1
    flag_fits true = omega arith
    flag_fits false = omega arith
allowed_with value (written.CloneFile vol cell page frozen) fit is allowed = absurd (omega (arith, is))
allowed_with value (written.Extents rows) fit is allowed = absurd (omega (arith, is))
allowed_with value (written.ShortExtents rows) fit is allowed = absurd (omega (arith, is))
allowed_with value (written.Holes rows) fit is allowed = absurd (omega (arith, is))
allowed_with value (written.Pending what) fit is allowed = absurd (omega (arith, is))
allowed_with value (written.UserQuota id files blocks) fit is allowed = absurd (omega (arith, is))
allowed_with value (written.GroupQuota id files blocks) fit is allowed = absurd (omega (arith, is))
allowed_with value (written.DirIndex vol page entries) fit is allowed = absurd (omega (arith, is))
allowed_with value (written.Parent slot seq) fit is allowed = absurd (omega (arith, is))
allowed_with value (written.Stripe width mark vols) fit is allowed = absurd (omega (arith, is))
allowed_with value (written.Volume vol pages bitmap_pages) fit is allowed = absurd (omega (arith, is))
allowed_with value (written.DenseExtents rows) fit is allowed = absurd (omega (arith, is))
allowed_with value (written.ShortDense rows) fit is allowed = absurd (omega (arith, is))
