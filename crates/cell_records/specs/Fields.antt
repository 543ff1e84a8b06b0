-- The numbers, rows and records that stand at a place of some bytes.
use Rattle.std.specs.Prelude.{ℕ, zero, suc, ◌+◌, ◌^◌, ◌<◌, ◌≤◌, ◌==◌, if◌then◌else◌, List, [], ◌∷◌, drop, get_or}
use Rattle.byteorder.specs.Endian.{little_number}
use Rattle.cell_records.specs.declared.record.Record.{Record}
use Rattle.cell_records.specs.declared.record.Record.TheVariants.{Attributes, CloneFile, Extents, ShortExtents, Holes, Pending, UserQuota, GroupQuota, DirIndex, Parent, Stripe, Volume, DenseExtents, ShortDense}
use Rattle.cell_records.specs.declared.record.ExtentField.{ExtentField}
use Rattle.cell_records.specs.declared.record.HoleField.{HoleField}
use Rattle.cell_records.specs.declared.record.Leftover.{Leftover}
use Rattle.cell_records.specs.declared.record.Leftover.TheVariants.{Trim, Remove}

-- the number of w bytes at a place
unfoldable pub number_at : ℕ → ℕ → List ℕ → ℕ
number_at w at bytes = little_number w (drop at bytes)

abbrev pub extent_at : ℕ → List ℕ → ExtentField
extent_at at bytes = record {
  page = number_at 4 at bytes;
  count = number_at 4 (at + 4) bytes;
  vol = number_at 4 (at + 8) bytes;
  first = number_at 4 (at + 12) bytes;
}

abbrev pub dense_at : ℕ → List ℕ → ExtentField
dense_at at bytes = record {
  page = number_at 2 at bytes;
  count = number_at 2 (at + 2) bytes;
  vol = number_at 1 (at + 4) bytes;
  first = number_at 4 (at + 8) bytes;
}

abbrev pub hole_at : ℕ → List ℕ → HoleField
hole_at at bytes = record { page = number_at 4 at bytes; count = number_at 4 (at + 4) bytes }

-- n rows of `bytes_each` bytes, one after the other
abbrev pub rows_at : {X : Type 0} → (ℕ → List ℕ → X) → ℕ → ℕ → ℕ → List ℕ → List X
rows_at row bytes_each zero at bytes = []
rows_at row bytes_each (suc n) at bytes = row at bytes
    ∷ rows_at row bytes_each n (at + bytes_each) bytes

abbrev pub extents : ℕ → ℕ → List ℕ → List ExtentField
extents = rows_at extent_at 16

abbrev pub dense_extents : ℕ → ℕ → List ℕ → List ExtentField
dense_extents = rows_at dense_at 12

abbrev pub holes : ℕ → ℕ → List ℕ → List HoleField
holes = rows_at hole_at 8

-- eight bytes
abbrev pub volumes : ℕ → List ℕ → List ℕ
volumes at bytes =
    number_at 1 at bytes ∷ number_at 1 (at + 1) bytes ∷ number_at 1 (at + 2) bytes
    ∷ number_at 1 (at + 3) bytes
    ∷ number_at 1 (at + 4) bytes ∷ number_at 1 (at + 5) bytes ∷ number_at 1 (at + 6) bytes
    ∷ number_at 1 (at + 7) bytes ∷ []

-- what is left, by its number
abbrev pub leftover_of : ℕ → Leftover
leftover_of n = if n == 1 then Trim else Remove

-- what each kind makes of a record's bytes, by its number
abbrev pub readers : List (List ℕ → Record)
readers =
    (λ bytes. Pending Trim)
    ∷ (λ bytes. Attributes (number_at 4 4 bytes) (number_at 4 8 bytes) (number_at 4 12 bytes)
    (number_at 4 16 bytes) (number_at 8 20 bytes) (number_at 4 28 bytes) (number_at 4 32 bytes)
    (number_at 8 36 bytes) (number_at 8 44 bytes))
    ∷ (λ bytes. CloneFile (number_at 1 6 bytes) (number_at 1 7 bytes) (number_at 4 8 bytes)
    (number_at 4 12 bytes))
    ∷ (λ bytes. Extents (extents 16 4 bytes))
    ∷ (λ bytes. ShortExtents (extents 4 4 bytes))
    ∷ (λ bytes. Holes (holes 16 4 bytes))
    ∷ (λ bytes. Pending (leftover_of (number_at 4 4 bytes)))
    ∷ (λ bytes. UserQuota (number_at 4 4 bytes) (number_at 8 12 bytes) (number_at 8 20 bytes))
    ∷ (λ bytes. GroupQuota (number_at 4 4 bytes) (number_at 8 12 bytes) (number_at 8 20 bytes))
    ∷ (λ bytes. DirIndex (number_at 4 4 bytes) (number_at 4 8 bytes) (number_at 4 12 bytes))
    ∷ (λ bytes. Parent (number_at 4 4 bytes) (number_at 2 8 bytes))
    ∷ (λ bytes. Stripe (number_at 1 4 bytes) (number_at 1 5 bytes) (volumes 8 bytes))
    ∷ (λ bytes. Volume (number_at 4 4 bytes) (number_at 4 8 bytes) (number_at 4 12 bytes))
    ∷ (λ bytes. DenseExtents (dense_extents 22 4 bytes))
    ∷ (λ bytes. ShortDense (dense_extents 4 4 bytes))
    ∷ []

-- the record of a kind whose spelling begins the bytes
abbrev pub record_at : ℕ → List ℕ → Record
record_at kind bytes = get_or readers kind (λ bytes. Pending Trim) bytes

-- numbers that fit fields of these widths, one number for each
abbrev pub Fit : List ℕ → List ℕ → Type 0
Fit [] [] = Unit {0}
Fit [] (n ∷ ns) = ⊥
Fit (w ∷ ws) [] = ⊥
Fit (w ∷ ws) (n ∷ ns) = ((1 ≤ w) × (w ≤ 8)) × (n < 256 ^ w) × Fit ws ns
