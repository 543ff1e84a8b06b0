-- The first record of a kind, looked for record by record.
use Rattle.std.proofs.Common.{◌≡◌, ◌==◌, ◌∙◌, ℕ, zero, suc, ◌+◌, true, false, List, [], ◌∷◌, drop, Some, None, if◌then◌else◌, slice_get, add-one, sym, ap}
use Rattle.page_ways.specs.cell_records.declared.record.Record.{Record}
use Rattle.page_ways.specs.cell_records.Records.{kind_of}
use Rattle.page_ways.specs.metadata_cells.Cell.{record_of}

-- the records in front of a place have none of the kind
abbrev pub IsBehind : ℕ → List Record → ℕ → Type 0
IsBehind kind records number = record_of kind records ≡ record_of kind (drop number records)

none_some : (r : Record) → None ≡ Some r → ⊥
none_some r e = cc

some_same : (a b : Record) → Some a ≡ Some b → a ≡ b
some_same a b e = cc

at_place : (kind : ℕ) (records : List Record) (number : ℕ) (r : Record) → slice_get records number ≡ Some r
    → record_of kind (drop number records) ≡ (if kind_of r == kind then Some r else record_of kind (drop (suc number) records))
at_place kind [] number r e = absurd (none_some r e)
at_place kind (x ∷ xs) zero r e = ap (λ (y : Record). if kind_of y == kind then Some y else record_of kind xs) (some_same x r e)
at_place kind (x ∷ xs) (suc number) r e = at_place kind xs number r e

pub here : (kind : ℕ) (records : List Record) (number : ℕ) (r : Record) → IsBehind kind records number → slice_get records number ≡ Some r → (kind_of r == kind) ≡ true → record_of kind records ≡ Some r
here kind records number r behind there same =
    behind ∙ at_place kind records number r there ∙ ap (λ b. if b then Some r else record_of kind (drop (suc number) records)) same

pub one_behind : (kind : ℕ) (records : List Record) (number : ℕ) (r : Record) → IsBehind kind records number → slice_get records number ≡ Some r → (kind_of r == kind) ≡ false
    → IsBehind kind records (number + 1)
one_behind kind records number r behind there other =
    behind ∙ at_place kind records number r there ∙ ap (λ b. if b then Some r else record_of kind (drop (suc number) records)) other
    ∙ ap (λ n. record_of kind (drop n records)) (sym (add-one number))
