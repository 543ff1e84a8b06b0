-- The first record of a kind, looked for one record after the other.
use Rattle.std.proofs.Common.{◌≡◌, ◌≢◌, ℕ, ◌+◌, ◌<◌, ◌≤◌, false, cond, nat_eq, List, [], ◌∷◌, length, drop, Some, None, refl, sym, ap, ◌∙◌, arith, length-append, length-drop, drop-drop}
use Rattle.std.proofs.lemmas.Bool.{eq-eqb, false_from_ne_true, eqb-true}
use Rattle.std.proofs.lemmas.List.{drop_all, drop_at}
use Rattle.std.specs.List.{AllByRecursion}
use Rattle.page_store.specs.domain_base.declared.version.Version.TheVariants.{Four}
use Rattle.cell_records.specs.declared.record.Record.{Record}
use Rattle.cell_records.specs.Records.{Allowed, Begins, kind_of, spelling}
use Rattle.metadata_cells.specs.Cell.{AreRecords, record_of, spellings}
use Rattle.metadata_cells.proofs.OneByOne.{known}
use Rattle.metadata_cells.proofs.Spellings.{some_bytes}

-- what is left of the records after the bytes that were passed: the first of the kind is there
pub record LeavesSo (bytes : List ℕ) (kind at : ℕ) (records : List Record) : Type 0 where
  pub rest : List Record
  pub spelled : drop at bytes ≡ spellings rest
  pub allowed : AllByRecursion Allowed rest
  pub same : record_of kind records ≡ record_of kind rest

abbrev pub LeavesOf : List ℕ → ℕ → ℕ → Type 0
LeavesOf bytes kind at = (records : List Record) → AreRecords records → bytes ≡ spellings records → LeavesSo bytes kind at records

pub leaves_all : (bytes : List ℕ) (kind : ℕ) → LeavesOf bytes kind 0
leaves_all bytes kind records good same = record { rest = records; spelled = same; allowed = good.allowed; same = refl }

begins_with : (r : Record) (rs : List Record) (bytes : List ℕ) → bytes ≡ spellings (r ∷ rs) → Allowed r → Begins Four bytes r
begins_with r rs bytes same allowed = record { allowed = allowed; known = known r; rest = spellings rs; parts = same }

module _ (bytes : List ℕ) (kind at : ℕ) (leaves : LeavesOf bytes kind at) where
  -- after the end nothing is left
  pub found_none : length bytes ≤ at → (records : List Record) → AreRecords records → bytes ≡ spellings records → None ≡ record_of kind records
  found_none past records good same = let so = leaves records good same in by_rest so.rest so.spelled so.allowed ∙ sym so.same
    where
      by_rest : (rest : List Record) → drop at bytes ≡ spellings rest → AllByRecursion Allowed rest → None ≡ record_of kind rest
      by_rest [] spelled allowed = refl
      by_rest (r ∷ rest) spelled allowed =
          absurd (omega (arith, some_bytes r allowed.0, length-append (spelling r) (spellings rest), ap length (sym (drop_all at bytes past) ∙ spelled)))

  pub found_bad : at < length bytes → ((r : Record) → ¬ Begins Four (drop at bytes) r) → (records : List Record) → AreRecords records → bytes ≡ spellings records → None ≡ record_of kind records
  found_bad more none records good same = let so = leaves records good same in by_rest so.rest so.spelled so.allowed
    where
      by_rest : (rest : List Record) → drop at bytes ≡ spellings rest → AllByRecursion Allowed rest → None ≡ record_of kind records
      by_rest [] spelled allowed = absurd (omega (arith, more, length-drop at bytes, ap length spelled))
      by_rest (r ∷ rest) spelled allowed = absurd (none r (begins_with r rest (drop at bytes) spelled allowed.0))

  module _ (more : at < length bytes) (r : Record) (len : ℕ) (only : (q : Record) → Begins Four (drop at bytes) q → q ≡ r) (size : len ≡ length (spelling r)) where
    pub found_one : kind_of r ≡ kind → (records : List Record) → AreRecords records → bytes ≡ spellings records → Some r ≡ record_of kind records
    found_one is records good same = let so = leaves records good same in by_rest so.rest so.spelled so.allowed ∙ sym so.same
      where
        by_rest : (rest : List Record) → drop at bytes ≡ spellings rest → AllByRecursion Allowed rest → Some r ≡ record_of kind rest
        by_rest [] spelled allowed = absurd (omega (arith, more, length-drop at bytes, ap length spelled))
        by_rest (q ∷ rest) spelled allowed =
            let this : q ≡ r = only q (begins_with q rest (drop at bytes) spelled allowed.0) in
            ap Some (sym this) ∙ sym (ap (λ b. cond b (Some q) (record_of kind rest)) (eq-eqb (kind_of q) kind (ap kind_of this ∙ is)))

    pub leaves_next : kind_of r ≢ kind → LeavesOf bytes kind (at + len)
    leaves_next other records good same = let so = leaves records good same in by_rest so.rest so.spelled so.allowed so.same
      where
        by_rest : (rest : List Record) → drop at bytes ≡ spellings rest → AllByRecursion Allowed rest → record_of kind records ≡ record_of kind rest → LeavesSo bytes kind (at + len) records
        by_rest [] spelled allowed first = absurd (omega (arith, more, length-drop at bytes, ap length spelled))
        by_rest (q ∷ rest) spelled allowed first =
            let this : q ≡ r = only q (begins_with q rest (drop at bytes) spelled allowed.0) in
            let differs : nat_eq (kind_of q) kind ≡ false = false_from_ne_true (nat_eq (kind_of q) kind) (λ same. other (sym (ap kind_of this) ∙ eqb-true (kind_of q) kind same)) in
            record {
              rest = rest;
              spelled = sym (drop-drop len at bytes) ∙ ap (drop len) spelled ∙ drop_at (spelling q) (spellings rest) len (ap (λ p. length (spelling p)) this ∙ sym size);
              allowed = allowed.1;
              same = first ∙ ap (λ b. cond b (Some q) (record_of kind rest)) differs;
            }
