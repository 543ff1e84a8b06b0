-- A slot's name, read from its bytes.
use Rattle.std.proofs.Common.{◌≡◌, ◌∙◌, ℕ, ◌+◌, ◌-◌, ◌<◌, ◌≤◌, Bool, true, false, nat_eq, nat_le, Result, Ok, Err, List, ◌++◌, length, take, drop, sym, ap, arith, length-drop, length-take}
use Rattle.std.proofs.lemmas.Bool.{and_parts, true≢false}
use borrow.Author.Tests.{leb-true}
use Rattle.fileset_table.specs.declared.slot.TableFault.{TableFault}
use Rattle.fileset_table.specs.declared.slot.TableFault.TheVariants.{Bad, OutOfMemory}
use Rattle.fileset_table.specs.Reading.{Reads}
use Rattle.std.proofs.lemmas.List.{take_at, drop_at, drop-take, drop-drop, take-take}
use Rattle.std.proofs.Math.Seq.{take-add}
use Rattle.std.specs.List.{list_all}
use Rattle.metadata_cells.specs.domain_base.Page.{zero_bytes}
use Rattle.metadata_cells.specs.cell_records.Fields.{number_at}
use Rattle.metadata_cells.proofs.OneByOne.{are_zeros, zeros_are}
use Rattle.word_forms.specs.Forms.{has_length, is_fileset_character, is_fileset_name}
use Rattle.fileset_table.specs.Slot.{IsNamed}

-- whether all the bytes are zero
abbrev pub all_zero : List ℕ → Bool
all_zero = list_all (λ b. nat_eq b 0)

module _ (bytes : List ℕ) (len : length bytes ≡ 128) where
  abbrev size : ℕ
  size = number_at 1 1 bytes

  parts : (n : ℕ) → n ≤ 31 → take 31 (drop 2 bytes) ≡ take n (drop 2 bytes) ++ take (31 - n) (drop (2 + n) bytes)
  parts n few =
      let e : n + (31 - n) ≡ 31 = omega (arith, few) in
      ap (λ k. take k (drop 2 bytes)) (sym e) ∙ take-add n (31 - n) (drop 2 bytes) ∙ ap (λ xs. take n (drop 2 bytes) ++ take (31 - n) xs) (drop-drop n 2 bytes)

  -- what is read is there
  pub name_there : (name : List ℕ) → size ≤ 31 → all_zero (take (33 - (2 + size)) (drop (2 + size) bytes)) ≡ true → is_fileset_name name ≡ true → name ≡ take (2 + size - 2) (drop 2 bytes) → IsNamed bytes name
  name_there name few zeros form is =
      let e : 2 + size - 2 ≡ size = omega arith in
      let d : 33 - (2 + size) ≡ 31 - size = omega arith in
      let front : name ≡ take size (drop 2 bytes) = is ∙ ap (λ k. take k (drop 2 bytes)) e in
      let long : length name ≡ size = ap length front ∙ omega (arith, length-take size (drop 2 bytes), length-drop 2 bytes, len, few) in
      let tail = take (33 - (2 + size)) (drop (2 + size) bytes) in
      let tail_len : length tail ≡ 31 - size = omega (arith, length-take (33 - (2 + size)) (drop (2 + size) bytes), length-drop (2 + size) bytes, len, few) in
      let behind : take (31 - size) (drop (2 + size) bytes) ≡ zero_bytes (31 - length name) =
      ap (λ k. take k (drop (2 + size) bytes)) (sym d) ∙ zeros_are tail zeros ∙ ap zero_bytes (tail_len ∙ ap (λ k. 31 - k) (sym long)) in
      record {
        form = form;
        size = sym long;
        spelled = parts size few ∙ (λ i. sym front i ++ behind i);
      }

  module _ (name : List ℕ) (is : IsNamed bytes name) (few : length name ≤ 31) where
    pub size_few : size ≤ 31
    size_few = omega (arith, is.size, few)

    long : length name ≡ size
    long = sym is.size

    -- it is what is read
    pub name_read : take (2 + size - 2) (drop 2 bytes) ≡ name
    name_read =
        let e : 2 + size - 2 ≡ size = omega arith in
        ap (λ k. take k (drop 2 bytes)) e ∙ sym (take-take size 31 (drop 2 bytes) size_few) ∙ ap (take size) is.spelled ∙ take_at name (zero_bytes (31 - length name)) size long

    pub zeros_read : all_zero (take (33 - (2 + size)) (drop (2 + size) bytes)) ≡ true
    zeros_read =
        let d : 33 - (2 + size) ≡ 31 - size = omega arith in
        let e : size + (31 - size) ≡ 31 = omega (arith, size_few) in
        let tail : take (33 - (2 + size)) (drop (2 + size) bytes) ≡ zero_bytes (31 - length name) =
        ap (λ k. take k (drop (2 + size) bytes)) d ∙ ap (take (31 - size)) (sym (drop-drop size 2 bytes))
        ∙ sym (drop-take size (31 - size) (drop 2 bytes)) ∙ ap (λ k. drop size (take k (drop 2 bytes))) e ∙ ap (drop size) is.spelled
        ∙ drop_at name (zero_bytes (31 - length name)) size long in
        ap all_zero tail ∙ are_zeros (31 - length name)

-- ---- what a reading answers

pub reads_same : {A : Type 0} (P Q : A → Type 0) → ((x : A) → P x → Q x) → ((x : A) → Q x → P x) → (r : Result A TableFault) → Reads P r → Reads Q r
reads_same P Q to from (Ok x) is = to x is
reads_same P Q to from (Err Bad) none = λ x is. none x (from x is)
reads_same P Q to from (Err OutOfMemory) is = tt

pub short_name : (name : List ℕ) → is_fileset_name name ≡ true → length name ≤ 31
short_name name form =
    let parts = and_parts (has_length 1 31 name) (list_all is_fileset_character name) form in
    let bounds = and_parts (nat_le 1 (length name)) (nat_le (length name) 31) parts.0 in
    leb-true (length name) 31 bounds.1

-- what the reading of a name answers, if its length is at most 31 and zeros stand after it
pub name_answered : (bytes : List ℕ) (n : ℕ) (r : Result (List ℕ) TableFault) → length bytes ≡ 128 → n ≡ number_at 1 1 bytes → 2 + n ≤ 33 → all_zero (take (33 - (2 + n)) (drop (2 + n) bytes)) ≡ true
    → Reads (λ name. (is_fileset_name name ≡ true) × (name ≡ take (2 + n - 2) (drop 2 bytes))) r → Reads (IsNamed bytes) r
name_answered bytes n r len is few zeros reads =
    let few' : number_at 1 1 bytes ≤ 31 = omega (arith, is, few) in
    let zeros' : all_zero (take (33 - (2 + number_at 1 1 bytes)) (drop (2 + number_at 1 1 bytes) bytes)) ≡ true = ap (λ k. all_zero (take (33 - (2 + k)) (drop (2 + k) bytes))) (sym is) ∙ zeros in
    reads_same (λ name. (is_fileset_name name ≡ true) × (name ≡ take (2 + n - 2) (drop 2 bytes))) (IsNamed bytes)
    (λ name read. name_there bytes len name few' zeros' read.0 (read.1 ∙ ap (λ k. take (2 + k - 2) (drop 2 bytes)) is))
    (λ name named. (named.form, sym (ap (λ k. take (2 + k - 2) (drop 2 bytes)) is ∙ name_read bytes len name named (short_name name named.form)))) r reads

-- no name stands there if the length is above 31, or a byte other than zero follows the name
pub too_long : (bytes : List ℕ) (n : ℕ) → length bytes ≡ 128 → n ≡ number_at 1 1 bytes → 33 < 2 + n → (name : List ℕ) → ¬ IsNamed bytes name
too_long bytes n len is more name named = let few = size_few bytes len name named (short_name name named.form) in omega (arith, is, more, few)

pub not_zeros : (bytes : List ℕ) (n : ℕ) → length bytes ≡ 128 → n ≡ number_at 1 1 bytes → all_zero (take (33 - (2 + n)) (drop (2 + n) bytes)) ≡ false → (name : List ℕ) → ¬ IsNamed bytes name
not_zeros bytes n len is other name named =
    true≢false (sym (ap (λ k. all_zero (take (33 - (2 + k)) (drop (2 + k) bytes))) is ∙ zeros_read bytes len name named (short_name name named.form)) ∙ other)
