-- A page with one slot written, and one whose slots are written one after the other.
use Rattle.std.proofs.Common.{◌≡◌, ◌∙◌, ◌⊎◌, inl, inr, ℕ, ◌+◌, ◌*◌, ◌<◌, ◌≤◌, Some, List, [], ◌∷◌, ◌++◌, length, take, drop, get_or, slice_get, append_assoc, refl, sym, ap, subst, arith, length-append, length-drop, length-take}
use Rattle.std.proofs.lemmas.Bool.{cases_lt}
use Rattle.std.specs.Option.{IsSomeAnd}
use Rattle.metadata_cells.specs.domain_base.Page.{overwritten}
use Rattle.metadata_cells.specs.cell_records.Fields.{Fit, number_at}
use Rattle.metadata_cells.specs.cell_records.Records.{spelled}
use Rattle.metadata_cells.specs.cell_records.Rules.{nothing_seen}
use Rattle.metadata_cells.proofs.OfCellRecords.Scan.{decoded, decoded_again}
use Rattle.metadata_cells.proofs.Written.{any_of, pass_any}
use Rattle.metadata_cells.proofs.Changed.{number-same}
use Rattle.metadata_cells.proofs.Places.{part_before, part_there, rest_after}
use Rattle.fileset_table.specs.declared.slot.SlotItem.{SlotItem}
use Rattle.fileset_table.specs.Slot.{IsSlot}
use Rattle.fileset_table.specs.Page.{AreSlots, HasHeader, slot_bytes}
use Rattle.fileset_table.specs.Writing.{SetsSlot}

module _ (page bytes : List ℕ) (number : ℕ) (item : SlotItem) (whole : length page ≡ 8192) (len : length bytes ≡ 128) (within : number < 32) (is : IsSlot bytes item) where
  abbrev start : ℕ
  start = 16 + 128 * number

  fits : start + length bytes ≤ length page
  fits = omega (arith, whole, len, within)

  here : slot_bytes (overwritten page start bytes) number ≡ bytes
  here = ap (λ n. take n (drop start (overwritten page start bytes))) (sym len) ∙ part_there page bytes start fits

  other : (k : ℕ) → ¬ k ≡ number → slot_bytes (overwritten page start bytes) k ≡ slot_bytes page k
  other k apart = by_order (order k number apart)
    where
      order : (j c : ℕ) → ¬ j ≡ c → (j < c) ⊎ (c < j)
      order j c other = elim (cases_lt j c) [ inl less ↦ inl less | inr not_less ↦ inr (omega (arith, not_less, other)) ]

      by_order : (k < number) ⊎ (number < k) → slot_bytes (overwritten page start bytes) k ≡ slot_bytes page k
      by_order (inl less) = part_before page bytes start fits (16 + 128 * k) 128 (omega (arith, less))
      by_order (inr more) = ap (take 128) (rest_after page bytes start fits (16 + 128 * k) (omega (arith, more, len)))

  pub sets_slot : SetsSlot number item page (overwritten page start bytes)
  sets_slot = record {
    there = subst (λ bs. IsSlot bs item) (sym here) is;
    others = other;
    header = λ w at le. number-same w at (overwritten page start bytes) page (part_before page bytes start fits at w (omega (arith, le)));
    rest = rest_after page bytes start fits 4112 (omega (arith, len, within));
  }

-- the slots that were written so far
pub record Wrote (slots : List SlotItem) (made number : ℕ) (first page : List ℕ) : Type 0 where
  pub header : HasHeader page
  pub count : number_at 8 8 page ≡ made
  pub wrote : (k : ℕ) → k < number → IsSomeAnd (slice_get slots k) (IsSlot (slot_bytes page k))
  pub rest : drop 4112 page ≡ drop 4112 first

pub wrote_more : (slots : List SlotItem) (made number : ℕ) (item : SlotItem) (first old new : List ℕ) → Wrote slots made number first old → SetsSlot number item old new → slice_get slots number ≡ Some item
    → Wrote slots made (number + 1) first new
wrote_more slots made number item first old new so sets there = record {
  header = record { magic = sets.header 4 0 (omega arith) ∙ so.header.magic; zero = sets.header 4 4 (omega arith) ∙ so.header.zero };
  count = sets.header 8 8 (omega arith) ∙ so.count;
  wrote = λ k less. by_order k (before k number less);
  rest = sets.rest ∙ so.rest;
}
  where
    before : (k n : ℕ) → k < n + 1 → (k < n) ⊎ (k ≡ n)
    before k n less = elim (cases_lt k n) [ inl smaller ↦ inl smaller | inr not_less ↦ inr (omega (arith, less, not_less)) ]

    by_order : (k : ℕ) → (k < number) ⊎ (k ≡ number) → IsSomeAnd (slice_get slots k) (IsSlot (slot_bytes new k))
    by_order k (inl smaller) =
        subst (λ bs. IsSomeAnd (slice_get slots k) (IsSlot bs)) (sym (sets.others k (λ same. absurd (omega (arith, smaller, same))))) (so.wrote k smaller)
    by_order k (inr same) =
        subst (λ j. IsSomeAnd (slice_get slots j) (IsSlot (slot_bytes new j))) (sym same) (subst (λ o. IsSomeAnd o (IsSlot (slot_bytes new number))) (sym there) sets.there)

-- a page was whole before bytes within it were overwritten
pub whole_before : (page bytes : List ℕ) (b : ℕ) → b + length bytes < 8192 → length (overwritten page b bytes) ≡ 8192 → length page ≡ 8192
whole_before page bytes b within len =
    omega (
      arith,
      len,
      within,
      length-append (take b page) (bytes ++ drop (b + length bytes) page),
      length-append bytes (drop (b + length bytes) page),
      length-append (take b page ++ bytes) (drop (b + length bytes) page),
      length-append (take b page) bytes,
      length-take b page,
      length-drop (b + length bytes) page,
    )

pub wrote_all : (slots : List SlotItem) (made number : ℕ) (first page : List ℕ) → Wrote slots made number first page → length slots ≡ 32 → length slots ≤ number → AreSlots page slots
wrote_all slots made number first page so whole all = record { whole = whole; said = λ k less. so.wrote k (omega (arith, less, whole, all)) }

-- ---- what a table begins with

abbrev pub header_widths : List ℕ
header_widths = 4 ∷ 4 ∷ 8 ∷ []

abbrev pub header_numbers : ℕ → List ℕ
header_numbers made = 0x42545346 ∷ 0 ∷ made ∷ []

module _ (page bytes : List ℕ) (made : ℕ) (written : bytes ≡ spelled header_widths (header_numbers made) ++ []) (len : length bytes ≡ 16) (fit : Fit header_widths (header_numbers made)) where
  abbrev out : List ℕ
  out = overwritten page 0 bytes

  back : decoded header_widths 0 out ≡ header_numbers made
  back =
      let behind = drop (0 + length bytes) page in
      let e : out ≡ spelled header_widths (header_numbers made) ++ ([] ++ behind) = ap (λ (bs : List ℕ). bs ++ behind) written ∙ append_assoc (spelled header_widths (header_numbers made)) [] behind in
      ap (decoded header_widths 0) e
      ∙ decoded_again header_widths (any_of header_widths) nothing_seen (header_numbers made) [] ([] ++ behind) 0 (pass_any header_widths (header_numbers made) fit) refl

  at : (k : ℕ) → get_or (decoded header_widths 0 out) k 0 ≡ get_or (header_numbers made) k 0
  at k = ap (λ ns. get_or ns k 0) back

  pub header_there : HasHeader out
  header_there = record { magic = at 0; zero = at 1 }

  pub made_there : number_at 8 8 out ≡ made
  made_there = at 2

  pub rest_stays : length out ≡ 8192 → drop 4112 out ≡ drop 4112 page
  rest_stays whole =
      let was = whole_before page bytes 0 (omega (arith, len)) whole in
      rest_after page bytes 0 (omega (arith, was, len)) 4112 (omega (arith, len))
