-- A page with one entry written.
use Rattle.std.proofs.Common.{◌≡◌, ◌∙◌, ◌⊎◌, inl, inr, ℕ, ◌+◌, ◌*◌, ◌<◌, ◌≤◌, Bool, true, false, cond, nat_eq, Option, Some, None, List, [], ◌∷◌, ◌++◌, length, take, drop, get_or, refl, sym, ap, subst, arith, append_assoc, length-drop, length-take}
use Rattle.std.proofs.lemmas.Bool.{cases_lt, eqb-true, eq-eqb, both_ways}
use Rattle.std.proofs.lemmas.List.{drop_at, drop-drop, take-append-le, drop-append-le}
use Rattle.metadata_cells.specs.domain_base.Page.{overwritten}
use Rattle.metadata_cells.specs.domain_base.declared.place.CellAt.{CellAt}
use Rattle.metadata_cells.specs.cell_records.Fields.{Fit, number_at}
use Rattle.metadata_cells.specs.cell_records.Records.{spelled}
use Rattle.metadata_cells.specs.cell_records.Rules.{nothing_seen}
use Rattle.metadata_cells.proofs.OfCellRecords.Scan.{decoded, decoded_again}
use Rattle.metadata_cells.specs.Cell.{IsAddress}
use Rattle.metadata_cells.proofs.Changed.{number-same}
use Rattle.metadata_cells.proofs.OfCellRecords.Bytes.{little_number-take}
use Rattle.byteorder.specs.Endian.{little_number}
use Rattle.metadata_cells.proofs.Places.{long_still, part_before, rest_after}
use Rattle.metadata_cells.proofs.Written.{any_of, pass_any}
use Rattle.tag_dirs.specs.declared.page.TagEntry.{TagEntry}
use Rattle.tag_dirs.specs.TagPage.{ChangesEntry, IsAllowed, IsSpelled, IsTagPage, cell_in, entry_of, index_of, next_of, slot_of}

-- ---- an entry's bytes

abbrev pub entry_widths : List ℕ
entry_widths = 2 ∷ 1 ∷ 1 ∷ 4 ∷ []

module _ (seq vol cell page : ℕ) (rest out : List ℕ) (written : out ≡ spelled entry_widths (seq ∷ vol ∷ cell ∷ page ∷ []) ++ rest) (fit : Fit entry_widths (seq ∷ vol ∷ cell ∷ page ∷ [])) where
  back : decoded entry_widths 0 out ≡ seq ∷ vol ∷ cell ∷ page ∷ []
  back = ap (decoded entry_widths 0) written
      ∙ decoded_again entry_widths (any_of entry_widths) nothing_seen (seq ∷ vol ∷ cell ∷ page ∷ []) [] rest 0 (pass_any entry_widths (seq ∷ vol ∷ cell ∷ page ∷ []) fit) refl

  pub at : (k : ℕ) → get_or (decoded entry_widths 0 out) k 0 ≡ get_or (seq ∷ vol ∷ cell ∷ page ∷ []) k 0
  at k = ap (λ ns. get_or ns k 0) back

pub address_same : (v v' c c' p p' : ℕ) (at : Option CellAt) → v' ≡ v → c' ≡ c → p' ≡ p → IsAddress v c p at → IsAddress v' c' p' at
address_same v v' c c' p p' at of_v of_c of_p is =
    subst (λ x. IsAddress x c' p' at) (sym of_v) (subst (λ x. IsAddress v x p' at) (sym of_c) (subst (λ x. IsAddress v c x at) (sym of_p) is))

-- what an address is read as
pub address_read : (v c p : ℕ) (at : Option CellAt) → IsAddress v c p at → cond (nat_eq v 0) None (Some (record { vol = v; page = p; cell = c })) ≡ at
address_read v c p None is = ap (λ (b : Bool). cond b None (Some (record { vol = v; page = p; cell = c }))) (eq-eqb v 0 is.0)
address_read v c p (Some at) is = by_test (nat_eq v 0) refl
  where
    some : 1 ≤ v → v ≡ 0 → ⊥
    some le none = omega (arith, le, none)

    by_test : (b : Bool) → nat_eq v 0 ≡ b → cond (nat_eq v 0) None (Some (record { vol = v; page = p; cell = c })) ≡ Some at
    by_test true none = absurd (some is.0.0 (eqb-true v 0 none))
    by_test false some = ap (λ (b : Bool). cond b None (Some (record { vol = v; page = p; cell = c }))) some ∙ ap Some (sym is.1)

-- ---- a page with other bytes for an entry

module _ (page bytes : List ℕ) (place : ℕ) (whole : length page ≡ 8192) (len : length bytes ≡ 8) (within : place < 1022) where
  abbrev start : ℕ
  start = 16 + 8 * place

  abbrev end : List ℕ
  end = overwritten page start bytes

  fits : start + length bytes ≤ length page
  fits = omega (arith, whole, len, within)

  rest : List ℕ
  rest = drop (start + length bytes) page

  front : length (take start page) ≡ start
  front = omega (arith, length-take start page, fits)

  piece : (w o : ℕ) → o + w ≤ 8 → take w (drop (start + o) end) ≡ take w (drop o bytes)
  unfolding rest
  piece w o le =
      ap (take w) (sym (drop-drop o start end)) ∙ ap (λ bs. take w (drop o (drop start bs))) (append_assoc (take start page) bytes rest)
      ∙ ap (λ bs. take w (drop o bs)) (drop_at (take start page) (bytes ++ rest) start front)
      ∙ ap (take w) (drop-append-le o bytes rest (omega (arith, le, len)))
      ∙ take-append-le w (drop o bytes) rest (omega (arith, le, len, length-drop o bytes))

  in_there : (w o a : ℕ) → o + w ≤ 8 → a ≡ start + o → number_at w a end ≡ number_at w o bytes
  unfolding number_at
  in_there w o a le is = ap (λ n. little_number w (drop n end)) is ∙ little_number-take w (drop (start + o) end) (drop o bytes) (piece w o le)

  elsewhere : (w a : ℕ) → (a + w ≤ start) ⊎ (start + 8 ≤ a) → number_at w a end ≡ number_at w a page
  elsewhere w a (inl le) = number-same w a end page (part_before page bytes start fits a w le)
  elsewhere w a (inr le) = number-same w a end page (ap (take w) (rest_after page bytes start fits a (omega (arith, le, len))))

  apart : (e : ℕ) → ¬ e ≡ place → (w o : ℕ) → o + w ≤ 8 → (a : ℕ) → a ≡ 16 + 8 * e + o → number_at w a end ≡ number_at w a page
  apart e other w o le a is = elsewhere w a (side (order e place other))
    where
      order : (j c : ℕ) → ¬ j ≡ c → (j < c) ⊎ (c < j)
      order j c other = elim (cases_lt j c) [ inl less ↦ inl less | inr not_less ↦ inr (omega (arith, not_less, other)) ]

      side : (e < place) ⊎ (place < e) → (a + w ≤ start) ⊎ (start + 8 ≤ a)
      side (inl less) = inl (omega (arith, less, le, is))
      side (inr more) = inr (omega (arith, more, is))

  vol_apart : (e : ℕ) → ¬ e ≡ place → number_at 1 (18 + 8 * e) end ≡ number_at 1 (18 + 8 * e) page
  vol_apart e other = apart e other 1 2 (omega arith) (18 + 8 * e) (omega arith)

  cell_apart : (e : ℕ) → ¬ e ≡ place → number_at 1 (19 + 8 * e) end ≡ number_at 1 (19 + 8 * e) page
  cell_apart e other = apart e other 1 3 (omega arith) (19 + 8 * e) (omega arith)

  page_apart : (e : ℕ) → ¬ e ≡ place → number_at 4 (20 + 8 * e) end ≡ number_at 4 (20 + 8 * e) page
  page_apart e other = apart e other 4 4 (omega arith) (20 + 8 * e) (omega arith)

  other_entries : (e : ℕ) → ¬ e ≡ place → entry_of end e ≡ entry_of page e
  other_entries e other = λ i. record {
    seq = apart e other 2 0 (omega arith) (16 + 8 * e) (omega arith) i;
    at = cond (nat_eq (vol_apart e other i) 0) None (Some (record { vol = vol_apart e other i; page = page_apart e other i; cell = cell_apart e other i }));
  }

  other_spelled : (e : ℕ) → ¬ e ≡ place → IsSpelled page e → IsSpelled end e
  other_spelled e other is =
      subst (λ at. IsAddress (number_at 1 (18 + 8 * e) end) (number_at 1 (19 + 8 * e) end) (number_at 4 (20 + 8 * e) end) at) (sym (ap (λ (x : TagEntry). x.at) (other_entries e other)))
      (address_same (number_at 1 (18 + 8 * e) page) (number_at 1 (18 + 8 * e) end) (number_at 1 (19 + 8 * e) page) (number_at 1 (19 + 8 * e) end) (number_at 4 (20 + 8 * e) page) (number_at 4 (20 + 8 * e) end) (cell_in page e)
      (vol_apart e other) (cell_apart e other) (page_apart e other) is)

  index_same : index_of end ≡ index_of page
  index_same = elsewhere 4 4 (inl (omega arith))

  next_same : next_of end ≡ next_of page
  next_same = λ i. cond (nat_eq (elsewhere 4 8 (inl (omega arith)) i) 0) None (Some (record { vol = elsewhere 4 8 (inl (omega arith)) i; page = elsewhere 4 12 (inl (omega arith)) i }))

  module _ (entry : TagEntry) (seq : number_at 2 0 bytes ≡ entry.seq) (at : IsAddress (number_at 1 2 bytes) (number_at 1 3 bytes) (number_at 4 4 bytes) entry.at) where
    address_there : IsAddress (number_at 1 (18 + 8 * place) end) (number_at 1 (19 + 8 * place) end) (number_at 4 (20 + 8 * place) end) entry.at
    address_there =
        address_same (number_at 1 2 bytes) (number_at 1 (18 + 8 * place) end) (number_at 1 3 bytes) (number_at 1 (19 + 8 * place) end) (number_at 4 4 bytes) (number_at 4 (20 + 8 * place) end) entry.at
        (in_there 1 2 (18 + 8 * place) (omega arith) (omega arith)) (in_there 1 3 (19 + 8 * place) (omega arith) (omega arith)) (in_there 4 4 (20 + 8 * place) (omega arith) (omega arith)) at

    cell_there : cell_in end place ≡ entry.at
    cell_there = address_read (number_at 1 (18 + 8 * place) end) (number_at 1 (19 + 8 * place) end) (number_at 4 (20 + 8 * place) end) entry.at address_there

    seq_there : number_at 2 (16 + 8 * place) end ≡ entry.seq
    seq_there = in_there 2 0 (16 + 8 * place) (omega arith) (omega arith) ∙ seq

    entry_there : entry_of end place ≡ entry
    entry_there = λ i. record { seq = seq_there i; at = cell_there i }

    pub changes : IsTagPage page → IsAllowed (slot_of page place) entry → ChangesEntry place entry page end
    changes was allowed = record {
      there = entry_there;
      others = other_entries;
      index = index_same;
      next = next_same;
      good = record {
        whole = long_still page bytes start fits ∙ whole;
        magic = elsewhere 4 0 (inl (omega arith)) ∙ was.magic;
        index = subst (λ n. n < 4202512) (sym index_same) was.index;
        next = subst (λ n. n ≤ 8) (sym (elsewhere 4 8 (inl (omega arith)))) was.next;
        spelled = λ e below. by_place e below (nat_eq e place) refl;
        entries = λ e below. subst (λ n. IsAllowed (1022 * n + e) (entry_of end e)) (sym index_same) (allowed_at e below (nat_eq e place) refl);
      };
    }
      where
        by_place : (e : ℕ) → e < 1022 → (b : Bool) → nat_eq e place ≡ b → IsSpelled end e
        by_place e below true is =
            subst (λ j. IsSpelled end j) (sym (eqb-true e place is))
            (subst (λ o. IsAddress (number_at 1 (18 + 8 * place) end) (number_at 1 (19 + 8 * place) end) (number_at 4 (20 + 8 * place) end) o) (sym cell_there) address_there)
        by_place e below false is = other_spelled e (λ same. both_ways (nat_eq e place) is (eq-eqb e place same)) (was.spelled e below)

        allowed_at : (e : ℕ) → e < 1022 → (b : Bool) → nat_eq e place ≡ b → IsAllowed (slot_of page e) (entry_of end e)
        allowed_at e below true is =
            let same = eqb-true e place is in
            subst (λ j. IsAllowed (slot_of page j) (entry_of end j)) (sym same) (subst (IsAllowed (slot_of page place)) (sym entry_there) allowed)
        allowed_at e below false is = subst (IsAllowed (slot_of page e)) (sym (other_entries e (λ same. both_ways (nat_eq e place) is (eq-eqb e place same)))) (was.entries e below)
