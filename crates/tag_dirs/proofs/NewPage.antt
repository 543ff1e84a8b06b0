-- What a tag page begins with: a new page, and a page with another next page.
use Rattle.std.proofs.Common.{◌≡◌, ◌∙◌, ℕ, ◌+◌, ◌-◌, ◌*◌, ◌<◌, ◌≤◌, Bool, true, false, cond, nat_eq, Some, None, List, [], ◌∷◌, ◌++◌, length, take, drop, get_or, refl, sym, ap, subst, arith, append_assoc, length-drop, length-take}
use Rattle.std.proofs.lemmas.Bool.{eqb-true}
use Rattle.std.proofs.lemmas.List.{drop-append-le, drop-drop, drop-replicate, drop_at, take-append-le, take-replicate}
use Rattle.byteorder.specs.Endian.{little_number}
use Rattle.metadata_cells.specs.domain_base.Page.{overwritten, zero_bytes, length-zero_bytes}
use Rattle.metadata_cells.specs.domain_base.declared.place.Home.{Home}
use Rattle.metadata_cells.specs.cell_records.Fields.{Fit, number_at}
use Rattle.metadata_cells.specs.cell_records.Records.{spelled}
use Rattle.metadata_cells.specs.cell_records.Rules.{nothing_seen}
use Rattle.metadata_cells.proofs.OfCellRecords.Bytes.{little_number-take}
use Rattle.metadata_cells.proofs.OfCellRecords.Scan.{decoded, decoded_again}
use Rattle.metadata_cells.proofs.Changed.{number-same}
use Rattle.metadata_cells.proofs.Places.{long_still, part_before, rest_after}
use Rattle.metadata_cells.proofs.Written.{any_of, pass_any}
use Rattle.tag_dirs.specs.declared.page.TagEntry.{TagEntry}
use Rattle.tag_dirs.specs.TagPage.{EndsPage, IsAllowed, IsNewPage, IsTagPage, LinksPage, cell_in, entry_of, index_of, next_of, slot_of}
use Rattle.metadata_cells.specs.Cell.{IsAddress}
use Rattle.tag_dirs.proofs.WrittenEntry.{address_same}

-- ---- a new page

abbrev pub header_widths : List ℕ
header_widths = 4 ∷ 4 ∷ 4 ∷ 4 ∷ []

abbrev pub header_numbers : ℕ → List ℕ
header_numbers index = 0x50474154 ∷ index ∷ 0 ∷ 0 ∷ []

part_of_zeros : (a n m : ℕ) → a + n ≤ m → take n (drop a (zero_bytes m)) ≡ zero_bytes n
unfolding zero_bytes
part_of_zeros a n m within = ap (take n) (drop-replicate a m 0) ∙ take-replicate n (m - a) 0 (omega (arith, within))

zero_1 : little_number 1 (zero_bytes 1) ≡ 0
unfolding zero_bytes
zero_1 = refl

zero_2 : little_number 2 (zero_bytes 2) ≡ 0
unfolding zero_bytes
zero_2 = refl

zero_4 : little_number 4 (zero_bytes 4) ≡ 0
unfolding zero_bytes
zero_4 = refl

short_zeros : (w : ℕ) → take w (zero_bytes w) ≡ zero_bytes w
unfolding zero_bytes
short_zeros w = take-replicate w w 0 (omega arith)

module _ (index : ℕ) (zeros bytes rest : List ℕ) (are_zeros : zeros ≡ zero_bytes 8192) (written : bytes ≡ spelled header_widths (header_numbers index) ++ rest) (len : length bytes ≡ 16)
    (fit : Fit header_widths (header_numbers index)) (small : index < 4202512) where
  abbrev out : List ℕ
  out = overwritten zeros 0 bytes

  whole : length zeros ≡ 8192
  whole = ap length are_zeros ∙ length-zero_bytes 8192

  fits : 0 + length bytes ≤ length zeros
  fits = omega (arith, whole, len)

  back : decoded header_widths 0 out ≡ header_numbers index
  back =
      let behind = drop (0 + length bytes) zeros in
      let e : out ≡ spelled header_widths (header_numbers index) ++ (rest ++ behind) = ap (λ (bs : List ℕ). bs ++ behind) written ∙ append_assoc (spelled header_widths (header_numbers index)) rest behind in
      ap (decoded header_widths 0) e
      ∙ decoded_again header_widths (any_of header_widths) nothing_seen (header_numbers index) [] (rest ++ behind) 0 (pass_any header_widths (header_numbers index) fit) refl

  at : (k : ℕ) → get_or (decoded header_widths 0 out) k 0 ≡ get_or (header_numbers index) k 0
  at k = ap (λ ns. get_or ns k 0) back

  zero : (w a : ℕ) → 16 ≤ a → a + w ≤ 8192 → little_number w (zero_bytes w) ≡ 0 → number_at w a out ≡ 0
  unfolding number_at
  zero w a after within none =
      little_number-take w (drop a out) (zero_bytes w)
      (ap (take w) (rest_after zeros bytes 0 fits a (omega (arith, len, after))) ∙ ap (λ zs. take w (drop a zs)) are_zeros ∙ part_of_zeros a w 8192 within ∙ sym (short_zeros w))
      ∙ none

  no_volume : (e : ℕ) → e < 1022 → number_at 1 (18 + 8 * e) out ≡ 0
  no_volume e below = zero 1 (18 + 8 * e) (omega arith) (omega (arith, below)) zero_1

  no_cell : (e : ℕ) → e < 1022 → cell_in out e ≡ None
  no_cell e below = ap (λ n. cond (nat_eq n 0) None (Some (record { vol = number_at 1 (18 + 8 * e) out; page = number_at 4 (20 + 8 * e) out; cell = number_at 1 (19 + 8 * e) out }))) (no_volume e below)

  fresh : (e : ℕ) → e < 1022 → entry_of out e ≡ record { seq = 0; at = None }
  fresh e below = λ i. record { seq = zero 2 (16 + 8 * e) (omega arith) (omega (arith, below)) zero_2 i; at = no_cell e below i }

  pub is_new : IsNewPage index out
  is_new = record {
    good = record {
      whole = long_still zeros bytes 0 fits ∙ whole;
      magic = at 0;
      index = subst (λ n. n < 4202512) (sym (at 1)) small;
      next = subst (λ n. n ≤ 8) (sym (at 2)) (omega arith);
      spelled = λ e below. subst (λ o. IsAddress (number_at 1 (18 + 8 * e) out) (number_at 1 (19 + 8 * e) out) (number_at 4 (20 + 8 * e) out) o) (sym (no_cell e below))
          (no_volume e below, zero 1 (19 + 8 * e) (omega arith) (omega (arith, below)) zero_1, zero 4 (20 + 8 * e) (omega arith) (omega (arith, below)) zero_4);
      entries = λ e below. subst (IsAllowed (slot_of out e)) (sym (fresh e below)) tt;
    };
    indexed = at 1;
    last = ap (λ n. cond (nat_eq n 0) None (Some (record { vol = number_at 4 8 out; page = number_at 4 12 out }))) (at 2);
    fresh = fresh;
  }

-- ---- another next page

abbrev pub home_widths : List ℕ
home_widths = 4 ∷ 4 ∷ []

pub home_at : (vol number : ℕ) (rest bytes : List ℕ) → bytes ≡ spelled home_widths (vol ∷ number ∷ []) ++ rest → Fit home_widths (vol ∷ number ∷ []) → (k : ℕ) → get_or (decoded home_widths 0 bytes) k 0 ≡ get_or (vol ∷ number ∷ []) k 0
home_at vol number rest bytes written fit k =
    ap (λ ns. get_or ns k 0)
    (ap (decoded home_widths 0) written ∙ decoded_again home_widths (any_of home_widths) nothing_seen (vol ∷ number ∷ []) [] rest 0 (pass_any home_widths (vol ∷ number ∷ []) fit) refl)

module _ (page bytes : List ℕ) (b : ℕ) (fits : b + length bytes ≤ length page) where
  front : length (take b page) ≡ b
  front = omega (arith, length-take b page, fits)

  piece_there : (w o a : ℕ) → o + w ≤ length bytes → a ≡ b + o → number_at w a (overwritten page b bytes) ≡ number_at w o bytes
  unfolding number_at
  piece_there w o a le is =
      let rest = drop (b + length bytes) page in
      ap (λ n. little_number w (drop n (overwritten page b bytes))) is
      ∙ little_number-take w (drop (b + o) (overwritten page b bytes)) (drop o bytes)
      (ap (take w) (sym (drop-drop o b (overwritten page b bytes))) ∙ ap (λ bs. take w (drop o (drop b bs))) (append_assoc (take b page) bytes rest)
      ∙ ap (λ bs. take w (drop o bs)) (drop_at (take b page) (bytes ++ rest) b front)
      ∙ ap (take w) (drop-append-le o bytes rest (omega (arith, le)))
      ∙ take-append-le w (drop o bytes) rest (omega (arith, le, length-drop o bytes)))

module _ (page bytes : List ℕ) (len : length bytes ≡ 8) (whole : length page ≡ 8192) where
  abbrev end : List ℕ
  end = overwritten page 8 bytes

  room : 8 + length bytes ≤ length page
  room = omega (arith, whole, len)

  before : (w a : ℕ) → a + w ≤ 8 → number_at w a end ≡ number_at w a page
  before w a le = number-same w a end page (part_before page bytes 8 room a w le)

  behind : (w a : ℕ) → 16 ≤ a → number_at w a end ≡ number_at w a page
  behind w a le = number-same w a end page (ap (take w) (rest_after page bytes 8 room a (omega (arith, le, len))))

  index_still : index_of end ≡ index_of page
  index_still = before 4 4 (omega arith)

  entry_still : (e : ℕ) → entry_of end e ≡ entry_of page e
  entry_still e = λ i. record {
    seq = behind 2 (16 + 8 * e) (omega arith) i;
    at = cond (nat_eq (behind 1 (18 + 8 * e) (omega arith) i) 0) None
        (Some (record { vol = behind 1 (18 + 8 * e) (omega arith) i; page = behind 4 (20 + 8 * e) (omega arith) i; cell = behind 1 (19 + 8 * e) (omega arith) i }));
  }

  vol_there : number_at 4 8 end ≡ number_at 4 0 bytes
  vol_there = piece_there page bytes 8 room 4 0 8 (omega (arith, len)) refl

  page_there : number_at 4 12 end ≡ number_at 4 4 bytes
  page_there = piece_there page bytes 8 room 4 4 12 (omega (arith, len)) refl

  good_still : IsTagPage page → number_at 4 0 bytes ≤ 8 → IsTagPage end
  good_still was most = record {
    whole = long_still page bytes 8 room ∙ was.whole;
    magic = before 4 0 (omega arith) ∙ was.magic;
    index = subst (λ n. n < 4202512) (sym index_still) was.index;
    next = subst (λ n. n ≤ 8) (sym vol_there) most;
    spelled = λ e below. subst (λ at. IsAddress (number_at 1 (18 + 8 * e) end) (number_at 1 (19 + 8 * e) end) (number_at 4 (20 + 8 * e) end) at) (sym (ap (λ (x : TagEntry). x.at) (entry_still e)))
        (address_same (number_at 1 (18 + 8 * e) page) (number_at 1 (18 + 8 * e) end) (number_at 1 (19 + 8 * e) page) (number_at 1 (19 + 8 * e) end) (number_at 4 (20 + 8 * e) page) (number_at 4 (20 + 8 * e) end) (cell_in page e)
        (behind 1 (18 + 8 * e) (omega arith)) (behind 1 (19 + 8 * e) (omega arith)) (behind 4 (20 + 8 * e) (omega arith)) (was.spelled e below));
    entries = λ e below. subst (λ n. IsAllowed (1022 * n + e) (entry_of end e)) (sym index_still) (subst (IsAllowed (slot_of page e)) (sym (entry_still e)) (was.entries e below));
  }

  pub ended : number_at 4 0 bytes ≡ 0 → EndsPage page end
  ended none = record {
    next = ap (λ n. cond (nat_eq n 0) None (Some (record { vol = number_at 4 8 end; page = number_at 4 12 end }))) (vol_there ∙ none);
    index = index_still;
    entries = entry_still;
    good = λ was. good_still was (subst (λ n. n ≤ 8) (sym none) (omega arith));
  }

-- eight zeros name no volume
pub zeros_name_none : number_at 4 0 (0 ∷ 0 ∷ 0 ∷ 0 ∷ 0 ∷ 0 ∷ 0 ∷ 0 ∷ []) ≡ 0
unfolding number_at
zeros_name_none = refl

module _ (page bytes : List ℕ) (home : Home) (len : length bytes ≡ 8) (vol : number_at 4 0 bytes ≡ home.vol) (number : number_at 4 4 bytes ≡ home.page) (least : 1 ≤ home.vol) (most : home.vol ≤ 8) (was : IsTagPage page) where
  abbrev now : List ℕ
  now = overwritten page 8 bytes

  vol_is : number_at 4 8 now ≡ home.vol
  vol_is = vol_there page bytes len was.whole ∙ vol

  page_is : number_at 4 12 now ≡ home.page
  page_is = page_there page bytes len was.whole ∙ number

  next_is : next_of now ≡ Some home
  next_is = by_test (nat_eq (number_at 4 8 now) 0) refl
    where
      some : 1 ≤ home.vol → home.vol ≡ 0 → ⊥
      some le none = omega (arith, le, none)

      by_test : (b : Bool) → nat_eq (number_at 4 8 now) 0 ≡ b → next_of now ≡ Some home
      by_test true is = absurd (some least (sym vol_is ∙ eqb-true (number_at 4 8 now) 0 is))
      by_test false is = ap (λ b. cond b None (Some (record { vol = number_at 4 8 now; page = number_at 4 12 now }))) is ∙ (λ i. Some (record { vol = vol_is i; page = page_is i }))

  pub linked : LinksPage home page now
  linked = record {
    next = next_is;
    index = index_still page bytes len was.whole;
    entries = entry_still page bytes len was.whole;
    good = good_still page bytes len was.whole was (subst (λ n. n ≤ 8) (sym vol) most);
  }
