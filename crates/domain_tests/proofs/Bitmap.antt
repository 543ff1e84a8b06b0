-- The bitmap of a volume of 512 pages. The first 128 are used, and some of the next eight.
use Rattle.std.proofs.Common.{◌≡◌, ◌∙◌, ◌⊎◌, ◌↔◌, inl, inr, ℕ, zero, suc, ◌+◌, ◌-◌, ◌/◌, ◌%◌, ◌<◌, ◌≤◌, true, false, nat_eq, nat_lt, List, ◌∷◌, ◌++◌, length, slice_index, refl, sym, ap, arith, ⊎_elim}
use Rattle.std.proofs.lemmas.Bool.{both_ways, cases_lt, cases_order, lt-ltb, ltb-true}
use Rattle.std.proofs.lemmas.List.{get_or-append_right, length-replicate}
use Rattle.std.specs.Int.{bit_at}
use Rattle.domain_making.specs.domain_base.Page.{length-zero_bytes, zero_bytes}
use Rattle.domain_making.specs.free_space.Bits.{is_set}
use Rattle.domain_tests.specs.Written.{bitmap_with, full_bytes}

-- ---- bytes

pub length-full : (n : ℕ) → length (full_bytes n) ≡ n
unfolding full_bytes
length-full n = length-replicate n 255

full_left : (n i : ℕ) (rest : List ℕ) → i < n → slice_index (full_bytes n ++ rest) i ≡ 255
unfolding full_bytes
full_left zero i rest within = absurd (omega (arith, within))
full_left (suc n) zero rest within = refl
full_left (suc n) (suc i) rest within = full_left n i rest (omega (arith, within))

full_at : (n i : ℕ) → i < n → slice_index (full_bytes n) i ≡ 255
unfolding full_bytes
full_at zero i within = absurd (omega (arith, within))
full_at (suc n) zero within = refl
full_at (suc n) (suc i) within = full_at n i (omega (arith, within))

zero_left : (n i : ℕ) (rest : List ℕ) → i < n → slice_index (zero_bytes n ++ rest) i ≡ 0
unfolding zero_bytes
zero_left zero i rest within = absurd (omega (arith, within))
zero_left (suc n) zero rest within = refl
zero_left (suc n) (suc i) rest within = zero_left n i rest (omega (arith, within))

-- ---- bits

eight : (P : ℕ → Type 0) (k : ℕ) → k < 8 → P 0 → P 1 → P 2 → P 3 → P 4 → P 5 → P 6 → P 7 → P k
eight P zero within a b c d e f g h = a
eight P (suc zero) within a b c d e f g h = b
eight P (suc (suc zero)) within a b c d e f g h = c
eight P (suc (suc (suc zero))) within a b c d e f g h = d
eight P (suc (suc (suc (suc zero)))) within a b c d e f g h = e
eight P (suc (suc (suc (suc (suc zero))))) within a b c d e f g h = f
eight P (suc (suc (suc (suc (suc (suc zero)))))) within a b c d e f g h = g
eight P (suc (suc (suc (suc (suc (suc (suc zero))))))) within a b c d e f g h = h
eight P (suc (suc (suc (suc (suc (suc (suc (suc k)))))))) within a b c d e f g h = absurd (omega (arith, within))

full_bit : (k : ℕ) → k < 8 → nat_eq (bit_at 255 k) 1 ≡ true
full_bit k within = eight (λ k. nat_eq (bit_at 255 k) 1 ≡ true) k within refl refl refl refl refl refl refl refl

empty_bit : (k : ℕ) → k < 8 → nat_eq (bit_at 0 k) 1 ≡ false
empty_bit k within = eight (λ k. nat_eq (bit_at 0 k) 1 ≡ false) k within refl refl refl refl refl refl refl refl

pub five_bits : (k : ℕ) → k < 8 → nat_eq (bit_at 31 k) 1 ≡ nat_lt k 5
five_bits k within = eight (λ k. nat_eq (bit_at 31 k) 1 ≡ nat_lt k 5) k within refl refl refl refl refl refl refl refl

pub six_bits : (k : ℕ) → k < 8 → nat_eq (bit_at 63 k) 1 ≡ nat_lt k 6
six_bits k within = eight (λ k. nat_eq (bit_at 63 k) 1 ≡ nat_lt k 6) k within refl refl refl refl refl refl refl refl

module _ (part count : ℕ) (part_bit : (k : ℕ) → k < 8 → nat_eq (bit_at part k) 1 ≡ nat_lt k count) (few : count ≤ 8) where
  abbrev behind : List ℕ
  behind = part ∷ (zero_bytes 47 ++ full_bytes 8128)

  past : (i : ℕ) → 16 ≤ i → slice_index (bitmap_with part) i ≡ slice_index behind (i - 16)
  past i far = get_or-append_right (full_bytes 16) behind 16 i 0 (length-full 16) far

  byte_used : (i : ℕ) → i < 16 → slice_index (bitmap_with part) i ≡ 255
  byte_used i within = full_left 16 i behind within

  byte_part : (i : ℕ) → i ≡ 16 → slice_index (bitmap_with part) i ≡ part
  byte_part i same = ap (slice_index (bitmap_with part)) same ∙ past 16 (omega arith)

  further : (i : ℕ) → 16 < i → slice_index (bitmap_with part) i ≡ slice_index (zero_bytes 47 ++ full_bytes 8128) (i - 17)
  further i far = let e : i - 16 ≡ suc (i - 17) = omega arith in past i (omega (arith, far)) ∙ ap (slice_index behind) e

  byte_free : (i : ℕ) → 16 < i → i < 64 → slice_index (bitmap_with part) i ≡ 0
  byte_free i far within = further i far ∙ zero_left 47 (i - 17) (full_bytes 8128) (omega (arith, far, within))

  byte_past : (i : ℕ) → 64 ≤ i → i < 8192 → slice_index (bitmap_with part) i ≡ 255
  byte_past i far within =
      further i (omega (arith, far))
      ∙ get_or-append_right (zero_bytes 47) (full_bytes 8128) 47 (i - 17) 0 (length-zero_bytes 47) (omega (arith, far))
      ∙ full_at 8128 (i - 17 - 47) (omega (arith, far, within))

  set_by : (bit byte : ℕ) → slice_index (bitmap_with part) (bit / 8) ≡ byte → is_set (bitmap_with part) bit ≡ nat_eq (bit_at byte (bit % 8)) 1
  unfolding is_set
  set_by bit byte there = ap (λ b. nat_eq (bit_at b (bit % 8)) 1) there

  abbrev Says : ℕ → Type 0
  Says bit = (is_set (bitmap_with part) bit ≡ true) ↔ ((bit < 128 + count) ⊎ (512 ≤ bit))

  says_part : (bit : ℕ) → bit / 8 ≡ 16 → Says bit
  says_part bit same =
      let within : bit % 8 < 8 = omega arith in
      let is = set_by bit part (byte_part (bit / 8) same) ∙ part_bit (bit % 8) within in (
        (λ set. let below : bit % 8 < count = ltb-true (bit % 8) count (sym is ∙ set) in inl (omega (arith, same, below))),
        (λ either. is ∙ lt-ltb (bit % 8) count (⊎_elim (λ low. omega (arith, same, low)) (λ high. absurd (omega (arith, same, high))) either)),
      )

  says_used : (bit : ℕ) → bit / 8 < 16 → Says bit
  says_used bit low =
      let within : bit % 8 < 8 = omega arith in
      let is = set_by bit 255 (byte_used (bit / 8) low) ∙ full_bit (bit % 8) within in
      ((λ set. inl (omega (arith, low))), (λ either. is))

  says_free : (bit : ℕ) → 16 < bit / 8 → bit / 8 < 64 → Says bit
  says_free bit far low =
      let within : bit % 8 < 8 = omega arith in
      let is = set_by bit 0 (byte_free (bit / 8) far low) ∙ empty_bit (bit % 8) within in (
        (λ set. absurd (both_ways (is_set (bitmap_with part) bit) is set)),
        (λ either. absurd (⊎_elim (λ small. omega (arith, far, small, few)) (λ large. omega (arith, low, large)) either)),
      )

  says_past : (bit : ℕ) → 64 ≤ bit / 8 → bit < 65536 → Says bit
  says_past bit far small =
      let within : bit % 8 < 8 = omega arith in
      let is = set_by bit 255 (byte_past (bit / 8) far (omega (arith, small))) ∙ full_bit (bit % 8) within in
      ((λ set. inr (omega (arith, far))), (λ either. is))

  pub bits_are : (bit : ℕ) → bit < 65536 → (is_set (bitmap_with part) bit ≡ true) ↔ ((bit < 128 + count) ⊎ (512 ≤ bit))
  bits_are bit small =
      ⊎_elim (says_part bit)
      (λ other. ⊎_elim (says_used bit)
      (λ more. ⊎_elim (says_free bit more) (λ far. says_past bit far small) (cases_lt (bit / 8) 64)) other)
      (cases_order (bit / 8) 16)
