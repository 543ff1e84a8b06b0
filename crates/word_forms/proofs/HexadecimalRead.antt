-- Hexadecimal digits are read back, and what they are not.
use Rattle.std.proofs.Common.{◌≡◌, ℕ, ◌+◌, ◌*◌, ◌/◌, ◌%◌, ◌<◌, ◌≤◌, false, Some, ap, arith, ◌⊎◌}
use Rattle.std.specs.Fmt.{digit_glyph}
use Rattle.std.proofs.lemmas.Bool.Decides.{nat_tests}
use Rattle.word_forms.specs.Forms.{byte_of, hexadecimal_digit}

digit_read : (d : ℕ) → d < 16 → hexadecimal_digit (digit_glyph false d) ≡ Some d
digit_read d small = grind (arith, nat_tests)

-- a digit is from `0` to `9` or from `a` to `f`
pub digit_range : (d : ℕ) → d < 16 → ((48 ≤ digit_glyph false d) × (digit_glyph false d ≤ 57)) ⊎ ((97 ≤ digit_glyph false d) × (digit_glyph false d ≤ 102))
digit_range d small = grind (arith, nat_tests)

pub high_small : (b : ℕ) → b < 256 → b / 16 < 16
high_small b small = omega arith

pub low_small : (b : ℕ) → b % 16 < 16
low_small b = omega arith

pub byte_read : (b : ℕ) → b < 256 → byte_of (digit_glyph false (b / 16)) (digit_glyph false (b % 16)) ≡ Some b
unfolding byte_of
byte_read b small =
    let whole : b / 16 * 16 + b % 16 ≡ b = omega arith in
    rw (digit_read (b / 16) (high_small b small), digit_read (b % 16) (low_small b)) (ap Some whole)
