-- Numbers in decimal digits are read back.
use Rattle.std.proofs.Common.{◌≡◌, ℕ, ◌<◌, ◌≤◌, ◌^◌, true, not, eqb, leb, Some, decimal, refl, ap, ◌∙◌, arith, rules}
use Rattle.std.specs.List.{list_all}
use Rattle.std.specs.Char.{is_ascii_digit}
use Rattle.std.specs.Str.Parse.{digits_value}
use Rattle.std.proofs.lemmas.Bool.Decides.{nat_tests}
use Rattle.std.proofs.lemmas.Fmt.{decimal_nonempty, digits_decimal, digits_value-decimal}
use Rattle.std.proofs.lemmas.Str.Parse.{IsNumeralModel, numerals_by_value}
use Rattle.word_forms.specs.Forms.{number_below, number_within}
use Rattle.word_forms.proofs.NumberLemmas.{number-some}
use Rattle.word_forms.proofs.Cuts.{lacks, weaker}

decimals : IsNumeralModel (λ ds. list_all is_ascii_digit ds ≡ true) (digits_value 10)
decimals = numerals_by_value _ (search rules)

pub number_read : (limit n : ℕ) → n < limit → n < 2 ^ 64 → number_below limit (decimal n) ≡ Some n
number_read limit n small fits =
    let value : digits_value 10 (decimal n) ≡ n = digits_value-decimal decimals n fits in
    number-some limit (decimal n) (decimal_nonempty n fits) (digits_decimal decimals n fits) (rw value small) ∙ ap Some value

pub small_read : (n : ℕ) → n < 2 ^ 32 → number_below (2 ^ 32) (decimal n) ≡ Some n
small_read n small = number_read (2 ^ 32) n small (omega arith)

pub large_read : (n : ℕ) → n < 2 ^ 64 → number_below (2 ^ 64) (decimal n) ≡ Some n
large_read n small = number_read (2 ^ 64) n small small

pub within_read : (least most n : ℕ) → least ≤ n → n ≤ most → most < 2 ^ 32 → number_within least most (decimal n) ≡ Some n
unfolding number_within
within_read least most n low high small =
    let a : leb least n ≡ true = grind (arith, nat_tests) in
    let b : leb n most ≡ true = grind (arith, nat_tests) in
    rw (small_read n (omega arith), a, b) refl

-- no digit is this byte
pub number_lacks : (c n : ℕ) → n < 2 ^ 64 → c < 48 → lacks c (decimal n) ≡ true
number_lacks c n fits other =
    weaker is_ascii_digit (λ b. not (eqb b c)) (λ b e. grind (arith, nat_tests)) (decimal n) (digits_decimal decimals n fits)

pub number_lacks_past : (c n : ℕ) → n < 2 ^ 64 → 57 < c → lacks c (decimal n) ≡ true
number_lacks_past c n fits other =
    weaker is_ascii_digit (λ b. not (eqb b c)) (λ b e. grind (arith, nat_tests)) (decimal n) (digits_decimal decimals n fits)
