-- The number that a word says.
use Rattle.std.proofs.Common.{◌≡◌, ℕ, ◌<◌, ◌^◌, ◌&&◌, cond, leb, sym, Bool, true, false, Option, Some, None, ◌∙◌, Result, Ok, Err, List, length, refl, ap, arith, rules}
use Rattle.std.proofs.lemmas.Bool.Decides.{nat_tests}
use Rattle.std.proofs.lemmas.Str.Parse.{IsNumeralModel, numerals_by_value, parse_digits}
use Rattle.std.specs.Char.{is_ascii_digit}
use Rattle.std.specs.List.{list_all}
use Rattle.std.specs.Result.{OkIff}
use Rattle.std.specs.Str.Parse.{ParsesUnsigned, digits_value}
use Rattle.domain_faults.specs.word_forms.Forms.{number_below}
use Rattle.run_parts.specs.Usage.{are_plain_digits, in_range, asked_pages}

decimals : IsNumeralModel (λ ds. list_all is_ascii_digit ds ≡ true) (digits_value 10)
decimals = numerals_by_value _ (search rules)

and_left : (a b : Bool) → (a && b) ≡ true → a ≡ true
and_left true b is = refl
and_left false b is = is

-- plain digits are digits
digits_of : (word : List ℕ) → are_plain_digits word ≡ true → list_all is_ascii_digit word ≡ true
digits_of word plain = and_left _ _ plain

-- what the parse of digits says is the number that they say
number_below-parsed : {E : Type 0} (word : List ℕ) (r : Result ℕ E) → list_all is_ascii_digit word ≡ true → ParsesUnsigned 32 10 word r
    → OkIff r ((0 < length word) × (digits_value 10 word < 2 ^ 32)) (digits_value 10 word)
number_below-parsed word r digits parsed = parse_digits decimals 32 word r parsed digits

number_below-Some : (word : List ℕ) → list_all is_ascii_digit word ≡ true → 0 < length word → digits_value 10 word < 2 ^ 32
    → number_below (2 ^ 32) word ≡ Some (digits_value 10 word)
unfolding number_below
number_below-Some word digits some small = grind (arith, nat_tests)

number_below-large : (word : List ℕ) → ¬ ((0 < length word) × (digits_value 10 word < 2 ^ 32)) → number_below (2 ^ 32) word ≡ None
unfolding number_below
number_below-large word large = grind (arith, nat_tests)

asked_pages-number : (word : List ℕ) (number : Option ℕ) → are_plain_digits word ≡ true → number_below (2 ^ 32) word ≡ number → asked_pages word ≡ in_range number
asked_pages-number word number plain is = rw plain (ap in_range is)

pub asked_pages-other : (word : List ℕ) → are_plain_digits word ≡ false → asked_pages word ≡ None
asked_pages-other word other = rw other refl

-- the parse of digits, in the range or not
pub asked_pages-parsed : (E : Type 0) (word : List ℕ) (pages : ℕ) → are_plain_digits word ≡ true → ParsesUnsigned {E = E} 32 10 word (Ok pages)
    → asked_pages word ≡ cond (leb 64 pages && leb pages 65_536) (Some pages) None
asked_pages-parsed E word pages plain parsed =
    let digits = digits_of word plain in
    let h = number_below-parsed {E = E} word (Ok pages) digits parsed in
    asked_pages-number word _ plain (number_below-Some word digits h.0.0 h.0.1) ∙ ap (λ n. in_range (Some n)) (sym h.1)

pub asked_pages-unparsed : (E : Type 0) (word : List ℕ) (e : E) → are_plain_digits word ≡ true → ParsesUnsigned {E = E} 32 10 word (Err e) → asked_pages word ≡ None
asked_pages-unparsed E word e plain parsed =
    asked_pages-number word None plain (number_below-large word (number_below-parsed {E = E} word (Err e) (digits_of word plain) parsed))
