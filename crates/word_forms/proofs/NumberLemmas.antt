-- Numbers in decimal digits.
use Rattle.std.proofs.Common.{◌≡◌, ℕ, suc, zero, ◌+◌, ◌*◌, ◌-◌, ◌<◌, ◌≤◌, Bool, true, false, ◌&&◌, cond, nat_le, nat_lt, Some, None, List, [], ◌∷◌, length, take, get_or, refl, ◌∙◌, arith}
use Rattle.std.specs.List.{list_all}
use Rattle.std.specs.Char.{digit_value, is_ascii_digit}
use Rattle.std.specs.Str.Parse.{digits_value, digits_value_after}
use Rattle.std.proofs.lemmas.Bool.Decides.{nat_tests}
use Rattle.std.proofs.lemmas.List.Folds.{list_all_more}
use Rattle.std.proofs.lemmas.Option.{cond_some}
use Rattle.std.proofs.lemmas.Int.Digits.{digits_value_more}
use Rattle.word_forms.specs.Forms.{number_below}

value_after-ge : (n : ℕ) (ds : List ℕ) → n ≤ digits_value_after 10 n ds
value_after-ge n [] = omega arith
value_after-ge n (d ∷ ds) = omega (arith, value_after-ge (n * 10 + digit_value d) ds)

value_after-take : (i n : ℕ) (ds : List ℕ) → digits_value_after 10 n (take i ds) ≤ digits_value_after 10 n ds
value_after-take zero n ds = value_after-ge n ds
value_after-take (suc i) n [] = omega arith
value_after-take (suc i) n (d ∷ ds) = value_after-take i (n * 10 + digit_value d) ds

-- digits that follow make no number smaller
pub value-take : (i : ℕ) (ds : List ℕ) → digits_value 10 (take i ds) ≤ digits_value 10 ds
value-take i ds = value_after-take i 0 ds

pub number-some : (limit : ℕ) (word : List ℕ) → 0 < length word → list_all is_ascii_digit word ≡ true → digits_value 10 word < limit → number_below limit word ≡ Some (digits_value 10 word)
unfolding number_below
number-some limit word some digits small =
    let a : nat_le 1 (length word) ≡ true = grind (arith, nat_tests) in
    let b : nat_lt (digits_value 10 word) limit ≡ true = grind (arith, nat_tests) in
    rw (a, digits, b) refl

pub number-empty : (limit : ℕ) (word : List ℕ) → length word ≡ 0 → number_below limit word ≡ None
unfolding number_below
number-empty limit word none =
    let a : nat_le 1 (length word) ≡ false = grind (arith, nat_tests) in
    rw a refl

pub number-other : (limit : ℕ) (word : List ℕ) → list_all is_ascii_digit word ≡ false → number_below limit word ≡ None
unfolding number_below
number-other limit word other = go (nat_le 1 (length word))
  where
    go : (a : Bool) → cond (a && list_all is_ascii_digit word && nat_lt (digits_value 10 word) limit) (Some (digits_value 10 word)) None ≡ None
    go true = rw other refl
    go false = refl

pub number-large : (limit : ℕ) (word : List ℕ) → limit ≤ digits_value 10 word → number_below limit word ≡ None
unfolding number_below
number-large limit word large = go (nat_le 1 (length word) && list_all is_ascii_digit word)
  where
    go : (a : Bool) → cond (a && nat_lt (digits_value 10 word) limit) (Some (digits_value 10 word)) None ≡ None
    go true = let b : nat_lt (digits_value 10 word) limit ≡ false = grind (arith, nat_tests) in rw b refl
    go false = refl

-- one digit more
pub digits-step : (word : List ℕ) (i n d : ℕ) → i < length word → list_all is_ascii_digit (take i word) ≡ true → is_ascii_digit (get_or word i 0) ≡ true → n ≡ digits_value 10 (take i word) → d ≡ get_or word i 0 - 48 →
    (list_all is_ascii_digit (take (i + 1) word) ≡ true) × (n * 10 + d ≡ digits_value 10 (take (i + 1) word))
digits-step word i n d within digits here value digit =
    let is : digit_value (get_or word i 0) ≡ get_or word i 0 - 48 = grind (arith, nat_tests) in (
      rw (list_all_more is_ascii_digit word i 0 within, digits, here) refl,
      rw (digits_value_more 10 word i within, is, value, digit) refl,
    )

-- a number that is too large already stays so
pub number-passed : (limit : ℕ) (word : List ℕ) (i m : ℕ) → m ≡ digits_value 10 (take i word) → limit ≤ m → number_below limit word ≡ None
number-passed limit word i m e large = number-large limit word (omega (arith, value-take i word))

-- below a smaller limit
less-cases : (a : Bool) (low high v n : ℕ) → cond (a && nat_lt v high) (Some v) None ≡ Some n → cond (a && nat_lt v low) (Some v) None ≡ cond (nat_lt n low) (Some n) None
less-cases true low high v n e = let same : v ≡ n = (cond_some (nat_lt v high) v n e).1 in rw same refl
less-cases false low high v n e = cc

pub number-less : (low high : ℕ) (word : List ℕ) (n : ℕ) → number_below high word ≡ Some n → number_below low word ≡ cond (nat_lt n low) (Some n) None
unfolding number_below
number-less low high word n e = less-cases (nat_le 1 (length word) && list_all is_ascii_digit word) low high (digits_value 10 word) n e

none-cases : (a b : Bool) (low high v : ℕ) → low ≤ high → nat_lt v low ≡ b → cond (a && nat_lt v high) (Some v) None ≡ None → cond (a && b) (Some v) None ≡ None
none-cases true true low high v within t e =
    let h : nat_lt v high ≡ true = grind (arith, nat_tests) in
    let g : cond true (Some v) None ≡ None = rw (h) at e in cc
none-cases true false low high v within t e = refl
none-cases false b low high v within t e = refl

pub number-none : (low high : ℕ) (word : List ℕ) → low ≤ high → number_below high word ≡ None → number_below low word ≡ None
unfolding number_below
number-none low high word within e =
    none-cases (nat_le 1 (length word) && list_all is_ascii_digit word) (nat_lt (digits_value 10 word) low) low high (digits_value 10 word) within refl e

pub number-fits : (low high : ℕ) (word : List ℕ) (n : ℕ) → number_below high word ≡ Some n → n < low → number_below low word ≡ Some n
number-fits low high word n e small =
    let t : nat_lt n low ≡ true = grind (arith, nat_tests) in
    number-less low high word n e ∙ rw t refl

pub number-passes : (low high : ℕ) (word : List ℕ) (n : ℕ) → number_below high word ≡ Some n → low ≤ n → number_below low word ≡ None
number-passes low high word n e large =
    let t : nat_lt n low ≡ false = grind (arith, nat_tests) in
    number-less low high word n e ∙ rw t refl
