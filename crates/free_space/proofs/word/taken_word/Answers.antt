use Rattle.std.proofs.Common.{◌≡◌, ℕ, ◌+◌, ◌-◌, ◌*◌, ◌^◌, ◌%◌, ◌<◌, true, ◌||◌, max, nat_eq, nat_lt, eq-eqb, bit_or, sym, ap, ◌∙◌, arith, ⊎_elim}
use Rattle.std.proofs.lemmas.Bool.{cases_lt, lt-ltb, le-ltb}
use Rattle.std.proofs.lemmas.Nat.{one_shl}
use Rattle.std.proofs.lemmas.Nat.Bits.{bit_at_or, bit_at_ones, bit_at_ones_above, bit_at-lt}
use Rattle.std.specs.Int.{bit_at}
use Rattle.free_space.specs.Walk.{is_taken}
use Rattle.free_space.proofs.word.taken_word.Goals as goal

max_one : (n : ℕ) → n < 2 → nat_eq (max n 1) 1 ≡ true
max_one n small = eq-eqb (max n 1) 1 (omega arith)

max_zero : (n : ℕ) → max n 0 ≡ n
max_zero n = omega arith

-- a bit below `passed` is 1, and one from there on is the word's
masked : (word passed i : ℕ) → passed < 64 → nat_eq (bit_at (bit_or word (1 * 2 ^ passed % 2 ^ 64 - 1)) i) 1 ≡ (nat_lt i passed || nat_eq (bit_at word i) 1)
masked word passed i small =
    ap (λ m. nat_eq (bit_at (bit_or word (m - 1)) i) 1) (one_shl passed 64 small)
    ∙ ap (λ b. nat_eq b 1) (bit_at_or word (2 ^ passed - 1) i)
    ∙ ⊎_elim (λ below. ap (λ b. nat_eq (max (bit_at word i) b) 1) (bit_at_ones passed i below) ∙ max_one (bit_at word i) (bit_at-lt word i)
    ∙ sym (ap (λ b. b || nat_eq (bit_at word i) 1) (lt-ltb i passed below)))
    (λ above. ap (λ b. nat_eq (max (bit_at word i) b) 1) (bit_at_ones_above passed i above) ∙ ap (λ b. nat_eq b 1) (max_zero (bit_at word i))
    ∙ sym (ap (λ b. b || nat_eq (bit_at word i) 1) (le-ltb i passed above)))
    (cases_lt i passed)

-- the page of bit i comes before `from` if and only if the bit is below `passed`
shifted : (k from i passed : ℕ) → passed ≡ from - 64 * k → nat_lt i passed ≡ nat_lt (64 * k + i) from
shifted k from i passed is =
    ⊎_elim (λ below. lt-ltb i passed below ∙ sym (lt-ltb (64 * k + i) from (omega arith)))
    (λ above. le-ltb i passed above ∙ sym (le-ltb (64 * k + i) from (omega arith))) (cases_lt i passed)

pub returns : goal.returns
unfolding is_taken
returns c i within =
    let small : c.saturating_sub-passed.result < 64 = omega arith in
    masked c.word_at.result c.saturating_sub-passed.result i small
    ∙ (λ x. shifted c.args.k c.args.from i c.saturating_sub-passed.result c.saturating_sub-passed.ensures x || c.word_at.ensures i within x)
