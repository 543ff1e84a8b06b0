-- The bits of a word that is read from eight bytes, and of a byte as a bitmap has it at first.
use Rattle.std.proofs.Common.{◌≡◌, ℕ, zero, suc, ◌+◌, ◌-◌, ◌*◌, ◌/◌, ◌%◌, ◌^◌, ◌<◌, refl, sym, ◌∙◌, ap, subst, arith, ⊎_elim, add_comm}
use Rattle.std.proofs.Math.Nat.{pow-suc}
use Rattle.std.proofs.lemmas.Bool.{cases_lt}
use Rattle.std.proofs.lemmas.Nat.{pow-add, mul-add-lt}
use Rattle.std.proofs.lemmas.Nat.Bits.{bit_at_cat_low, bit_at_cat_high}
use Rattle.std.specs.Int.{bit_at, byte_worth, sum_through}

pow256 : (k : ℕ) → 256 ^ k ≡ 2 ^ (8 * k)
pow256 zero = refl
pow256 (suc k) =
    let more : 8 * suc k ≡ 8 * k + 8 = omega arith in
    pow-suc 256 k ∙ ap (λ x. x * 256) (pow256 k) ∙ sym (ap (λ e. 2 ^ e) more ∙ pow-add 2 (8 * k) 8)

-- a byte's worth, as the power of two that it is multiplied by
worth_is : (i b : ℕ) → byte_worth i b ≡ b * 2 ^ (8 * i)
worth_is zero b = omega arith
worth_is (suc i) b = ap (λ x. b * x) (pow256 (suc i))

-- the number grows by one byte
next_byte : (byte : ℕ → ℕ) (j : ℕ) →
    sum_through (λ i. byte_worth i (byte i)) (suc j) ≡ byte (suc j) * 2 ^ (8 * suc j) + sum_through (λ i. byte_worth i (byte i)) j
next_byte byte j = add_comm _ _ ∙ ap (λ x. x + sum_through (λ i. byte_worth i (byte i)) j) (worth_is (suc j) (byte (suc j)))

pub sum_below : (byte : ℕ → ℕ) → ((i : ℕ) → byte i < 256) → (j : ℕ) → sum_through (λ i. byte_worth i (byte i)) j < 2 ^ (8 * suc j)
sum_below byte small zero = small 0
sum_below byte small (suc j) =
    let more : 8 * suc (suc j) ≡ 8 * suc j + 8 = omega arith in
    subst (λ x. x < 2 ^ (8 * suc (suc j))) (sym (next_byte byte j))
    (subst (λ e. byte (suc j) * 2 ^ (8 * suc j) + sum_through (λ i. byte_worth i (byte i)) j < 2 ^ e) (sym more)
    (subst (λ x. byte (suc j) * 2 ^ (8 * suc j) + sum_through (λ i. byte_worth i (byte i)) j < x) (sym (pow-add 2 (8 * suc j) 8))
    (mul-add-lt (byte (suc j)) (2 ^ (8 * suc j)) (sum_through (λ i. byte_worth i (byte i)) j) 256 (small (suc j)) (sum_below byte small j))))

-- bit i of the number that the bytes up to byte j make is bit i mod 8 of byte i / 8
pub bit_at-sum : (byte : ℕ → ℕ) → ((i : ℕ) → byte i < 256) → (j i : ℕ) → i < 8 * suc j →
    bit_at (sum_through (λ i. byte_worth i (byte i)) j) i ≡ bit_at (byte (i / 8)) (i % 8)
bit_at-sum byte small zero i within =
    let whole : i / 8 ≡ 0 = omega arith in
    let left : i % 8 ≡ i = omega arith in
    sym ((λ x. bit_at (byte (whole x)) (left x)))
bit_at-sum byte small (suc j) i within =
    ap (λ n. bit_at n i) (next_byte byte j)
    ∙ ⊎_elim (λ low. bit_at_cat_low (byte (suc j)) (8 * suc j) (sum_through (λ i. byte_worth i (byte i)) j) i low ∙ bit_at-sum byte small j i low)
    (λ high.
    let whole : i / 8 ≡ suc j = omega arith in
    let left : i % 8 ≡ i - 8 * suc j = omega arith in
    bit_at_cat_high (byte (suc j)) (8 * suc j) (sum_through (λ i. byte_worth i (byte i)) j) i (sum_below byte small j) high
    ∙ sym ((λ x. bit_at (byte (whole x)) (left x))))
    (cases_lt i (8 * suc j))
