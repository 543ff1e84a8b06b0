use Rattle.std.proofs.Common.{◌≡◌, ℕ, ◌+◌, ◌*◌, ◌/◌, ◌%◌, ◌<◌, List, get_or, nat_eq, sym, ap, ◌∙◌, arith, add-zero}
use Rattle.std.specs.Int.{bit_at, byte_worth, sum_through}
use Rattle.free_space.specs.Bits.{is_set}
use Rattle.free_space.proofs.Words.{bit_at-sum}
use Rattle.free_space.proofs.word.word_at.Goals as goal

-- the bits of the eight bytes of word k
reads : (bytes : List ℕ) (k n : ℕ) → ((i : ℕ) → get_or bytes i 0 < 256) → n ≡ sum_through (λ j. byte_worth j (get_or bytes (8 * k + j) 0)) 7 →
    (i : ℕ) → i < 64 → nat_eq (bit_at n i) 1 ≡ is_set bytes (64 * k + i)
unfolding is_set
reads bytes k n small is i within =
    let whole : (64 * k + i) / 8 ≡ 8 * k + i / 8 = omega arith in
    let left : (64 * k + i) % 8 ≡ i % 8 = omega arith in
    ap (λ x. nat_eq (bit_at x i) 1) is
    ∙ ap (λ b. nat_eq b 1) (bit_at-sum (λ j. get_or bytes (8 * k + j) 0) (λ j. small (8 * k + j)) 7 i within)
    ∙ sym ((λ x. nat_eq (bit_at (get_or bytes (whole x) 0) (left x)) 1))

pub returns : goal.returns
returns c =
    let small : (i : ℕ) → get_or c.args.bytes.now i 0 < 256 = λ i. omega (arith, c.type_inv.bytes i) in
    let is : c.from_le_bytes.result ≡ sum_through (λ j. byte_worth j (get_or c.args.bytes.now (8 * c.args.k + j) 0)) 7 = rw add-zero c.from_le_bytes.ensures in
    reads c.args.bytes.now c.args.k c.from_le_bytes.result small is
