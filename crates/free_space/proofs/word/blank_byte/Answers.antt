use Rattle.std.proofs.Common.{◌≡◌, ℕ, ◌+◌, ◌-◌, ◌*◌, ◌^◌, ◌%◌, ◌<◌, nat_eq, nat_le, sym, ap, ◌∙◌, arith, ⊎_elim}
use Rattle.std.proofs.lemmas.Bool.{cases_lt, le-leb, lt-leb}
use Rattle.std.proofs.lemmas.Nat.Bits.{ones_shl, bit_at_mask_inside, bit_at_mask_below}
use Rattle.std.specs.Int.{bit_at}
use Rattle.free_space.proofs.word.blank_byte.Goals as goal

-- the ones begin after the volume's own pages
ones_from : (pages k own i : ℕ) → own ≡ pages - 8 * k → own < 8 → i < 8 → nat_eq (bit_at (255 * 2 ^ own % 256) i) 1 ≡ nat_le pages (8 * k + i)
ones_from pages k own i is small within =
    ap (λ n. nat_eq (bit_at n i) 1) (ones_shl 8 own (omega arith))
    ∙ ⊎_elim (λ below. ap (λ b. nat_eq b 1) (bit_at_mask_below own 8 i below) ∙ sym (lt-leb pages (8 * k + i) (omega arith)))
    (λ above. ap (λ b. nat_eq b 1) (bit_at_mask_inside own 8 i above within) ∙ sym (le-leb pages (8 * k + i) (omega arith)))
    (cases_lt i own)

pub returns-then-own-lt8 : goal.returns-then-own-lt8
returns-then-own-lt8 c i within = ones_from c.args.pages c.args.k c.saturating_sub-own.result i c.saturating_sub-own.ensures (omega arith) within
