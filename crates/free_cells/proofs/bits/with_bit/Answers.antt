use Rattle.std.proofs.Common.{◌∙◌, nat_eq, sym, ap}
use Rattle.std.proofs.lemmas.Nat.Bits.{bit_at_set_same, bit_at_set_other, bit_at_clear_same, bit_at_clear_other}
use Rattle.std.specs.Int.{w8}
use Rattle.free_cells.proofs.bits.with_bit.Goals as goal

pub returns-then-is_one-clause-here : goal.returns-then-is_one-clause-here
returns-then-is_one-clause-here c = ap (λ b. nat_eq b 1) (bit_at_set_same w8 c.args.byte c.args.bit c.requires) ∙ sym c.if-is_one.true

pub returns-then-is_one-clause-others : goal.returns-then-is_one-clause-others
returns-then-is_one-clause-others c i low apart = bit_at_set_other w8 c.args.byte c.args.bit c.requires i apart

pub returns-else-is_one-clause-here : goal.returns-else-is_one-clause-here
returns-else-is_one-clause-here c = ap (λ b. nat_eq b 1) (bit_at_clear_same w8 c.args.byte c.args.bit c.requires) ∙ sym c.if-is_one.false

pub returns-else-is_one-clause-others : goal.returns-else-is_one-clause-others
returns-else-is_one-clause-others c i low apart = bit_at_clear_other w8 c.args.byte c.args.bit c.requires i low apart
