use Rattle.std.proofs.Common.{ℕ, ◌∙◌, sym}
use mathlib.Core.Bool.{false≢true}
use borrow.Author.Count.{below_more}
use Rattle.sorted_sets.specs.SpanMembers.{HasNumber}
use Rattle.free_space.specs.CheckBits.{IsWrongBit}
use Rattle.free_space.proofs.bits.is_wrong_page.Goals as goal

pub loop-bit-preserved : goal.loop-bit-preserved
loop-bit-preserved c =
    below_more (λ (k : ℕ). ¬ IsWrongBit c.args.page.now (HasNumber c.args.owned.now) c.args.pages c.args.first k) c.loop-bit.bit c.loop-bit.invariant
    (λ wrong. false≢true (sym c.if-is_wrong_bit.false ∙ c.is_wrong_bit.ensures.1 wrong))
