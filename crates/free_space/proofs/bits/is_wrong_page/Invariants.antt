use Rattle.std.proofs.Common.{ℕ, ◌<◌}
use Rattle.sorted_sets.specs.SpanMembers.{HasNumber}
use Rattle.free_space.specs.CheckBits.{IsWrongBit}
use Rattle.free_space.proofs.bits.is_wrong_page.Given as goal

abbrev pub invariant-loop-bit : goal.invariant-loop-bit
invariant-loop-bit l = (k : ℕ) → k < l.bit → ¬ IsWrongBit l.page (HasNumber l.owned) l.pages l.first k
