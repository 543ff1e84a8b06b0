use Rattle.std.proofs.Common.{ℕ, ◌<◌}
use Rattle.attached_domain.specs.Signs.{IsSaidIn}
use Rattle.attached_domain.proofs.tags.some_slot_says.Given as goal

abbrev pub invariant-loop-number : goal.invariant-loop-number
invariant-loop-number g l = (k : ℕ) → k < l.number → ¬ IsSaidIn (g.M.MetaPages.pages l.pages) l.sign l.tables k
