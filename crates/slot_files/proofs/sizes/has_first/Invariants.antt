use Rattle.std.proofs.Common.{ℕ, ◌<◌}
use Rattle.slot_files.proofs.SaidSizes.{IsRightAt}
use Rattle.slot_files.proofs.sizes.has_first.Given as goal

abbrev pub invariant-loop-page : goal.invariant-loop-page
invariant-loop-page l = (p : ℕ) → p < l.page → IsRightAt l.homes l.count p
