use Rattle.std.proofs.Common.{◌≡◌, ℕ, ◌-◌, ◌<◌}
use Rattle.free_space.specs.Spaces.{CanTake}
use Rattle.free_space.proofs.spaces.FreeSpace.allocate_anywhere.Given as goal

abbrev pub invariant-loop-index : goal.invariant-loop-index
invariant-loop-index l = (l.self ≡ l.initial.self) × ((vol p : ℕ) → vol - 1 < l.index → ¬ CanTake l.self vol p)
