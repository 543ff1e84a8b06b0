use Rattle.std.proofs.Common.{◌<◌, ℕ}
use Rattle.domain_changes.specs.domain_memory.Going.{MayEmpty}
use Rattle.release_changes.proofs.emptying.slot_to_empty.Given as goal

-- no slot before it may be emptied
abbrev pub invariant-loop-n : goal.invariant-loop-n
invariant-loop-n l = (number : ℕ) → number < l.n → ¬ MayEmpty l.memory number
