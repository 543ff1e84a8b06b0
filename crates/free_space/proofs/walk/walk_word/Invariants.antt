use Rattle.std.proofs.Common.{◌+◌, ◌-◌, ◌*◌}
use Rattle.free_space.specs.Walk.{is_taken}
use Rattle.free_space.proofs.Walks.{IsPartWalked}
use Rattle.free_space.proofs.walk.walk_word.Given as goal

abbrev pub invariant-loop-rest : goal.invariant-loop-rest
invariant-loop-rest l = IsPartWalked (is_taken l.bytes l.from) l.count l.start l.at (64 * l.k + 64) l.rest

abbrev pub decreases-loop-rest : goal.decreases-loop-rest
decreases-loop-rest l = 64 * l.k + 64 - l.at
