use Rattle.std.proofs.Common.{◌+◌, ◌*◌, ◌<◌}
use Rattle.free_space.specs.Walk.{is_taken, IsWalked}
use Rattle.free_space.proofs.walk.first_run.Given as goal

abbrev pub invariant-loop-k : goal.invariant-loop-k
invariant-loop-k l = IsWalked (is_taken l.bytes l.from) l.count l.start (64 * l.k) × (64 * l.k < l.start + l.count)
