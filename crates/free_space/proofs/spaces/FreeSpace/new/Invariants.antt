use Rattle.std.proofs.Common.{◌≡◌, replicate, None}
use Rattle.free_space.proofs.spaces.FreeSpace.new.Given as goal

abbrev pub invariant-loop : goal.invariant-loop
invariant-loop l = l.volumes.items ≡ replicate l.counter None
