use Rattle.std.proofs.Common.{◌≡◌, ◌*◌, ◌^◌, ◌≤◌, take, sum_by}
use Rattle.free_space.specs.Spaces.{waiting_pages}
use Rattle.free_space.proofs.spaces.FreeSpace.waiting.Given as goal

abbrev pub invariant-loop-slot : goal.invariant-loop-slot
invariant-loop-slot l = (l.count ≡ sum_by waiting_pages (take l.slot-index l.slot-items)) × (l.count ≤ l.slot-index * 2 ^ 20)
