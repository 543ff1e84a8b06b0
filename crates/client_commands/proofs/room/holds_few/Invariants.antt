use Rattle.std.proofs.Common.{◌+◌, ◌≤◌}
use Rattle.file_commands.specs.free_space.Spaces.{kept_spaces}
use Rattle.client_commands.proofs.VolumesHeld.{first_hold}
use Rattle.client_commands.proofs.room.holds_few.Given as goal

-- the volumes before hold no more than they did, and as many as are counted off
abbrev pub invariant-loop-n : goal.invariant-loop-n
invariant-loop-n l = first_hold l.n l.memory.space + l.left ≤ first_hold l.n (kept_spaces l.memory.space) + 24
