use Rattle.std.proofs.Common.{◌≡◌}
use Rattle.memory_disk.proofs.volume.Volume.draw.Given as goal

abbrev pub invariant-loop-i : goal.invariant-loop-i
invariant-loop-i l = l.self.pages ≡ l.initial.self.pages
