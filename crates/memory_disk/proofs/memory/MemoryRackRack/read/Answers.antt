use Rattle.std.proofs.Common.{◌≤◌, ◌+◌, ◌∙◌, arith}
use Rattle.memory_disk.specs.Volume.{settled_of}
use Rattle.memory_disk.proofs.Replays.{AreUpTo-later, replayed-past}
use Rattle.memory_disk.proofs.memory.MemoryRackRack.read.Goals as goal

pub invariant_of-self : goal.invariant_of-self
invariant_of-self c =
    let rack = c.args.self.now in
    let later : rack.calls ≤ rack.calls + 1 = omega arith in
    record {
      numbered = AreUpTo-later rack.calls (rack.calls + 1) rack.kept.items later rack.numbered;
      fit = rack.fit;
      same_sizes = rack.same_sizes;
      replays = λ keeps. replayed-past (settled_of rack.first.items.items) rack.kept.items rack.calls (rack.calls + 1) rack.numbered later ∙ rack.replays keeps;
    }
