use Rattle.std.proofs.Common.{◌≡◌}
use Rattle.memory_disk.specs.Volume.{sizes_of}
use Rattle.memory_disk.proofs.memory.MemoryRack.draw.Given as goal

abbrev pub invariant-loop-kept : goal.invariant-loop-kept
invariant-loop-kept l = record {
  now : sizes_of l.now.items.items ≡ sizes_of l.self.volumes.items.items;
  drawn : sizes_of l.drawn.items.items ≡ sizes_of l.self.volumes.items.items;
}
