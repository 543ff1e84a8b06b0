use Rattle.std.proofs.Common.{◌≡◌, drop}
use Rattle.memory_disk.specs.Kept.{replayed}
use Rattle.memory_disk.specs.Volume.{moment_of, settled_of, sizes_of}
use Rattle.memory_disk.proofs.memory.MemoryRack.replay.Given as goal

abbrev pub invariant-loop-kept : goal.invariant-loop-kept
invariant-loop-kept l = record {
  moment : replayed (moment_of l.now.items.items) (drop l.kept-index l.self.kept.items) l.call ≡ replayed (settled_of l.self.first.items.items) l.self.kept.items l.call;
  sizes : sizes_of l.now.items.items ≡ sizes_of l.self.volumes.items.items;
}
