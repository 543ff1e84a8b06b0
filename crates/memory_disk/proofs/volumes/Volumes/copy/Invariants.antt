use Rattle.std.proofs.Common.{◌≡◌, false, length, take}
use Rattle.memory_disk.specs.Volume.{mark_of, field_of, sizes_of, read_faults_of, write_faults_of}
use Rattle.memory_disk.proofs.Stopped.{KeepsAll}
use Rattle.memory_disk.proofs.volumes.Volumes.copy.Given as goal

abbrev pub invariant-loop-volume : goal.invariant-loop-volume
invariant-loop-volume l = record {
  count : length l.items.items ≡ l.volume-index;
  same : KeepsAll l.self.items.items l.items.items l.volume-index;
  marks : field_of mark_of (λ _. false) l.items.items ≡ (λ _ _. false);
  sizes : sizes_of l.items.items ≡ take l.volume-index (sizes_of l.self.items.items);
  read_faults : read_faults_of l.items.items ≡ (λ _. 0);
  write_faults : write_faults_of l.items.items ≡ (λ _. 0);
}
