use Rattle.std.proofs.Common.{◌≡◌, take}
use Rattle.memory_disk.specs.Moment.{blank}
use Rattle.memory_disk.specs.Volume.{moment_of, sizes_of, read_faults_of, write_faults_of}
use Rattle.memory_disk.proofs.volumes.Volumes.zeros.Given as goal

abbrev pub invariant-loop-pages : goal.invariant-loop-pages
invariant-loop-pages l = record {
  moment : moment_of l.items.items ≡ blank;
  sizes : sizes_of l.items.items ≡ take l.pages-index l.sizes;
  read_faults : read_faults_of l.items.items ≡ (λ _. 0);
  write_faults : write_faults_of l.items.items ≡ (λ _. 0);
}
