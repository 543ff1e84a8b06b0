use Rattle.std.proofs.Common.{◌≡◌, ℕ, false}
use Rattle.memory_disk.specs.Volume.{byte_of, mark_of}
use Rattle.memory_disk.proofs.volume.Volume.after_stop.Given as goal

abbrev pub invariant-loop-block : goal.invariant-loop-block
invariant-loop-block l = record {
  left : (k : ℕ) → mark_of l.self k ≡ false → byte_of l.left k ≡ byte_of l.self k;
  marks : mark_of l.left ≡ (λ _. false);
  pages : l.left.pages ≡ l.self.pages;
  read_faults : l.left.read_faults ≡ 0;
  write_faults : l.left.write_faults ≡ 0;
}
