use Rattle.std.proofs.Common.{◌≡◌, ℕ, ◌&&◌, ◌||◌, leb, ltb, vec_len}
use Rattle.memory_disk.specs.Marks.{is_marked}
use Rattle.memory_disk.proofs.marks.Marks.set_run.Given as goal

abbrev pub invariant-loop-block : goal.invariant-loop-block
invariant-loop-block l = record {
  marks : (q : ℕ) → is_marked l.self.words.items q ≡ ((leb l.first q && ltb q l.block) || is_marked l.initial.self.words.items q);
  pages : vec_len l.self.words ≡ vec_len l.initial.self.words;
}
