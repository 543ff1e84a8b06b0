use Rattle.std.proofs.Common.{◌≡◌, ◌∙◌, ℕ, ◌&&◌, ◌||◌, leb, ltb, ap, arith}
use Rattle.memory_disk.specs.Marks.{is_marked}
use Rattle.memory_disk.proofs.marks.Marks.set_run.Goals as goal

pub returns-clause-marks : goal.returns-clause-marks
returns-clause-marks c q =
    let is : c.loop-block.block ≡ c.args.end = omega arith in
    c.loop-block.invariant.marks q ∙ ap (λ (n : ℕ). (leb c.args.first q && ltb q n) || is_marked c.args.self.now.words.items q) is
