use Rattle.std.proofs.Common.{◌≡◌, replicate, arith}
use Rattle.std.proofs.lemmas.Grind.{common_steps}
use Rattle.memory_disk.proofs.BlockMarks.{none_marked, zero_words}
use Rattle.memory_disk.proofs.marks.Marks.clear.Goals as goal

pub returns-clause-none : goal.returns-clause-none
returns-clause-none c =
    let n = c.args.self.now.words.len in
    let filled : c.fill.new.self ≡ replicate n 0 = grind (arith, common_steps, c.fill.ensures.after) in
    none_marked _ (λ i. zero_words _ n i (grind (arith, common_steps, filled)))
