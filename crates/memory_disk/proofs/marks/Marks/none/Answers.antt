use Rattle.std.proofs.Common.{◌≡◌, replicate, rules}
use Rattle.memory_disk.proofs.BlockMarks.{none_marked, zero_words}
use Rattle.memory_disk.proofs.marks.Marks.none.Goals as goal

pub returns-clause-none : goal.returns-clause-none
returns-clause-none c =
    let words = c.in_ok-words.words.items in
    let zeros : words ≡ replicate c.args.pages 0 = search (rules, c.in_ok-words.ensures.items_if_clones_equal) in
    none_marked words (λ i. zero_words words c.args.pages i zeros)
