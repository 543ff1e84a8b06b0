use Rattle.std.proofs.Common.{◌<◌, ◌/◌, ◌%◌, ◌*◌, ◌^◌, length, bit_or, ap, arith}
use Rattle.std.proofs.lemmas.List.{get_or_read}
use Rattle.memory_disk.proofs.BlockMarks.{set_here, set_other}
use Rattle.memory_disk.proofs.marks.Marks.set.Goals as goal

pub returns-clause-here : goal.returns-clause-here
returns-clause-here c =
    let within : c.args.block / 16 < length c.args.self.now.words.items = omega arith in
    set_here c.args.self.now.words.items c.args.block _ within (ap (λ word. bit_or word (1 * 2 ^ (c.args.block % 16) % 65536)) (get_or_read _ _ _ within c.index_mut.ensures.value 0))

pub returns-clause-others : goal.returns-clause-others
returns-clause-others c q other =
    let within : c.args.block / 16 < length c.args.self.now.words.items = omega arith in
    set_other c.args.self.now.words.items c.args.block q _ within (ap (λ word. bit_or word (1 * 2 ^ (c.args.block % 16) % 65536)) (get_or_read _ _ _ within c.index_mut.ensures.value 0)) other
