use Rattle.std.proofs.Common.{◌<◌, ◌/◌, length, arith}
use Rattle.std.proofs.lemmas.List.{get_or_read}
use Rattle.memory_disk.proofs.BlockMarks.{marked_bit}
use Rattle.memory_disk.proofs.marks.Marks.is_set.Goals as goal

pub returns : goal.returns
returns c =
    let within : c.args.block / 16 < length c.args.self.now.words.items = omega arith in
    marked_bit c.args.self.now.words.items c.args.block c.index.result.now (get_or_read c.args.self.now.words.items (c.args.block / 16) c.index.result.now within c.index.ensures 0)
