use Rattle.std.proofs.Common.{◌+◌, ◌/◌, arith}
use Rattle.memory_disk.specs.Marks.{is_marked}
use Rattle.memory_disk.proofs.OverlaidBytes.{marked-blocks}
use Rattle.memory_disk.proofs.volume.Volume.tear.Goals as goal

pub returns-clause-marks : goal.returns-clause-marks
returns-clause-marks c =
    marked-blocks (is_marked c.args.self.now.unsynced.words.items) (is_marked c.set_run.new.self.words.items) c.args.block (c.args.block + c.args.size / 512) c.args.size (omega arith) (omega arith) c.set_run.ensures.marks
