use Rattle.std.proofs.Common.{refl}
use Rattle.memory_disk.specs.Counts.{count_of}
use Rattle.memory_disk.specs.Files.{file_disk}
use Rattle.memory_disk.proofs.Made.{failed_write, made}
use Rattle.memory_disk.proofs.Untold.{tells_none}
use Rattle.memory_disk.proofs.rack.FileRackRack.sync.Goals as goal

pub returns-then-reach_device-clause-done : goal.returns-then-reach_device-clause-done
returns-then-reach_device-clause-done c =
    record {
      makes = made (file_disk c.args.self.now) (file_disk c.tick.new.self) c.tick.ensures.counted tells_none;
      syncs = λ told. absurd (tells_none told);
      passed = (c.tick.ensures.passes c.if-tick.true, refl);
    }

pub returns-clause-failed : goal.returns-clause-failed
returns-clause-failed c =
    failed_write (file_disk c.args.self.now) (file_disk c.tick.new.self) c.args.vol (count_of c.raise.new.counts) c.tick.ensures.counted tells_none c.raise.ensures
