use Rattle.std.proofs.Common.{◌/◌}
use Rattle.memory_disk.proofs.volume.Volume.zeros.Goals as goal

pub returns-clause-marks : goal.returns-clause-marks
returns-clause-marks c = λ i k. c.in_ok-unsynced.ensures.none (k / 512) i
