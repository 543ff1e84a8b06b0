use Rattle.std.proofs.Common.{◌/◌}
use Rattle.memory_disk.proofs.volume.Volume.sync.Goals as goal

pub returns-clause-marks : goal.returns-clause-marks
returns-clause-marks c = λ i k. c.clear.ensures.none (k / 512) i
