use Rattle.std.proofs.Common.{◌∙◌}
use Rattle.memory_disk.specs.Memory.{memory_disk}
use Rattle.log_tables.proofs.UntoldCalls.{volumes-unfolded}
use Rattle.log_tables.proofs.counting.CountRackRack.volumes.Goals as goal

pub returns : goal.returns
returns c = c.volumes.ensures ∙ volumes-unfolded c.args.self.now.fold (memory_disk c.args.self.now.rack).sizes
