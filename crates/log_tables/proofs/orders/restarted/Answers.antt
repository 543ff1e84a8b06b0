use Rattle.std.proofs.Common.{ap}
use Rattle.log_recovery.specs.volume_disk.Disk.{Disk}
use Rattle.log_tables.proofs.orders.restarted.Goals as goal

pub returns-in-Ok : goal.returns-in-Ok
returns-in-Ok c = λ v k. ap (λ (disk : Disk). disk.now.unsynced v k) c.in-Ok.ensures.is
