use Rattle.std.proofs.Common.{ap}
use Rattle.disk_label.specs.volume_disk.Disk.{Disk}
use Rattle.disk_tables.proofs.anchors.renewed_numbers.Goals as goal

pub renew_twice-requires : goal.renew_twice-requires
renew_twice-requires c = λ told v k there. ap (λ (disk : Disk). disk.now.unsynced v k) c.in_ok-left.ensures.is
