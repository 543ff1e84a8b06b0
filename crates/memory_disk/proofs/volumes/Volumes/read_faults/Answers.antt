use Rattle.std.proofs.Common.{sym, arith}
use Rattle.memory_disk.proofs.VolumeFields.{field_of-past}
use Rattle.memory_disk.proofs.volumes.Volumes.read_faults.Goals as goal

pub returns-in-None : goal.returns-in-None
returns-in-None c =
    let e = c.in-None.ensures in
    sym (field_of-past (λ volume. volume.read_faults) 0 c.args.self.now.items.items c.args.vol c.index.result c.index.ensures.value (omega arith))
