use Rattle.std.proofs.Common.{arith}
use Rattle.memory_disk.proofs.VolumeFields.{sizes_of-set}
use Rattle.memory_disk.proofs.volumes.Volumes.take_bytes.Goals as goal

pub returns : goal.returns
returns c = sizes_of-set c.args.self.now.items.items c.index-2.result c.take_bytes.new.self c.index_mut.result.now c.index_mut.ensures.value c.take_bytes.ensures (omega arith)
