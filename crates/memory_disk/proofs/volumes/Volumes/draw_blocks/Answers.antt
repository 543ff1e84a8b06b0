use Rattle.std.proofs.Common.{arith}
use Rattle.memory_disk.proofs.VolumeFields.{sizes_of-set, volume_pages-read}
use Rattle.memory_disk.proofs.volumes.Volumes.draw_blocks.Goals as goal

pub draw-requires : goal.draw-requires
draw-requires c =
    omega (arith, volume_pages-read c.args.self.now.items.items c.args.vol c.index.result c.index_mut.result.now c.index.ensures.value (omega arith) c.index_mut.ensures.value)

pub returns : goal.returns
returns c = sizes_of-set c.args.self.now.items.items c.index.result c.draw.new.self c.index_mut.result.now c.index_mut.ensures.value c.draw.ensures (omega arith)
