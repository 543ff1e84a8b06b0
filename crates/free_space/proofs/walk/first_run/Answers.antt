use Rattle.std.proofs.Common.{◌*◌, ◌/◌, arith}
use Rattle.free_space.proofs.Walks.{begin_walk}
use Rattle.free_space.proofs.walk.first_run.Goals as goal

pub loop-k-init : goal.loop-k-init
loop-k-init c = (begin_walk c.args.bytes.now c.args.from c.args.count (64 * (c.args.from / 64)) (omega arith) (omega arith), omega arith)
