use Rattle.std.proofs.Common.{◌*◌}
use Rattle.volume_disk.proofs.Laws.{only_writes-write}
use Rattle.volume_disk.proofs.synced.write_blocks.Goals as goal

pub returns-in-Ok-clause-writes : goal.returns-in-Ok-clause-writes
returns-in-Ok-clause-writes g c =
    only_writes-write (g.R.Rack.disk c.args.rack.now) (g.R.Rack.disk c.write.new.self) (g.met.R.Rack.holds_bytes c.args.rack.now) c.args.vol (512 * c.args.block) c.args.bytes.now c.write.result c.write.ensures.done c.write.ensures.failed

pub returns-in-Err-clause-writes : goal.returns-in-Err-clause-writes
returns-in-Err-clause-writes g c =
    only_writes-write (g.R.Rack.disk c.args.rack.now) (g.R.Rack.disk c.write.new.self) (g.met.R.Rack.holds_bytes c.args.rack.now) c.args.vol (512 * c.args.block) c.args.bytes.now c.write.result c.write.ensures.done c.write.ensures.failed
