use Rattle.std.proofs.Common.{◌*◌, length, ◌∙◌}
use Rattle.std.proofs.lemmas.Result.{on_ok_weaker}
use Rattle.volume_disk.specs.Image.{IsIn}
use Rattle.volume_disk.proofs.Laws.{only_writes-synced, Settles-done}
use Rattle.volume_disk.proofs.synced.write_synced.Goals as goal

pub returns-in-Ok-clause-writes : goal.returns-in-Ok-clause-writes
returns-in-Ok-clause-writes g c =
    only_writes-synced (g.R.Rack.disk c.args.rack.now) (g.R.Rack.disk c.write_blocks.new.rack) (g.R.Rack.disk c.sync_volume.new.rack) (IsIn c.args.vol (512 * c.args.block) (length c.args.bytes.now)) c.write_blocks.ensures.writes c.sync_volume.ensures.writes

pub returns-in-Ok-clause-settled : goal.returns-in-Ok-clause-settled
returns-in-Ok-clause-settled g c =
    let old = g.R.Rack.disk c.args.rack.now in
    let mid = g.R.Rack.disk c.write_blocks.new.rack in
    let new = g.R.Rack.disk c.sync_volume.new.rack in
    on_ok_weaker c.sync_volume.result (λ syncs told.
    Settles-done c.args.vol (512 * c.args.block) c.args.bytes.now old.now mid.now new.now (c.in-Ok.ensures.written told) (syncs (c.write_blocks.ensures.writes.touches.told ∙ told))) c.sync_volume.ensures.synced
