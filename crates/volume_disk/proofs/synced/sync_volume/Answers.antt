use Rattle.volume_disk.proofs.Laws.{only_writes-sync}
use Rattle.volume_disk.proofs.synced.sync_volume.Goals as goal

pub returns-in-Ok-clause-writes : goal.returns-in-Ok-clause-writes
returns-in-Ok-clause-writes g c = only_writes-sync (g.R.Rack.disk c.args.rack.now) (g.R.Rack.disk c.sync.new.self) c.args.vol c.sync.result c.sync.ensures.done c.sync.ensures.failed
