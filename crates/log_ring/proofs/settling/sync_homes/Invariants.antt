use Rattle.std.proofs.Common.{◌≡◌, ◌+◌, ◌≤◌}
use Rattle.disk_label.specs.volume_disk.Disk.{Tells}
use Rattle.disk_label.specs.volume_disk.Image.{NoPlace}
use Rattle.disk_label.specs.volume_disk.Run.{OnlyWrites}
use Rattle.log_ring.specs.Settling.{AreSyncedBelow}
use Rattle.log_ring.proofs.settling.sync_homes.Given as goal

abbrev pub invariant-loop-number : goal.invariant-loop-number
invariant-loop-number g l = record {
  writes : OnlyWrites (g.R.Rack.disk l.initial.rack) (g.R.Rack.disk l.rack) NoPlace;
  passed : (g.R.Rack.disk l.rack).write_faults ≡ (g.R.Rack.disk l.initial.rack).write_faults;
  few : (g.R.Rack.disk l.rack).calls + 1 ≤ (g.R.Rack.disk l.initial.rack).calls + l.number;
  synced : Tells (g.R.Rack.disk l.initial.rack) → AreSyncedBelow l.number l.images (g.R.Rack.disk l.rack).now;
}
