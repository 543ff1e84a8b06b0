use Rattle.std.proofs.Common.{◌≡◌, ◌+◌, ◌≤◌}
use Rattle.volume_disk.specs.Disk.{Tells}
use Rattle.volume_disk.specs.Image.{NoPlace}
use Rattle.volume_disk.specs.Run.{IsSettledBelow, OnlyWrites}
use Rattle.volume_disk.proofs.synced.sync_volumes.Given as goal

abbrev pub invariant-loop-number : goal.invariant-loop-number
invariant-loop-number g l = record {
  writes : OnlyWrites (g.R.Rack.disk l.initial.rack) (g.R.Rack.disk l.rack) NoPlace;
  passed : (g.R.Rack.disk l.rack).write_faults ≡ (g.R.Rack.disk l.initial.rack).write_faults;
  few : (g.R.Rack.disk l.rack).calls + 1 ≤ (g.R.Rack.disk l.initial.rack).calls + l.number;
  settled : Tells (g.R.Rack.disk l.initial.rack) → IsSettledBelow l.number (g.R.Rack.disk l.rack).now;
}
