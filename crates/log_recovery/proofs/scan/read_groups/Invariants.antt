use Rattle.std.proofs.Common.{◌≡◌, ◌<◌, ◌-◌, List}
use Rattle.log_ring.specs.volume_disk.Disk.{Tells}
use Rattle.log_ring.specs.volume_disk.Run.{OnlyReads}
use Rattle.log_ring.specs.Groups.{Group}
use Rattle.log_ring.specs.Homes.{AreLoggable}
use Rattle.log_recovery.specs.Groups.{HasScanned}
use Rattle.log_recovery.proofs.scan.read_groups.Given as goal

abbrev pub invariant-loop-scan : goal.invariant-loop-scan
invariant-loop-scan g l = record {
  reads : OnlyReads (g.R.Rack.disk l.initial.rack) (g.R.Rack.disk l.rack);
  passed : (g.R.Rack.disk l.rack).read_faults ≡ (g.R.Rack.disk l.initial.rack).read_faults;
  used : l.scan.used < 128;
  loggable : AreLoggable l.anchor l.scan.images.items;
  groups : Tells (g.R.Rack.disk l.initial.rack) → (groups : List Group) × HasScanned (g.R.Rack.disk l.initial.rack).now.contents l.anchor groups l.scan;
}

abbrev pub decreases-loop-scan : goal.decreases-loop-scan
decreases-loop-scan g l = 128 - l.scan.used
