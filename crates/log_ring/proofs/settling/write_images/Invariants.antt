use Rattle.std.proofs.Common.{◌≡◌, ◌+◌, ◌-◌, ◌≤◌, drop, length}
use Rattle.disk_label.specs.volume_disk.Disk.{Tells}
use Rattle.disk_label.specs.volume_disk.Run.{OnlyWrites}
use Rattle.log_ring.specs.LogLaws.{AreHome}
use Rattle.log_ring.specs.Settling.{IsAtHomes}
use Rattle.log_ring.proofs.settling.write_images.Given as goal

abbrev pub invariant-loop-written : goal.invariant-loop-written
invariant-loop-written g l = record {
  writes : OnlyWrites (g.R.Rack.disk l.initial.rack) (g.R.Rack.disk l.rack) (IsAtHomes l.images);
  passed : (g.R.Rack.disk l.rack).write_faults ≡ (g.R.Rack.disk l.initial.rack).write_faults;
  few : (g.R.Rack.disk l.rack).calls ≤ (g.R.Rack.disk l.initial.rack).calls + l.written;
  home : Tells (g.R.Rack.disk l.initial.rack) → AreHome (drop (length l.images - l.written) l.images) (g.R.Rack.disk l.rack).now.contents;
}
