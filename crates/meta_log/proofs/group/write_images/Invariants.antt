use Rattle.std.proofs.Common.{◌≡◌, ◌+◌, ◌≤◌, length, take}
use Rattle.log_ring.specs.volume_disk.Disk.{Tells}
use Rattle.log_ring.specs.volume_disk.Run.{OnlyWrites}
use Rattle.log_ring.specs.Groups.{AreImagesAt}
use Rattle.log_ring.specs.Ring.{IsOnPlaces}
use Rattle.meta_log.proofs.group.write_images.Given as goal

abbrev pub invariant-loop-i : goal.invariant-loop-i
invariant-loop-i g l = record {
  writes : OnlyWrites (g.R.Rack.disk l.initial.rack) (g.R.Rack.disk l.rack) (IsOnPlaces l.anchor l.place (length l.images));
  passed : (g.R.Rack.disk l.rack).write_faults ≡ (g.R.Rack.disk l.initial.rack).write_faults;
  few : (g.R.Rack.disk l.rack).calls ≤ (g.R.Rack.disk l.initial.rack).calls + l.i;
  written : Tells (g.R.Rack.disk l.initial.rack) → AreImagesAt (g.R.Rack.disk l.rack).now.contents l.anchor l.place (take l.i l.images);
}
