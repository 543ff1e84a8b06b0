use Rattle.std.proofs.Common.{◌≡◌, take}
use Rattle.log_ring.specs.volume_disk.Run.{OnlyReads}
use Rattle.log_recovery.specs.Groups.{AddsImages}
use Rattle.log_recovery.proofs.scan.read_images.Given as goal

abbrev pub invariant-loop-i : goal.invariant-loop-i
invariant-loop-i g l = record {
  reads : OnlyReads (g.R.Rack.disk l.initial.rack) (g.R.Rack.disk l.rack);
  passed : (g.R.Rack.disk l.rack).read_faults ≡ (g.R.Rack.disk l.initial.rack).read_faults;
  added : AddsImages (g.R.Rack.disk l.initial.rack) l.anchor l.place (take l.i l.homes) l.initial.images.items l.images.items;
}
