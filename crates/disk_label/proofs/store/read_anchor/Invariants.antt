use Rattle.std.proofs.Common.{◌≡◌, ◌*◌}
use Rattle.volume_disk.specs.Disk.{Tells}
use Rattle.volume_disk.specs.Run.{IsAtMost, OnlyReads}
use Rattle.disk_label.specs.Anchor.{IsAnchorBelow}
use Rattle.disk_label.proofs.store.read_anchor.Given as goal

abbrev pub invariant-loop-place : goal.invariant-loop-place
invariant-loop-place g l = record {
  reads : OnlyReads (g.R.Rack.disk l.initial.rack) (g.R.Rack.disk l.rack);
  passed : (g.R.Rack.disk l.rack).read_faults ≡ (g.R.Rack.disk l.initial.rack).read_faults;
  few : IsAtMost (2 * l.place) (g.R.Rack.disk l.initial.rack) (g.R.Rack.disk l.rack);
  best : Tells (g.R.Rack.disk l.initial.rack) → IsAnchorBelow l.place (g.R.Rack.disk l.initial.rack).sizes (g.R.Rack.disk l.initial.rack).now.contents l.best;
}
