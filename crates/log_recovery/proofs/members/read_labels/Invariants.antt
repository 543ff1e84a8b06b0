use Rattle.std.proofs.Common.{◌≡◌, length}
use Rattle.log_ring.specs.volume_disk.Disk.{Tells}
use Rattle.log_ring.specs.volume_disk.Run.{OnlyReads}
use Rattle.log_recovery.specs.Members.{AreLabelledBelow, AreThereBelow, AreVersionsBelow}
use Rattle.log_recovery.proofs.members.read_labels.Given as goal

abbrev pub invariant-loop-number : goal.invariant-loop-number
invariant-loop-number g l = record {
  reads : OnlyReads (g.R.Rack.disk l.initial.rack) (g.R.Rack.disk l.rack);
  passed : (g.R.Rack.disk l.rack).read_faults ≡ (g.R.Rack.disk l.initial.rack).read_faults;
  count : length l.versions ≡ 8;
  there : AreThereBelow l.number (g.R.Rack.disk l.initial.rack).sizes l.anchor;
  labelled : Tells (g.R.Rack.disk l.initial.rack) → AreLabelledBelow l.number (g.R.Rack.disk l.initial.rack).sizes (g.R.Rack.disk l.initial.rack).now.contents l.anchor;
  versions : Tells (g.R.Rack.disk l.initial.rack) → AreVersionsBelow l.number (g.R.Rack.disk l.initial.rack).now.contents l.anchor l.versions;
}
