use Rattle.std.proofs.Common.{◌≡◌}
use Rattle.domain_faults.specs.volume_disk.Disk.{Tells}
use Rattle.domain_faults.specs.volume_disk.Run.{OnlyReads}
use Rattle.run_parts.specs.Made.{AreZeroPages}
use Rattle.run_parts.proofs.making.first_used.Given as goal

abbrev pub invariant-loop-page : goal.invariant-loop-page
invariant-loop-page g l = record {
  reads : OnlyReads (g.R.Rack.disk l.initial.rack) (g.R.Rack.disk l.rack);
  passed : (g.R.Rack.disk l.rack).read_faults ≡ (g.R.Rack.disk l.initial.rack).read_faults;
  zeros : Tells (g.R.Rack.disk l.initial.rack) → AreZeroPages l.page (g.R.Rack.disk l.initial.rack).now.contents;
}
