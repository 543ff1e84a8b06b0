use Rattle.std.proofs.Common.{◌≡◌, ◌+◌, ◌≤◌, ℕ, None}
use Rattle.meta_log.specs.volume_disk.Image.{NoPlace}
use Rattle.meta_log.specs.volume_disk.Run.{OnlyWrites}
use Rattle.logged_rack.specs.Pending.{AreUnmarkedBelow, marked_below, marks_of}
use Rattle.logged_rack.proofs.rack.LoggedRack.sync_written.Given as goal

abbrev pub invariant-loop-number : goal.invariant-loop-number
invariant-loop-number g l = record {
  writes : OnlyWrites (g.R.Rack.disk l.initial.self.rack) (g.R.Rack.disk l.self.rack) NoPlace;
  still : (g.R.Rack.disk l.self.rack).write_faults ≡ (g.R.Rack.disk l.initial.self.rack).write_faults;
  unmarked : AreUnmarkedBelow l.number (marks_of l.self.marked);
  later : (v : ℕ) → l.number ≤ v → marks_of l.self.marked v ≡ marks_of l.initial.self.marked v;
  few : (g.R.Rack.disk l.self.rack).calls ≤ (g.R.Rack.disk l.initial.self.rack).calls + marked_below (marks_of l.initial.self.marked) l.number;
  log : l.self.log ≡ l.initial.self.log;
  passed : l.self.failed ≡ None;
}
