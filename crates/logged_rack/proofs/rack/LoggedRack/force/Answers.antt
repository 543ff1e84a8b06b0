use Rattle.std.proofs.Common.{◌≡◌, ◌∙◌, ℕ, false, ap}
use Rattle.meta_log.specs.disk_label.declared.anchor.Anchor.{Anchor}
use Rattle.meta_log.specs.volume_disk.Disk.{put_at}
use Rattle.meta_log.specs.Log.{Log}
use Rattle.logged_rack.specs.Pending.{marks_of}
use Rattle.logged_rack.proofs.Forced.{sound_cut_short, sound_forced}
use Rattle.logged_rack.proofs.Idle.{forced_nothing, forces_nothing, has_forced_nothing, none_pending}
use Rattle.logged_rack.proofs.rack.LoggedRack.force.Goals as goal

pub returns-then-not-is_pending-clause-forces : goal.returns-then-not-is_pending-clause-forces
returns-then-not-is_pending-clause-forces g c = forces_nothing (g.R.Rack.disk c.args.self.now.rack) c.args.self.now.log

pub returns-then-not-is_pending-clause-ok : goal.returns-then-not-is_pending-clause-ok
returns-then-not-is_pending-clause-ok g c =
    let log = c.args.self.now.log in
    forced_nothing log (none_pending c.is_pending.result log.pending c.is_pending.ensures c.if-not-is_pending.true)

pub returns-then-not-is_pending-clause-done : goal.returns-then-not-is_pending-clause-done
returns-then-not-is_pending-clause-done g c =
    let log = c.args.self.now.log in
    has_forced_nothing (g.R.Rack.disk c.args.self.now.rack) log (none_pending c.is_pending.result log.pending c.is_pending.ensures c.if-not-is_pending.true)

pub returns-in-Ok-clause-marks : goal.returns-in-Ok-clause-marks
returns-in-Ok-clause-marks g c = λ some.
    let vol_is : c.in-Some.vol ≡ c.args.self.now.log.anchor.log_vol = c.in-Some.ensures.value ∙ ap (λ (a : Anchor). a.log_vol) c.anchor.ensures in
    c.set_mark.ensures ∙ ap (λ (v : ℕ). put_at (marks_of c.args.self.now.marked) v false) vol_is

pub invariant_of-self : goal.invariant_of-self
invariant_of-self g c =
    let log = c.args.self.now.log in
    let vol_is : c.in-Some.vol ≡ log.anchor.log_vol = c.in-Some.ensures.value ∙ ap (λ (a : Anchor). a.log_vol) c.anchor.ensures in
    record {
      sound =
          sound_forced (marks_of c.args.self.now.marked) (marks_of c.set_mark.new.marked) c.in-Some.vol (g.R.Rack.disk c.args.self.now.rack) (g.R.Rack.disk c.force.new.rack) log c.force.new.self vol_is c.force.ensures.forces
          (ap (λ (l : Log). l.anchor) c.in-Ok.ensures.ok) c.args.self.now.sound c.set_mark.ensures (c.in-Ok.ensures.synced (c.is_pending.ensures.0 c.if-not-is_pending.false));
    }

pub invariant_of-self-in-Err : goal.invariant_of-self-in-Err
invariant_of-self-in-Err g c =
    let log = c.args.self.now.log in
    let vol_is : c.in-Some.vol ≡ log.anchor.log_vol = c.in-Some.ensures.value ∙ ap (λ (a : Anchor). a.log_vol) c.anchor.ensures in
    record {
      sound =
          sound_cut_short (marks_of c.args.self.now.marked) (marks_of c.set_mark-in-Err.new.marked) c.in-Some.vol (g.R.Rack.disk c.args.self.now.rack) (g.R.Rack.disk c.force.new.rack) log c.force.new.self vol_is c.force.ensures.forces
          (ap (λ (l : Log). l.anchor) c.in-Err.ensures.err) c.args.self.now.sound c.set_mark-in-Err.ensures;
    }
