use Rattle.std.proofs.Common.{◌≡◌, ◌∙◌, ℕ, false, ap, sym, subst}
use Rattle.meta_log.specs.disk_label.Anchor.{IsWhole}
use Rattle.meta_log.specs.disk_label.declared.anchor.Anchor.{Anchor}
use Rattle.meta_log.specs.log_ring.Homes.{AreOutside}
use Rattle.meta_log.specs.log_ring.Ring.{IsRing}
use Rattle.meta_log.specs.Checkpoint.{Checkpoints, HasCheckpointed, next_anchor}
use Rattle.meta_log.specs.volume_disk.Disk.{put_at}
use Rattle.meta_log.specs.Log.{new_log}
use Rattle.logged_rack.specs.Pending.{marks_of}
use Rattle.logged_rack.proofs.Places.{outside_log}
use Rattle.logged_rack.proofs.Sound.{sound_home, sound_not_home}
use Rattle.logged_rack.proofs.rack.LoggedRack.checkpoint.Goals as goal

pub checkpoint-requires-clause-outside : goal.checkpoint-requires-clause-outside
checkpoint-requires-clause-outside g c =
    subst (λ (a : Anchor). AreOutside a c.args.self.now.log.logged) (sym c.anchor.ensures) (outside_log c.args.self.now.log c.room-room.ensures.sound)

pub checkpoint-requires-clause-ring : goal.checkpoint-requires-clause-ring
checkpoint-requires-clause-ring g c =
    subst (λ (a : Anchor). IsRing (g.R.Rack.disk c.args.self.now.rack).sizes a) (sym c.anchor.ensures) c.args.self.now.sound.ring

pub checkpoint-requires-clause-whole : goal.checkpoint-requires-clause-whole
checkpoint-requires-clause-whole g c = subst IsWhole (sym c.anchor.ensures) c.requires.whole

pub returns-in-Ok-clause-checkpoints : goal.returns-in-Ok-clause-checkpoints
returns-in-Ok-clause-checkpoints g c =
    let log = c.args.self.now.log in
    subst (λ (a : Anchor). Checkpoints (g.R.Rack.disk c.args.self.now.rack) (g.R.Rack.disk c.checkpoint.new.rack) log (next_anchor log a)) c.anchor.ensures c.checkpoint.ensures.checkpoints

pub returns-in-Err-clause-checkpoints : goal.returns-in-Err-clause-checkpoints
returns-in-Err-clause-checkpoints g c =
    let log = c.args.self.now.log in
    subst (λ (a : Anchor). Checkpoints (g.R.Rack.disk c.args.self.now.rack) (g.R.Rack.disk c.checkpoint.new.rack) log (next_anchor log a)) c.anchor.ensures c.checkpoint.ensures.checkpoints

pub returns-in-Ok-clause-done : goal.returns-in-Ok-clause-done
returns-in-Ok-clause-done g c =
    let log = c.args.self.now.log in
    subst (λ (a : Anchor). HasCheckpointed (g.R.Rack.disk c.args.self.now.rack) (g.R.Rack.disk c.checkpoint.new.rack) log (next_anchor log a)) c.anchor.ensures c.in-Ok.ensures.done

pub returns-in-Ok-clause-ok : goal.returns-in-Ok-clause-ok
returns-in-Ok-clause-ok g c = c.in-Ok.ensures.ok ∙ ap (λ (a : Anchor). new_log (next_anchor c.args.self.now.log a)) c.anchor.ensures

pub returns-in-Ok-clause-marks : goal.returns-in-Ok-clause-marks
returns-in-Ok-clause-marks g c =
    let vol_is : c.in-Some.vol ≡ c.args.self.now.log.anchor.log_vol = c.in-Some.ensures.value ∙ ap (λ (a : Anchor). a.log_vol) c.anchor.ensures in
    c.set_mark.ensures ∙ ap (λ (v : ℕ). put_at (marks_of c.args.self.now.marked) v false) vol_is

pub invariant_of-self : goal.invariant_of-self
invariant_of-self g c =
    let log = c.args.self.now.log in
    let old = g.R.Rack.disk c.args.self.now.rack in
    let new = g.R.Rack.disk c.checkpoint.new.rack in
    let checkpoints = subst (λ (a : Anchor). Checkpoints old new log (next_anchor log a)) c.anchor.ensures c.checkpoint.ensures.checkpoints in
    let done = subst (λ (a : Anchor). HasCheckpointed old new log (next_anchor log a)) c.anchor.ensures c.in-Ok.ensures.done in
    let vol_is : c.in-Some.vol ≡ log.anchor.log_vol = c.in-Some.ensures.value ∙ ap (λ (a : Anchor). a.log_vol) c.anchor.ensures in
    record {
      sound =
          sound_home old new log c.checkpoint.new.self (marks_of c.args.self.now.marked) checkpoints c.args.self.now.sound c.room-room.ensures.sound done
          (marks_of c.set_mark.new.marked) c.in-Some.vol vol_is c.set_mark.ensures (c.in-Ok.ensures.ok ∙ ap (λ (a : Anchor). new_log (next_anchor log a)) c.anchor.ensures);
    }

pub invariant_of-self-in-Err : goal.invariant_of-self-in-Err
invariant_of-self-in-Err g c =
    let log = c.args.self.now.log in
    let old = g.R.Rack.disk c.args.self.now.rack in
    let new = g.R.Rack.disk c.checkpoint.new.rack in
    let checkpoints = subst (λ (a : Anchor). Checkpoints old new log (next_anchor log a)) c.anchor.ensures c.checkpoint.ensures.checkpoints in
    record {
      sound = sound_not_home old new log c.checkpoint.new.self (marks_of c.args.self.now.marked) checkpoints c.args.self.now.sound (g.met.R.Rack.pends_within c.checkpoint.new.rack) c.in-Err.ensures.err;
    }
