use Rattle.std.proofs.Common.{◌∙◌, ◌≡◌, ◌<◌, ℕ, Bool, true, false, cond, ap, refl, sym, subst, arith}
use Rattle.meta_log.specs.volume_disk.Image.{NoPlace}
use Rattle.meta_log.specs.volume_disk.Run.{IsAtMost}
use Rattle.meta_log.proofs.OfVolumeDisk.Laws.{touches-none}
use Rattle.logged_rack.specs.Pending.{marks_of}
use Rattle.logged_rack.proofs.Marked.{one_more_cleared, one_more_unmarked, put_at-other}
use Rattle.logged_rack.proofs.Sound.{sound_still, sound_synced}
use Rattle.logged_rack.proofs.rack.LoggedRack.sync_marked.Goals as goal

pub returns-then-not-is_marked-clause-writes : goal.returns-then-not-is_marked-clause-writes
returns-then-not-is_marked-clause-writes g c = record { touches = touches-none (g.R.Rack.disk c.args.self.now.rack) NoPlace; read_faults = refl }

pub returns-then-not-is_marked-clause-unmarked : goal.returns-then-not-is_marked-clause-unmarked
returns-then-not-is_marked-clause-unmarked g c = one_more_unmarked (marks_of c.args.self.now.marked) c.args.vol (sym c.is_marked.ensures ∙ c.if-not-is_marked.true)

pub returns-in-Ok-clause-unmarked : goal.returns-in-Ok-clause-unmarked
returns-in-Ok-clause-unmarked g c = one_more_cleared (marks_of c.args.self.now.marked) (marks_of c.set_mark.new.marked) c.args.vol c.set_mark.ensures

pub returns-in-Ok-clause-others : goal.returns-in-Ok-clause-others
returns-in-Ok-clause-others g c = λ v above. ap (λ (m : ℕ → Bool). m v) c.set_mark.ensures ∙ put_at-other (marks_of c.args.self.now.marked) c.args.vol v false (omega arith)

pub returns-in-Ok-clause-few : goal.returns-in-Ok-clause-few
returns-in-Ok-clause-few g c =
    let marked : marks_of c.args.self.now.marked c.args.vol ≡ true = sym c.is_marked.ensures ∙ c.if-not-is_marked.false in
    subst (λ (b : Bool). IsAtMost (cond b 1 0) (g.R.Rack.disk c.args.self.now.rack) (g.R.Rack.disk c.sync_there.new.rack)) (sym marked) c.sync_there.ensures.few

pub returns-in-Err-clause-few : goal.returns-in-Err-clause-few
returns-in-Err-clause-few g c =
    let marked : marks_of c.args.self.now.marked c.args.vol ≡ true = sym c.is_marked.ensures ∙ c.if-not-is_marked.false in
    subst (λ (b : Bool). IsAtMost (cond b 1 0) (g.R.Rack.disk c.args.self.now.rack) (g.R.Rack.disk c.sync_there.new.rack)) (sym marked) c.sync_there.ensures.few

pub invariant_of-self : goal.invariant_of-self
invariant_of-self g c =
    let log = c.args.self.now.log in
    record {
      sound =
          sound_synced (marks_of c.args.self.now.marked) (marks_of c.set_mark.new.marked) c.args.vol NoPlace (λ v k none. absurd none) (g.R.Rack.disk c.args.self.now.rack) (g.R.Rack.disk c.sync_there.new.rack)
          c.sync_there.ensures.writes.touches log log refl c.args.self.now.sound c.set_mark.ensures c.in-Ok.ensures.synced;
    }

pub invariant_of-self-in-Err : goal.invariant_of-self-in-Err
invariant_of-self-in-Err g c =
    record {
      sound = sound_still (g.R.Rack.disk c.args.self.now.rack) (g.R.Rack.disk c.sync_there.new.rack) c.args.self.now.log (marks_of c.args.self.now.marked) c.sync_there.ensures.writes.touches c.args.self.now.sound;
    }
