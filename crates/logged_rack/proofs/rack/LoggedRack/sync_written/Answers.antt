use Rattle.std.proofs.Common.{◌≡◌, ◌≤◌, ℕ, ◌+◌, ◌-◌, Bool, refl, sym, ◌∙◌, ap, subst, arith}
use Rattle.meta_log.specs.volume_disk.Image.{NoPlace}
use Rattle.meta_log.proofs.OfVolumeDisk.Laws.{only_writes-then, touches-none}
use Rattle.logged_rack.specs.Pending.{AreUnmarkedBelow, marked_below, marks_of}
use Rattle.logged_rack.proofs.Marked.{fewer_counted, none_below_first, none_marked, one_if, one_more_counted}
use Rattle.logged_rack.proofs.rack.LoggedRack.sync_written.Goals as goal

pub loop-number-init : goal.loop-number-init
loop-number-init g c = record {
  writes = record { touches = touches-none (g.R.Rack.disk c.args.self.now.rack) NoPlace; read_faults = refl };
  still = refl;
  unmarked = none_below_first c.args.self.now.marked;
  later = λ v above. refl;
  few = omega arith;
  log = refl;
  passed = c.requires.passed;
}

pub loop-number-preserved : goal.loop-number-preserved
loop-number-preserved g c =
    let old = g.R.Rack.disk c.args.self.now.rack in
    let mid = g.R.Rack.disk c.loop-number.self.rack in
    let new = g.R.Rack.disk c.sync_marked.new.self.rack in
    let so_far = c.loop-number.invariant in
    let marks = marks_of c.loop-number.self.marked in
    let now = marks_of c.sync_marked.new.self.marked in
    record {
      writes = only_writes-then old mid new NoPlace so_far.writes c.sync_marked.ensures.writes;
      still = c.in_ok-sync_marked.ensures.fault ∙ so_far.still;
      unmarked =
          subst (λ (v : ℕ). AreUnmarkedBelow (v + 1) now) c.in-Some.ensures.value
          (c.in_ok-sync_marked.ensures.unmarked (subst (λ (v : ℕ). AreUnmarkedBelow v marks) (sym c.in-Some.ensures.value) so_far.unmarked));
      later = λ v above. c.sync_marked.ensures.others v (omega (arith, c.in-Some.ensures.value, above)) ∙ so_far.later v (omega (arith, above));
      few =
          let first = marks_of c.args.self.now.marked in
          let n = c.loop-number.number in
          let here : one_if (marks c.in-Some.vol) ≡ one_if (first n) = ap (λ (v : ℕ). one_if (marks v)) c.in-Some.ensures.value ∙ ap one_if (so_far.later n (omega arith)) in
          omega (arith, so_far.few, c.sync_marked.ensures.few, here, one_more_counted first n);
      log = c.sync_marked.ensures.log ∙ so_far.log;
      passed = c.in_ok-sync_marked.ensures.passed;
    }

pub returns-in_err-sync_marked-clause-writes : goal.returns-in_err-sync_marked-clause-writes
returns-in_err-sync_marked-clause-writes g c =
    only_writes-then (g.R.Rack.disk c.args.self.now.rack) (g.R.Rack.disk c.loop-number.self.rack) (g.R.Rack.disk c.sync_marked.new.self.rack) NoPlace c.loop-number.invariant.writes c.sync_marked.ensures.writes

pub returns-clause-settled : goal.returns-clause-settled
returns-clause-settled g c = λ told.
    let rack = c.loop-number.self.rack in
    let told_now = c.loop-number.invariant.writes.touches.told ∙ told in
    none_marked (marks_of c.loop-number.self.marked) (g.R.Rack.disk rack) (g.met.R.Rack.pends_within rack told_now) (c.loop-number.self.sound.pends told_now)
    (λ v below. c.loop-number.invariant.unmarked v (omega arith))

pub returns-in_err-sync_marked-clause-few : goal.returns-in_err-sync_marked-clause-few
returns-in_err-sync_marked-clause-few g c =
    let marks = marks_of c.loop-number.self.marked in
    let first = marks_of c.args.self.now.marked in
    let n = c.loop-number.number in
    let so_far = c.loop-number.invariant in
    let here : one_if (marks c.in-Some.vol) ≡ one_if (first n) = ap (λ (v : ℕ). one_if (marks v)) c.in-Some.ensures.value ∙ ap one_if (so_far.later n (omega arith)) in
    let up : n + 1 + (9 - (n + 1)) ≡ 9 = omega arith in
    let rest = subst (λ (m : ℕ). marked_below first (n + 1) ≤ marked_below first m) up (fewer_counted first (n + 1) (9 - (n + 1))) in
    omega (arith, so_far.few, c.sync_marked.ensures.few, here, one_more_counted first n, rest)

pub returns-clause-few : goal.returns-clause-few
returns-clause-few g c =
    let last : c.loop-number.number ≡ 9 = omega arith in
    subst (λ (n : ℕ). (g.R.Rack.disk c.loop-number.self.rack).calls ≤ (g.R.Rack.disk c.args.self.now.rack).calls + marked_below (marks_of c.args.self.now.marked) n) last c.loop-number.invariant.few
