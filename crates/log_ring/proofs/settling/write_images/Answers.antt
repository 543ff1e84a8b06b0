use Rattle.std.proofs.Common.{◌≡◌, ℕ, ◌+◌, ◌-◌, ◌<◌, length, drop, ◌∙◌, subst, arith}
use Rattle.disk_label.proofs.OfVolumeDisk.Laws.{only_writes-then}
use Rattle.log_ring.specs.LogLaws.{AreHome}
use Rattle.log_ring.specs.Settling.{IsAtHomes}
use Rattle.log_ring.proofs.settling.write_images.Goals as goal

pub returns-in_err-write_last-clause-writes : goal.returns-in_err-write_last-clause-writes
returns-in_err-write_last-clause-writes g c =
    only_writes-then (g.R.Rack.disk c.args.rack.now) (g.R.Rack.disk c.loop-written.rack) (g.R.Rack.disk c.write_last.new.rack) (IsAtHomes c.args.images.now) c.loop-written.invariant.writes c.write_last.ensures.writes

pub loop-written-preserved : goal.loop-written-preserved
loop-written-preserved g c =
    let old = g.R.Rack.disk c.args.rack.now in
    let mid = g.R.Rack.disk c.loop-written.rack in
    let new = g.R.Rack.disk c.write_last.new.rack in
    let images = c.args.images.now in
    let n = length images in
    let done = c.loop-written.written in
    let so_far = c.loop-written.invariant in
    let left : done < n = c.loop-written-test.true in
    let before : n - done ≡ n - 1 - done + 1 = omega arith in
    let after : n - 1 - done ≡ n - (done + 1) = omega arith in
    record {
      writes = only_writes-then old mid new (IsAtHomes images) so_far.writes c.write_last.ensures.writes;
      passed = c.in_ok-write_last.ensures.fault ∙ so_far.passed;
      few = omega (arith, so_far.few, c.write_last.ensures.few);
      home = λ told.
          subst (λ (at : ℕ). AreHome (drop at images) new.now.contents) after
          (c.in_ok-write_last.ensures.home (so_far.writes.touches.told ∙ told) (subst (λ (at : ℕ). AreHome (drop at images) mid.now.contents) before (so_far.home told)));
    }
