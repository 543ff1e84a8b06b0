use Rattle.std.proofs.Common.{ℕ, ◌+◌, refl, sym, ◌∙◌, subst, arith}
use Rattle.volume_disk.specs.Image.{NoPlace}
use Rattle.volume_disk.specs.Run.{IsSettledBelow}
use Rattle.volume_disk.proofs.Laws.{only_writes-then, touches-none}
use Rattle.volume_disk.proofs.Settling.{none_before}
use Rattle.volume_disk.proofs.synced.sync_volumes.Goals as goal

pub loop-number-init : goal.loop-number-init
loop-number-init g c =
    let old = g.R.Rack.disk c.args.rack.now in
    record {
      writes = record { touches = touches-none old NoPlace; read_faults = refl };
      passed = refl;
      few = omega arith;
      settled = λ told. none_before old (g.met.R.Rack.pends_within c.args.rack.now told);
    }

pub returns-in_err-sync_there-clause-writes : goal.returns-in_err-sync_there-clause-writes
returns-in_err-sync_there-clause-writes g c =
    only_writes-then (g.R.Rack.disk c.args.rack.now) (g.R.Rack.disk c.loop-number.rack) (g.R.Rack.disk c.sync_there.new.rack) NoPlace c.loop-number.invariant.writes c.sync_there.ensures.writes

pub loop-number-preserved : goal.loop-number-preserved
loop-number-preserved g c =
    let old = g.R.Rack.disk c.args.rack.now in
    let mid = g.R.Rack.disk c.loop-number.rack in
    let new = g.R.Rack.disk c.sync_there.new.rack in
    let so_far = c.loop-number.invariant in
    record {
      writes = only_writes-then old mid new NoPlace so_far.writes c.sync_there.ensures.writes;
      passed = c.in_ok-sync_there.ensures.fault ∙ so_far.passed;
      few = omega (arith, so_far.few, c.sync_there.ensures.few);
      settled = λ told.
          subst (λ (v : ℕ). IsSettledBelow (v + 1) new.now) c.in-Some.ensures.value
          (c.in_ok-sync_there.ensures.settled (so_far.writes.touches.told ∙ told) (subst (λ (v : ℕ). IsSettledBelow v mid.now) (sym c.in-Some.ensures.value) (so_far.settled told)));
    }
