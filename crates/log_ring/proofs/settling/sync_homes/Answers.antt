use Rattle.std.proofs.Common.{ℕ, ◌+◌, refl, sym, ◌∙◌, subst, arith}
use Rattle.disk_label.specs.volume_disk.Image.{NoPlace}
use Rattle.disk_label.proofs.OfVolumeDisk.Laws.{only_writes-then, touches-none}
use Rattle.log_ring.specs.Homes.{IsHomeOf}
use Rattle.log_ring.specs.Settling.{AreSyncedBelow}
use Rattle.log_ring.proofs.HomePages.{each_home}
use Rattle.log_ring.proofs.settling.sync_homes.Goals as goal

pub loop-number-init : goal.loop-number-init
loop-number-init g c =
    let old = g.R.Rack.disk c.args.rack.now in
    record {
      writes = record { touches = touches-none old NoPlace; read_faults = refl };
      passed = refl;
      few = omega arith;
      synced = λ told home has below k. absurd (let is : IsHomeOf old.sizes home = each_home (IsHomeOf old.sizes) c.args.images.now home c.requires has in let low = is.first_volume in omega arith);
    }

pub returns-in_err-sync_home-clause-writes : goal.returns-in_err-sync_home-clause-writes
returns-in_err-sync_home-clause-writes g c = only_writes-then (g.R.Rack.disk c.args.rack.now) (g.R.Rack.disk c.loop-number.rack) (g.R.Rack.disk c.sync_home.new.rack) NoPlace c.loop-number.invariant.writes c.sync_home.ensures.writes

pub loop-number-preserved : goal.loop-number-preserved
loop-number-preserved g c =
    let old = g.R.Rack.disk c.args.rack.now in
    let mid = g.R.Rack.disk c.loop-number.rack in
    let new = g.R.Rack.disk c.sync_home.new.rack in
    let so_far = c.loop-number.invariant in
    record {
      writes = only_writes-then old mid new NoPlace so_far.writes c.sync_home.ensures.writes;
      passed = c.in_ok-sync_home.ensures.fault ∙ so_far.passed;
      few = omega (arith, so_far.few, c.sync_home.ensures.few);
      synced = λ told.
          subst (λ (v : ℕ). AreSyncedBelow (v + 1) c.args.images.now new.now) c.in-Some.ensures.value
          (c.in_ok-sync_home.ensures.synced (so_far.writes.touches.told ∙ told) (subst (λ (v : ℕ). AreSyncedBelow v c.args.images.now mid.now) (sym c.in-Some.ensures.value) (so_far.synced told)));
    }
