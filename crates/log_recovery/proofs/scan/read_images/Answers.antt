use Rattle.std.proofs.Common.{◌≡◌, ◌+◌, ℕ, List, refl, ◌∙◌}
use Rattle.log_ring.specs.volume_disk.Disk.{Tells}
use Rattle.log_ring.specs.volume_disk.Image.{Image}
use Rattle.log_ring.proofs.OfVolumeDisk.Laws.{only_reads-none, only_reads-then}
use Rattle.log_ring.specs.Ring.{place_at}
use Rattle.log_recovery.proofs.Reading.{held_before, told_on}
use Rattle.log_recovery.proofs.Scanning.{adds_more, adds_none}
use Rattle.log_recovery.proofs.scan.read_images.Goals as goal

pub loop-i-init : goal.loop-i-init
loop-i-init g c = record {
  reads = only_reads-none (g.R.Rack.disk c.args.rack.now);
  passed = refl;
  added = adds_none (g.R.Rack.disk c.args.rack.now) c.args.anchor.now c.args.place c.args.images.now.items;
}

pub returns-in_err-push-in-Ok-clause-reads : goal.returns-in_err-push-in-Ok-clause-reads
returns-in_err-push-in-Ok-clause-reads g c = only_reads-then (g.R.Rack.disk c.args.rack.now) (g.R.Rack.disk c.loop-i.rack) (g.R.Rack.disk c.read_place.new.rack) c.loop-i.invariant.reads c.read_place.ensures.reads

pub returns-in-Err-clause-reads : goal.returns-in-Err-clause-reads
returns-in-Err-clause-reads g c = only_reads-then (g.R.Rack.disk c.args.rack.now) (g.R.Rack.disk c.loop-i.rack) (g.R.Rack.disk c.read_place.new.rack) c.loop-i.invariant.reads c.read_place.ensures.reads

pub loop-i-preserved : goal.loop-i-preserved
loop-i-preserved g c =
    let old = g.R.Rack.disk c.args.rack.now in
    let mid = g.R.Rack.disk c.loop-i.rack in
    let so_far = c.loop-i.invariant in
    let read : Tells old → c.in-Ok.page ≡ place_at old.now.contents c.args.anchor.now (c.args.place + c.loop-i.i) =
    λ told. held_before (λ (sizes : List ℕ) (image : Image). c.in-Ok.page ≡ place_at image c.args.anchor.now (c.args.place + c.loop-i.i)) old mid so_far.reads told (c.in-Ok.ensures.page (told_on old mid so_far.reads told)) in
    record {
      reads = only_reads-then old mid (g.R.Rack.disk c.read_place.new.rack) so_far.reads c.read_place.ensures.reads;
      passed = c.in-Ok.ensures.passed ∙ so_far.passed;
      added = adds_more old c.args.anchor.now c.args.place c.loop-i.i c.args.homes.now c.index-homes-i.result c.in-Ok.page c.args.images.now.items c.loop-i.images.items c.push.new.self.items c.loop-i-test.true c.index-homes-i.is c.in_ok-push-in-Ok.ensures.items
          read so_far.added;
    }
