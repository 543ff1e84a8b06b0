use Rattle.std.proofs.Common.{arith, ◌+◌, sym, ◌∙◌}
use Rattle.volume_disk.specs.Disk.{Tells}
use Rattle.volume_disk.proofs.Laws.{only_reads-then}
use Rattle.disk_label.proofs.Slots.{IsAnchorBelow-same}
use Rattle.disk_label.proofs.store.read_anchor.Goals as goal

pub returns-in-Err-clause-reads : goal.returns-in-Err-clause-reads
returns-in-Err-clause-reads g c = only_reads-then (g.R.Rack.disk c.args.rack.now) (g.R.Rack.disk c.loop-place.rack) (g.R.Rack.disk c.look_at.new.rack) c.loop-place.invariant.reads c.look_at.ensures.reads

pub loop-place-preserved : goal.loop-place-preserved
loop-place-preserved g c =
    let old = g.R.Rack.disk c.args.rack.now in
    let mid = g.R.Rack.disk c.loop-place.rack in
    let so_far = c.loop-place.invariant in
    record {
      reads = only_reads-then old mid (g.R.Rack.disk c.look_at.new.rack) so_far.reads c.look_at.ensures.reads;
      passed = c.in-Ok.ensures.fault ∙ so_far.passed;
      few = omega (arith, so_far.few, c.look_at.ensures.few);
      best = λ told.
          let mid_told : Tells mid = so_far.reads.touches.told ∙ told in
          IsAnchorBelow-same (c.loop-place.place + 1) mid.sizes old.sizes mid.now old.now _ (sym so_far.reads.touches.sizes) (sym (so_far.reads.now told))
          (c.in-Ok.ensures.better mid_told (IsAnchorBelow-same c.loop-place.place old.sizes mid.sizes old.now mid.now _ so_far.reads.touches.sizes (so_far.reads.now told) (so_far.best told)));
    }
