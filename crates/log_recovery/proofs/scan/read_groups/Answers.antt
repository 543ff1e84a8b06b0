use Rattle.std.proofs.Common.{◌++◌, ◌∷◌, [], ℕ, List, subst, ◌∙◌}
use Rattle.log_ring.specs.volume_disk.Image.{Image}
use Rattle.log_ring.proofs.OfVolumeDisk.Laws.{only_reads-then}
use Rattle.log_recovery.specs.Groups.{HasScanned, IsOneMore}
use Rattle.log_recovery.proofs.Reading.{held_before, held_now, told_on}
use Rattle.log_recovery.proofs.scan.read_groups.Goals as goal

pub returns-in-Ok-false-clause-reads : goal.returns-in-Ok-false-clause-reads
returns-in-Ok-false-clause-reads g c = only_reads-then (g.R.Rack.disk c.args.rack.now) (g.R.Rack.disk c.loop-scan.rack) (g.R.Rack.disk c.read_group.new.rack) c.loop-scan.invariant.reads c.read_group.ensures.reads

pub returns-in-Err-clause-reads : goal.returns-in-Err-clause-reads
returns-in-Err-clause-reads g c = only_reads-then (g.R.Rack.disk c.args.rack.now) (g.R.Rack.disk c.loop-scan.rack) (g.R.Rack.disk c.read_group.new.rack) c.loop-scan.invariant.reads c.read_group.ensures.reads

pub loop-scan-preserved : goal.loop-scan-preserved
loop-scan-preserved g c =
    let old = g.R.Rack.disk c.args.rack.now in
    let mid = g.R.Rack.disk c.loop-scan.rack in
    let anchor = c.args.anchor.now in
    let scan = c.loop-scan.scan in
    let next = c.read_group.new.scan in
    let so_far = c.loop-scan.invariant in
    record {
      reads = only_reads-then old mid (g.R.Rack.disk c.read_group.new.rack) so_far.reads c.read_group.ensures.reads;
      passed = c.in-Ok-true.ensures.passed ∙ so_far.passed;
      used = c.in-Ok-true.ensures.used;
      loggable = c.in-Ok-true.ensures.loggable so_far.loggable;
      groups = λ told.
          let was = so_far.groups told in
          let one = subst (IsOneMore mid.now.contents anchor was.0 scan next) c.in-Ok-true.field-0-test (c.in-Ok-true.ensures.more (told_on old mid so_far.reads told) was.0 (held_now (λ (sizes : List ℕ) (image : Image). HasScanned image anchor was.0 scan) old mid so_far.reads told was.1)) in
          (was.0 ++ one.0 ∷ [], held_before (λ (sizes : List ℕ) (image : Image). HasScanned image anchor (was.0 ++ one.0 ∷ []) next) old mid so_far.reads told one.1);
    }
