use Rattle.std.proofs.Common.{ℕ, List, Some}
use Rattle.log_ring.specs.volume_disk.Disk.{Tells}
use Rattle.log_ring.specs.volume_disk.Image.{Image}
use Rattle.log_ring.proofs.OfVolumeDisk.Laws.{only_reads-then}
use Rattle.log_ring.specs.disk_label.Anchor.{IsAnchor}
use Rattle.log_recovery.specs.Outcome.{IsFirstFault}
use Rattle.log_recovery.proofs.Reading.{held_before, held_now, not_a_domain, told_on}
use Rattle.log_recovery.proofs.recovery.good_anchor.Goals as goal

pub returns-in-Ok-check_anchor-clause-reads : goal.returns-in-Ok-check_anchor-clause-reads
returns-in-Ok-check_anchor-clause-reads g c = only_reads-then (g.R.Rack.disk c.args.rack.now) (g.R.Rack.disk c.counting_anchor.new.rack) (g.R.Rack.disk c.check_anchor.new.rack) c.counting_anchor.ensures.reads c.check_anchor.ensures.reads

pub returns-in-Err-check_anchor-clause-reads : goal.returns-in-Err-check_anchor-clause-reads
returns-in-Err-check_anchor-clause-reads g c = only_reads-then (g.R.Rack.disk c.args.rack.now) (g.R.Rack.disk c.counting_anchor.new.rack) (g.R.Rack.disk c.check_anchor.new.rack) c.counting_anchor.ensures.reads c.check_anchor.ensures.reads

pub returns-in-Err-check_anchor-clause-wrong : goal.returns-in-Err-check_anchor-clause-wrong
returns-in-Err-check_anchor-clause-wrong g c =
    let old = g.R.Rack.disk c.args.rack.now in
    let mid = g.R.Rack.disk c.counting_anchor.new.rack in
    let reads = c.counting_anchor.ensures.reads in
    let anchor = c.in-Ok.anchor in
    not_a_domain c.in-Err-check_anchor.fault
    (λ vol at. Tells mid → IsAnchor mid.sizes mid.now.contents (Some anchor) → IsFirstFault mid.sizes mid.now.contents vol at)
    (λ vol at. Tells old → IsFirstFault old.sizes old.now.contents vol at)
    (λ vol at wrong told.
    held_before (λ (sizes : List ℕ) (image : Image). IsFirstFault sizes image vol at) old mid reads told
    (wrong (told_on old mid reads told) (held_now (λ (sizes : List ℕ) (image : Image). IsAnchor sizes image (Some anchor)) old mid reads told (c.in-Ok.ensures.anchor told))))
    c.in-Err-check_anchor.ensures.wrong
