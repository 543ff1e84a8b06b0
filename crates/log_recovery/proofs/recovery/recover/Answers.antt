use Rattle.std.proofs.Common.{ℕ, List}
use Rattle.log_ring.specs.volume_disk.Disk.{Tells}
use Rattle.log_ring.specs.volume_disk.Image.{Image}
use Rattle.log_ring.proofs.OfVolumeDisk.Laws.{only_reads-then}
use Rattle.log_recovery.specs.Groups.{HasScannedAll, IsFirstNoGroup}
use Rattle.log_recovery.specs.Outcome.{IsFirstFault}
use Rattle.log_recovery.proofs.Outcomes.{no_group_there, recovered}
use Rattle.log_recovery.proofs.Reading.{held_before, not_a_domain, told_on}
use Rattle.log_recovery.proofs.recovery.recover.Goals as goal

pub returns-in-Ok-read_groups-clause-reads : goal.returns-in-Ok-read_groups-clause-reads
returns-in-Ok-read_groups-clause-reads g c = only_reads-then (g.R.Rack.disk c.args.rack.now) (g.R.Rack.disk c.good_anchor.new.rack) (g.R.Rack.disk c.read_groups.new.rack) c.good_anchor.ensures.reads c.read_groups.ensures.reads

pub returns-in-Err-read_groups-clause-reads : goal.returns-in-Err-read_groups-clause-reads
returns-in-Err-read_groups-clause-reads g c = only_reads-then (g.R.Rack.disk c.args.rack.now) (g.R.Rack.disk c.good_anchor.new.rack) (g.R.Rack.disk c.read_groups.new.rack) c.good_anchor.ensures.reads c.read_groups.ensures.reads

pub returns-in-Ok-read_groups-clause-recovered : goal.returns-in-Ok-read_groups-clause-recovered
returns-in-Ok-read_groups-clause-recovered g c told =
    let old = g.R.Rack.disk c.args.rack.now in
    let mid = g.R.Rack.disk c.good_anchor.new.rack in
    let reads = c.good_anchor.ensures.reads in
    let anchor = c.in-Ok.anchor in
    let scan = c.in-Ok-read_groups.scan in
    recovered old.sizes old.now.contents anchor scan c.redone_of.result c.redone_of.ensures.anchor c.redone_of.ensures.images c.redone_of.ensures.next_group c.redone_of.ensures.next_place (c.in-Ok.ensures.good told)
    (held_before (λ (sizes : List ℕ) (image : Image). HasScannedAll image anchor scan) old mid reads told (c.in-Ok-read_groups.ensures.groups (told_on old mid reads told)))

pub returns-in-Err-read_groups-clause-wrong : goal.returns-in-Err-read_groups-clause-wrong
returns-in-Err-read_groups-clause-wrong g c =
    let old = g.R.Rack.disk c.args.rack.now in
    let mid = g.R.Rack.disk c.good_anchor.new.rack in
    let reads = c.good_anchor.ensures.reads in
    let anchor = c.in-Ok.anchor in
    not_a_domain c.in-Err-read_groups.fault (λ vol at. Tells mid → IsFirstNoGroup mid.now.contents anchor vol at) (λ vol at. Tells old → IsFirstFault old.sizes old.now.contents vol at)
    (λ vol at wrong told.
    no_group_there old.sizes old.now.contents anchor vol at (c.in-Ok.ensures.good told) (held_before (λ (sizes : List ℕ) (image : Image). IsFirstNoGroup image anchor vol at) old mid reads told (wrong (told_on old mid reads told))))
    c.in-Err-read_groups.ensures.wrong
