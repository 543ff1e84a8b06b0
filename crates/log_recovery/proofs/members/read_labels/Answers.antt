use Rattle.std.proofs.Common.{◌≡◌, ◌+◌, ℕ, List, length-set, subst, ◌∙◌, arith}
use Rattle.log_ring.specs.volume_disk.Disk.{Tells}
use Rattle.log_ring.proofs.OfVolumeDisk.Laws.{only_reads-then}
use Rattle.log_ring.specs.Homes.{IsMember}
use Rattle.log_recovery.specs.Members.{IsLabelled, IsThere, label_version}
use Rattle.log_recovery.proofs.Labels.{labelled_more, there_more, versions_more}
use Rattle.log_recovery.proofs.Reading.{held_before, told_on}
use Rattle.log_recovery.proofs.members.read_labels.Goals as goal

pub returns-in-Err-clause-reads : goal.returns-in-Err-clause-reads
returns-in-Err-clause-reads g c = only_reads-then (g.R.Rack.disk c.args.rack.now) (g.R.Rack.disk c.loop-number.rack) (g.R.Rack.disk c.check_member.new.rack) c.loop-number.invariant.reads c.check_member.ensures.reads

pub loop-number-preserved : goal.loop-number-preserved
loop-number-preserved g c =
    let old = g.R.Rack.disk c.args.rack.now in
    let mid = g.R.Rack.disk c.loop-number.rack in
    let so_far = c.loop-number.invariant in
    let anchor = c.args.anchor.now in
    let number = c.loop-number.number in
    let is : c.in-Some.vol ≡ number = c.in-Some.ensures.value in
    let fine = c.in-Ok.ensures in
    let label : Tells old → IsMember anchor number → IsLabelled old.sizes old.now.contents anchor number × (c.in-Ok.version ≡ label_version old.now.contents number) =
    λ told.
    held_before (λ sizes image. IsMember anchor number → IsLabelled sizes image anchor number × (c.in-Ok.version ≡ label_version image number)) old mid so_far.reads told
    (subst (λ (vol : ℕ). IsMember anchor vol → IsLabelled mid.sizes mid.now.contents anchor vol × (c.in-Ok.version ≡ label_version mid.now.contents vol)) is (fine.label (told_on old mid so_far.reads told))) in
    let place : c.index.result + 1 ≡ number = c.index.ensures.value ∙ is in
    record {
      reads = only_reads-then old mid (g.R.Rack.disk c.check_member.new.rack) so_far.reads c.check_member.ensures.reads;
      passed = fine.passed ∙ so_far.passed;
      count = length-set c.loop-number.versions c.index.result c.in-Ok.version ∙ so_far.count;
      there = there_more old.sizes anchor number so_far.there (subst (λ (sizes : List ℕ). IsMember anchor number → IsThere sizes anchor number) so_far.reads.touches.sizes (subst (λ (vol : ℕ). IsMember anchor vol → IsThere mid.sizes anchor vol) is fine.there));
      labelled = λ told. labelled_more old.sizes old.now.contents anchor number (so_far.labelled told) (λ member. (label told member).0);
      versions = λ told. versions_more old.now.contents anchor number c.loop-number.versions c.index.result c.in-Ok.version place (omega (arith, so_far.count, c.index.ensures.range)) (so_far.versions told) (λ member. (label told member).1);
    }
