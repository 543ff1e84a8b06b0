use Rattle.std.proofs.Common.{◌≡◌, ◌∙◌, subst, sym}
use Rattle.slot_files.proofs.OfVolumeDisk.Laws.{only_reads-then}
use Rattle.slot_files.specs.log_ring.Homes.{HasMembers}
use Rattle.domain_faults.proofs.ReadPages.{members_more, on_rack, read_before, read_now}
use Rattle.domain_faults.proofs.members.read_members.Goals as goal

pub read_volume-requires : goal.read_volume-requires
read_volume-requires g c =
    on_rack (g.R.Rack.disk c.loop-number.rack).sizes c.args.redone.now.anchor c.in-Some.vol c.pages_of-count.result
    (subst (λ sizes. HasMembers sizes c.args.redone.now.anchor) (sym c.loop-number.invariant.reads.touches.sizes) c.requires) c.pages_of-count.ensures.member c.pages_of-count.ensures.other

pub returns-in-Err-clause-reads : goal.returns-in-Err-clause-reads
returns-in-Err-clause-reads g c = only_reads-then (g.R.Rack.disk c.args.rack.now) (g.R.Rack.disk c.loop-number.rack) (g.R.Rack.disk c.read_volume.new.rack) c.loop-number.invariant.reads c.read_volume.ensures.reads

pub loop-number-preserved : goal.loop-number-preserved
loop-number-preserved g c =
    let old = g.R.Rack.disk c.args.rack.now in
    let mid = g.R.Rack.disk c.loop-number.rack in
    let so_far = c.loop-number.invariant in
    let images = c.args.redone.now.images in
    let before = g.M.MetaPages.pages c.loop-number.pages in
    let after = g.M.MetaPages.pages c.read_volume.new.pages in
    record {
      reads = only_reads-then old mid (g.R.Rack.disk c.read_volume.new.rack) so_far.reads c.read_volume.ensures.reads;
      passed = c.in-Ok.ensures.passed ∙ so_far.passed;
      pages = members_more old images c.args.redone.now.anchor c.loop-number.number c.in-Some.vol c.pages_of-count.result before after c.in-Some.ensures.value c.pages_of-count.ensures.member
          (λ home same less. read_before old mid so_far.reads images after home (c.in-Ok.ensures.pages home same less))
          (λ home was. read_before old mid so_far.reads images after home (c.in-Ok.ensures.kept home (read_now old mid so_far.reads images before home was))) so_far.pages;
    }
