use Rattle.std.proofs.Common.{◌∙◌}
use Rattle.domain_faults.proofs.OfVolumeDisk.Laws.{only_reads-then}
use Rattle.run_parts.proofs.Guarded.{one_page_more, zero_still}
use Rattle.run_parts.proofs.making.first_used.Goals as goal

pub returns-in_err-is_zero_page-clause-reads : goal.returns-in_err-is_zero_page-clause-reads
returns-in_err-is_zero_page-clause-reads g c =
    only_reads-then (g.R.Rack.disk c.args.rack.now) (g.R.Rack.disk c.loop-page.rack) (g.R.Rack.disk c.is_zero_page.new.rack) c.loop-page.invariant.reads c.is_zero_page.ensures.reads

pub returns-then-not-branch-clause-reads : goal.returns-then-not-branch-clause-reads
returns-then-not-branch-clause-reads g c =
    only_reads-then (g.R.Rack.disk c.args.rack.now) (g.R.Rack.disk c.loop-page.rack) (g.R.Rack.disk c.is_zero_page.new.rack) c.loop-page.invariant.reads c.is_zero_page.ensures.reads

pub loop-page-preserved : goal.loop-page-preserved
loop-page-preserved g c =
    let old = g.R.Rack.disk c.args.rack.now in
    let mid = g.R.Rack.disk c.loop-page.rack in
    let so_far = c.loop-page.invariant in
    record {
      reads = only_reads-then old mid (g.R.Rack.disk c.is_zero_page.new.rack) so_far.reads c.is_zero_page.ensures.reads;
      passed = c.in_ok-is_zero_page.ensures.fault ∙ so_far.passed;
      zeros = λ told.
          one_page_more c.loop-page.page old.now.contents (so_far.zeros told)
          (zero_still old mid c.loop-page.page c.in_ok-is_zero_page.field-0 so_far.reads told c.in_ok-is_zero_page.ensures.zeros c.if-not-branch.false);
    }
