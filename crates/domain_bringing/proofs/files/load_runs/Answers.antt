use Rattle.std.proofs.Common.{◌∙◌, refl}
use Rattle.domain_faults.specs.page_ways.Frame.{frame_in}
use Rattle.image_loading.proofs.Brought.{brings_none, brings_then, members_stay}
use Rattle.image_loading.proofs.Listed.{hold_next, hold_none}
use Rattle.domain_bringing.specs.Files.{HasPagesOf}
use Rattle.domain_bringing.proofs.Runs.{all_runs, run_stays}
use Rattle.domain_bringing.proofs.files.load_runs.Goals as goal

pub load_run-requires : goal.load_run-requires
load_run-requires g c = members_stay (g.R.Rack.disk c.args.rack.now) (g.R.Rack.disk c.loop-run.rack) c.args.frame.now.anchor c.loop-run.invariant.brings.reads c.requires

pub loop-run-init : goal.loop-run-init
loop-run-init g c = record {
  brings = brings_none (g.R.Rack.disk c.args.rack.now) (g.M.MetaPages.pages c.args.pages.now);
  passed = refl;
  before = refl;
  below = hold_none c.args.runs.now (HasPagesOf (g.M.MetaPages.pages c.args.pages.now) (frame_in c.args.frame.now));
}

pub loop-run-preserved : goal.loop-run-preserved
loop-run-preserved g c =
    let disk = g.R.Rack.disk in
    let pages = g.M.MetaPages.pages in
    let frame = frame_in c.args.frame.now in
    record {
      brings = brings_then (disk c.args.rack.now) (disk c.loop-run.rack) (disk c.load_run.new.rack) (pages c.args.pages.now) (pages c.loop-run.pages) (pages c.load_run.new.pages) c.loop-run.invariant.brings c.load_run.ensures.brings;
      passed = c.in_ok-load_run.ensures.fault ∙ c.loop-run.invariant.passed;
      before = c.load_run.ensures.before ∙ c.loop-run.invariant.before;
      below = hold_next c.args.runs.now c.loop-run.run-index c.run-item.result (HasPagesOf (pages c.loop-run.pages) frame) (HasPagesOf (pages c.load_run.new.pages) frame) c.loop-run-test.true c.run-item.is
          (λ run has. run_stays (pages c.loop-run.pages) (pages c.load_run.new.pages) frame run c.load_run.ensures.brings.kept has) c.loop-run.invariant.below c.in_ok-load_run.ensures.there;
    }

pub returns-in_err-load_run-clause-brings : goal.returns-in_err-load_run-clause-brings
returns-in_err-load_run-clause-brings g c =
    let disk = g.R.Rack.disk in
    let pages = g.M.MetaPages.pages in
    brings_then (disk c.args.rack.now) (disk c.loop-run.rack) (disk c.load_run.new.rack) (pages c.args.pages.now) (pages c.loop-run.pages) (pages c.load_run.new.pages) c.loop-run.invariant.brings c.load_run.ensures.brings

pub returns-clause-there : goal.returns-clause-there
returns-clause-there g c = all_runs (g.M.MetaPages.pages c.loop-run.pages) (frame_in c.args.frame.now) c.args.runs.now c.args.runs.now c.loop-run.run-index refl c.loop-run-test.false c.loop-run.invariant.below
