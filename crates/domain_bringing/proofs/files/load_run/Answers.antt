use Rattle.std.proofs.Common.{◌∙◌, refl, arith}
use Rattle.domain_faults.specs.page_ways.Frame.{frame_in}
use Rattle.image_loading.proofs.Brought.{brings_none, brings_then, members_stay}
use Rattle.domain_bringing.proofs.Runs.{all_below, one_below}
use Rattle.domain_bringing.proofs.files.load_run.Goals as goal

pub load_page-requires : goal.load_page-requires
load_page-requires g c = members_stay (g.R.Rack.disk c.args.rack.now) (g.R.Rack.disk c.loop-number.rack) c.args.frame.now.anchor c.loop-number.invariant.brings.reads c.requires

pub loop-number-init : goal.loop-number-init
loop-number-init g c = record {
  brings = brings_none (g.R.Rack.disk c.args.rack.now) (g.M.MetaPages.pages c.args.pages.now);
  passed = refl;
  before = refl;
  there = λ page is less. let low = is.0 in absurd (omega (arith, low, less));
}

pub loop-number-preserved : goal.loop-number-preserved
loop-number-preserved g c =
    let disk = g.R.Rack.disk in
    let pages = g.M.MetaPages.pages in
    record {
      brings = brings_then (disk c.args.rack.now) (disk c.loop-number.rack) (disk c.load_page.new.rack) (pages c.args.pages.now) (pages c.loop-number.pages) (pages c.load_page.new.pages) c.loop-number.invariant.brings c.load_page.ensures.brings;
      passed = c.in_ok-load_page.ensures.fault ∙ c.loop-number.invariant.passed;
      before = c.load_page.ensures.before ∙ c.loop-number.invariant.before;
      there = one_below (pages c.loop-number.pages) (pages c.load_page.new.pages) (frame_in c.args.frame.now) c.args.run.now c.loop-number.number c.load_page.ensures.brings.kept c.loop-number.invariant.there c.in_ok-load_page.ensures.there;
    }

pub returns-in_err-load_page-clause-brings : goal.returns-in_err-load_page-clause-brings
returns-in_err-load_page-clause-brings g c =
    let disk = g.R.Rack.disk in
    let pages = g.M.MetaPages.pages in
    brings_then (disk c.args.rack.now) (disk c.loop-number.rack) (disk c.load_page.new.rack) (pages c.args.pages.now) (pages c.loop-number.pages) (pages c.load_page.new.pages) c.loop-number.invariant.brings c.load_page.ensures.brings

pub returns-clause-there : goal.returns-clause-there
returns-clause-there g c = all_below (g.M.MetaPages.pages c.loop-number.pages) (frame_in c.args.frame.now) c.args.run.now c.loop-number.number c.loop-number-test.false c.loop-number.invariant.there
