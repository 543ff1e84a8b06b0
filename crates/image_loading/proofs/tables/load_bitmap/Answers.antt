use Rattle.std.proofs.Common.{◌∙◌, refl, arith}
use Rattle.slot_files.specs.page_ways.Frame.{frame_in}
use Rattle.image_loading.proofs.Brought.{brings_none, brings_then, members_stay}
use Rattle.image_loading.proofs.Walking.{bitmap_next}
use Rattle.image_loading.proofs.tables.load_bitmap.Goals as goal

pub fetch_within-requires : goal.fetch_within-requires
fetch_within-requires g c = record {
  members = members_stay (g.R.Rack.disk c.args.rack.now) (g.R.Rack.disk c.loop-page.rack) c.args.frame.now.anchor c.loop-page.invariant.brings.reads c.requires;
}

pub loop-page-init : goal.loop-page-init
loop-page-init g c = record {
  brings = brings_none (g.R.Rack.disk c.args.rack.now) (g.M.MetaPages.pages c.args.pages.now);
  passed = refl;
  before = refl;
  whole = λ page first less. absurd (omega (arith, first, less));
}

pub loop-page-preserved : goal.loop-page-preserved
loop-page-preserved g c =
    let disk = g.R.Rack.disk in
    let pages = g.M.MetaPages.pages in
    record {
      brings = brings_then (disk c.args.rack.now) (disk c.loop-page.rack) (disk c.fetch_within.new.rack) (pages c.args.pages.now) (pages c.loop-page.pages) (pages c.fetch_within.new.pages)
          c.loop-page.invariant.brings c.fetch_within.ensures.brings;
      passed = c.in_ok-fetch_within.ensures.fault ∙ c.loop-page.invariant.passed;
      before = c.fetch_within.ensures.before ∙ c.loop-page.invariant.before;
      whole = bitmap_next (pages c.loop-page.pages) (pages c.fetch_within.new.pages) (frame_in c.args.frame.now) c.fetch_within.ensures.brings.kept c.args.vol c.loop-page.page c.loop-page.invariant.whole c.in_ok-fetch_within.ensures.there;
    }

pub returns-in_err-fetch_within-clause-brings : goal.returns-in_err-fetch_within-clause-brings
returns-in_err-fetch_within-clause-brings g c =
    let disk = g.R.Rack.disk in
    let pages = g.M.MetaPages.pages in
    brings_then (disk c.args.rack.now) (disk c.loop-page.rack) (disk c.fetch_within.new.rack) (pages c.args.pages.now) (pages c.loop-page.pages) (pages c.fetch_within.new.pages)
    c.loop-page.invariant.brings c.fetch_within.ensures.brings
