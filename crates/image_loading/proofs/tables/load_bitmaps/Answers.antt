use Rattle.std.proofs.Common.{◌∙◌, refl, arith, subst}
use Rattle.image_loading.specs.Loading.{HasBitmap}
use Rattle.slot_files.specs.page_ways.Frame.{frame_in}
use Rattle.image_loading.proofs.Brought.{brings_none, brings_then, members_stay}
use Rattle.image_loading.proofs.Walking.{bitmaps_next}
use Rattle.image_loading.proofs.tables.load_bitmaps.Goals as goal

pub load_bitmap-requires : goal.load_bitmap-requires
load_bitmap-requires g c =
    members_stay (g.R.Rack.disk c.args.rack.now) (g.R.Rack.disk c.loop-number.rack) c.args.frame.now.anchor c.loop-number.invariant.brings.reads c.requires

pub loop-number-init : goal.loop-number-init
loop-number-init g c = record {
  brings = brings_none (g.R.Rack.disk c.args.rack.now) (g.M.MetaPages.pages c.args.pages.now);
  passed = refl;
  before = refl;
  whole = λ vol less page first last within. absurd (omega (arith, less, within.0.first));
}

pub loop-number-preserved : goal.loop-number-preserved
loop-number-preserved g c =
    let disk = g.R.Rack.disk in
    let pages = g.M.MetaPages.pages in
    record {
      brings = brings_then (disk c.args.rack.now) (disk c.loop-number.rack) (disk c.load_bitmap.new.rack) (pages c.args.pages.now) (pages c.loop-number.pages) (pages c.load_bitmap.new.pages)
          c.loop-number.invariant.brings c.load_bitmap.ensures.brings;
      passed = c.in_ok-load_bitmap.ensures.fault ∙ c.loop-number.invariant.passed;
      before = c.load_bitmap.ensures.before ∙ c.loop-number.invariant.before;
      whole = bitmaps_next (pages c.loop-number.pages) (pages c.load_bitmap.new.pages) (frame_in c.args.frame.now) c.load_bitmap.ensures.brings.kept c.loop-number.number c.loop-number.invariant.whole (subst (HasBitmap (pages c.load_bitmap.new.pages) (frame_in c.args.frame.now)) c.volume.ensures c.in_ok-load_bitmap.ensures.whole);
    }

pub returns-in_err-load_bitmap-clause-brings : goal.returns-in_err-load_bitmap-clause-brings
returns-in_err-load_bitmap-clause-brings g c =
    let disk = g.R.Rack.disk in
    let pages = g.M.MetaPages.pages in
    brings_then (disk c.args.rack.now) (disk c.loop-number.rack) (disk c.load_bitmap.new.rack) (pages c.args.pages.now) (pages c.loop-number.pages) (pages c.load_bitmap.new.pages)
    c.loop-number.invariant.brings c.load_bitmap.ensures.brings

pub returns-clause-whole : goal.returns-clause-whole
returns-clause-whole g c = λ vol page first last within. c.loop-number.invariant.whole vol (omega (arith, within.0.last, c.loop-number-test.false)) page first last within
