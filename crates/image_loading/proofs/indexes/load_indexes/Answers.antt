use Rattle.std.proofs.Common.{◌∙◌, length, refl, sym, subst, arith}
use Rattle.std.proofs.lemmas.Option.{slice_get_read}
use Rattle.slot_files.specs.page_ways.Frame.{frame_in}
use Rattle.slot_files.specs.page_faults.Indexes.{AreIndexes}
use Rattle.image_loading.proofs.Brought.{brings_none, brings_then, members_stay}
use Rattle.image_loading.proofs.Named.{all_there, at_place, indexes_next}
use Rattle.image_loading.proofs.indexes.load_indexes.Goals as goal

pub load_way-requires : goal.load_way-requires
load_way-requires g c =
    members_stay (g.R.Rack.disk c.args.rack.now) (g.R.Rack.disk c.loop-index.rack) c.args.frame.now.anchor c.loop-index.invariant.brings.reads c.requires.members

pub loop-index-init : goal.loop-index-init
loop-index-init g c = record {
  brings = brings_none (g.R.Rack.disk c.args.rack.now) (g.M.MetaPages.pages c.args.pages.now);
  passed = refl;
  before = refl;
  whole = λ k index less. absurd (omega (arith, less));
}

pub loop-index-preserved : goal.loop-index-preserved
loop-index-preserved g c =
    let disk = g.R.Rack.disk in
    let pages = g.M.MetaPages.pages in
    let items = c.deref-index-items.result.now in
    record {
      brings = brings_then (disk c.args.rack.now) (disk c.loop-index.rack) (disk c.load_way.new.rack) (pages c.args.pages.now) (pages c.loop-index.pages) (pages c.load_way.new.pages)
          c.loop-index.invariant.brings c.load_way.ensures.brings;
      passed = c.in_ok-load_way.ensures.fault ∙ c.loop-index.invariant.passed;
      before = c.load_way.ensures.before ∙ c.loop-index.invariant.before;
      whole = indexes_next (pages c.loop-index.pages) (pages c.load_way.new.pages) (frame_in c.args.frame.now) c.load_way.ensures.brings.kept items c.loop-index.index-index c.index-item.result
          (slice_get_read items (length items) c.loop-index.index-index c.index-item.result refl c.loop-index-test.true c.index-item.is) c.loop-index.invariant.whole c.in_ok-load_way.ensures.whole;
    }

pub returns-in_err-load_way-clause-brings : goal.returns-in_err-load_way-clause-brings
returns-in_err-load_way-clause-brings g c =
    let disk = g.R.Rack.disk in
    let pages = g.M.MetaPages.pages in
    brings_then (disk c.args.rack.now) (disk c.loop-index.rack) (disk c.load_way.new.rack) (pages c.args.pages.now) (pages c.loop-index.pages) (pages c.load_way.new.pages)
    c.loop-index.invariant.brings c.load_way.ensures.brings

pub returns-clause-whole : goal.returns-clause-whole
returns-clause-whole g c =
    let old = g.M.MetaPages.pages c.args.pages.now in
    let frame = frame_in c.args.frame.now in
    let items = c.deref-index-items.result.now in
    all_there old (g.M.MetaPages.pages c.loop-index.pages) frame c.loop-index.invariant.brings.kept c.requires.cells items
    (subst (AreIndexes old frame) (sym c.deref-index-items.ensures.value) c.in_ok-indexes.ensures)
    (λ index among. c.loop-index.invariant.whole among.0 index (omega (arith, among.1, c.loop-index-test.false)) (at_place items among.0 index among.1 among.2))
