use Rattle.std.proofs.Common.{◌∙◌, refl, arith, subst}
use Rattle.image_loading.specs.Loading.{HasCellsOf}
use Rattle.slot_files.specs.page_ways.Frame.{frame_in}
use Rattle.image_loading.proofs.Brought.{brings_none, brings_then, members_stay}
use Rattle.image_loading.proofs.Walking.{cells_next}
use Rattle.image_loading.proofs.tables.load_cells.Goals as goal

pub load_cells_of-requires : goal.load_cells_of-requires
load_cells_of-requires g c =
    members_stay (g.R.Rack.disk c.args.rack.now) (g.R.Rack.disk c.loop-number.rack) c.args.frame.now.anchor c.loop-number.invariant.brings.reads c.requires

pub loop-number-init : goal.loop-number-init
loop-number-init g c = record {
  brings = brings_none (g.R.Rack.disk c.args.rack.now) (g.M.MetaPages.pages c.args.pages.now);
  passed = refl;
  before = refl;
  whole = λ vol less member. absurd (omega (arith, less, member.first));
}

pub loop-number-preserved : goal.loop-number-preserved
loop-number-preserved g c =
    let disk = g.R.Rack.disk in
    let pages = g.M.MetaPages.pages in
    record {
      brings = brings_then (disk c.args.rack.now) (disk c.loop-number.rack) (disk c.load_cells_of.new.rack) (pages c.args.pages.now) (pages c.loop-number.pages) (pages c.load_cells_of.new.pages)
          c.loop-number.invariant.brings c.load_cells_of.ensures.brings;
      passed = c.in_ok-load_cells_of.ensures.fault ∙ c.loop-number.invariant.passed;
      before = c.load_cells_of.ensures.before ∙ c.loop-number.invariant.before;
      whole = cells_next (pages c.loop-number.pages) (pages c.load_cells_of.new.pages) (frame_in c.args.frame.now) c.load_cells_of.ensures.brings.kept c.loop-number.number c.loop-number.invariant.whole (subst (HasCellsOf (pages c.load_cells_of.new.pages) (frame_in c.args.frame.now)) c.volume.ensures c.in_ok-load_cells_of.ensures.whole);
    }

pub returns-in_err-load_cells_of-clause-brings : goal.returns-in_err-load_cells_of-clause-brings
returns-in_err-load_cells_of-clause-brings g c =
    let disk = g.R.Rack.disk in
    let pages = g.M.MetaPages.pages in
    brings_then (disk c.args.rack.now) (disk c.loop-number.rack) (disk c.load_cells_of.new.rack) (pages c.args.pages.now) (pages c.loop-number.pages) (pages c.load_cells_of.new.pages)
    c.loop-number.invariant.brings c.load_cells_of.ensures.brings

pub returns-clause-whole : goal.returns-clause-whole
returns-clause-whole g c = λ vol member. c.loop-number.invariant.whole vol (omega (arith, member.last, c.loop-number-test.false)) member
