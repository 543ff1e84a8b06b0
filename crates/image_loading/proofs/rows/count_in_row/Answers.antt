use Rattle.std.proofs.Common.{arith}
use Rattle.slot_files.specs.page_ways.Frame.{frame_in}
use Rattle.image_loading.proofs.PagesRead.{none_so_far, one_so_far}
use Rattle.image_loading.proofs.rows.count_in_row.Goals as goal

pub loop-count-init : goal.loop-count-init
loop-count-init g c = record {
  some = omega arith;
  come = none_so_far (g.M.MetaPages.pages c.args.pages.now) (frame_in c.args.frame.now) c.args.home.now;
}

pub loop-count-preserved : goal.loop-count-preserved
loop-count-preserved g c = record {
  some = let some = c.loop-count.invariant.some in omega (arith, some);
  come = one_so_far c.loop-count.count (g.M.MetaPages.pages c.args.pages.now) (frame_in c.args.frame.now) c.args.home.now c.loop-count.invariant.come (c.comes_along.ensures.0 c.if-not-comes_along.false);
}
