use Rattle.std.proofs.Common.{refl, arith}
use Rattle.free_cells.proofs.MarkVolumes.{none_marked}
use Rattle.free_cells.proofs.changes.mark_changes.Goals as goal

pub loop-number-init : goal.loop-number-init
loop-number-init g c = record {
  below = none_marked c.args.space.now (g.M.MetaPages.pages c.args.pages.now) c.requires.said;
  first = omega arith;
  same_room = refl;
  same_before = refl;
}
