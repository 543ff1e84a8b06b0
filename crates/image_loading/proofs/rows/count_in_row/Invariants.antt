use Rattle.std.proofs.Common.{◌≤◌}
use Rattle.slot_files.specs.page_ways.Frame.{frame_in}
use Rattle.image_loading.proofs.PagesRead.{ComeSoFar}
use Rattle.image_loading.proofs.rows.count_in_row.Given as goal

abbrev pub invariant-loop-count : goal.invariant-loop-count
invariant-loop-count g l = record {
  some : 1 ≤ l.count;
  come : ComeSoFar l.count (g.M.MetaPages.pages l.pages) (frame_in l.frame) l.home;
}
