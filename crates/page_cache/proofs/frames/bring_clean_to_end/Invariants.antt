use Rattle.std.proofs.Common.{◌≡◌, ◌+◌, ◌<◌}
use Rattle.page_cache.specs.Entries.{KeepsOrder, behind}
use Rattle.page_cache.proofs.frames.bring_clean_to_end.Given as goal

abbrev pub invariant-loop-passed : goal.invariant-loop-passed
invariant-loop-passed l = record {
  keeps : KeepsOrder l.fn.frames.entries l.frames.entries;
  nearer : l._passed + behind l.frames.entries < 1024;
  cap : l.frames.cap ≡ l.fn.frames.cap;
}
