use Rattle.std.proofs.Common.{◌≡◌, ◌+◌, ◌≤◌, length}
use Rattle.log_ring.specs.Images.{overlaid}
use Rattle.log_ring.proofs.change.Change.install.Given as goal

abbrev pub invariant-loop-image : goal.invariant-loop-image
invariant-loop-image g l = record {
  value : g.M.MetaPages.pages l.pages ≡ overlaid l.yielded (g.M.MetaPages.pages l.initial.pages);
  before : g.M.MetaPages.before l.pages ≡ g.M.MetaPages.before l.initial.pages;
  left : g.M.MetaPages.room l.initial.pages ≤ g.M.MetaPages.room l.pages + length l.yielded;
}
