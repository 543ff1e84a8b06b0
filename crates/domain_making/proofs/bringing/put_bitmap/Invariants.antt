use Rattle.std.proofs.Common.{◌≡◌}
use Rattle.domain_making.specs.Making.{new_frame}
use Rattle.domain_making.specs.Pages.{HasNewBitmaps}
use Rattle.domain_making.proofs.bringing.put_bitmap.Given as goal

abbrev pub invariant-loop-number : goal.invariant-loop-number
invariant-loop-number g l = record {
  there : HasNewBitmaps (g.M.MetaPages.pages l.store) (new_frame l.fn.version l.fn.pages) l.number;
  before : g.M.MetaPages.before l.store ≡ g.M.MetaPages.before l.fn.store;
}
