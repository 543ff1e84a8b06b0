use Rattle.std.proofs.Common.{◌≡◌, take}
use Rattle.domain_faults.specs.domain_base.declared.place.Home.{Home}
use Rattle.domain_faults.specs.log_ring.Images.{overlaid}
use Rattle.domain_bringing.proofs.images.lay_images.Given as goal

abbrev pub invariant-loop-image : goal.invariant-loop-image
invariant-loop-image g l = record {
  laid : (home : Home) → g.M.MetaPages.pages l.pages home ≡ overlaid (take l.image-index l.images) (g.M.MetaPages.pages l.fn.pages) home;
  before : g.M.MetaPages.before l.pages ≡ g.M.MetaPages.before l.fn.pages;
}
