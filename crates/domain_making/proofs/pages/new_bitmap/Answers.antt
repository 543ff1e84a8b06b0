use Rattle.std.proofs.Common.{◌∙◌, ap}
use Rattle.std.specs.FinSet.{contains}
use Rattle.domain_layout.specs.free_space.VolumePages.{VolumePages}
use Rattle.domain_making.proofs.NewBits.{used_more, used_none}
use Rattle.domain_making.proofs.pages.new_bitmap.Goals as goal

pub loop-page-init : goal.loop-page-init
loop-page-init c = record {
  count = ap (λ (m : VolumePages). m.pages) c.in_ok-bitmap.ensures;
  used = λ p. ap (λ (m : VolumePages). contains m.used p) c.in_ok-bitmap.ensures ∙ used_none p;
}

pub loop-page-preserved : goal.loop-page-preserved
loop-page-preserved c = record {
  count = ap (λ (m : VolumePages). m.pages) c.set.ensures ∙ c.loop-page.invariant.count;
  used = λ p. ap (λ (m : VolumePages). contains m.used p) c.set.ensures ∙ used_more c.loop-page.bitmap.used c.loop-page.page c.loop-page.invariant.used p;
}
