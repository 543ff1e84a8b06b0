use Rattle.std.proofs.Common.{◌∙◌, refl}
use Rattle.domain_bringing.proofs.Laid.{laid_more}
use Rattle.domain_bringing.proofs.images.lay_images.Goals as goal

pub loop-image-init : goal.loop-image-init
loop-image-init g c = record { laid = λ home. refl; before = refl }

pub loop-image-preserved : goal.loop-image-preserved
loop-image-preserved g c =
    let pages = g.M.MetaPages.pages in
    record {
      laid = laid_more c.args.images.now c.loop-image.image-index c.image-item.result (pages c.args.pages.now) (pages c.loop-image.pages) (pages c.lay_image.new.pages) c.loop-image-test.true c.image-item.is c.loop-image.invariant.laid c.in_ok-lay_image.ensures.laid;
      before = c.lay_image.ensures.before ∙ c.loop-image.invariant.before;
    }
