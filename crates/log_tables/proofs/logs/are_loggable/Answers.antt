use Rattle.std.proofs.Common.{List, subst}
use Rattle.std.proofs.lemmas.List.{take_all}
use Rattle.std.proofs.lemmas.List.Elements.{All-more}
use Rattle.log_recovery.specs.log_ring.declared.image.PageImage.{PageImage}
use Rattle.log_recovery.specs.log_ring.Homes.{AreLoggable, IsLoggable}
use Rattle.log_tables.proofs.logs.are_loggable.Goals as goal

pub loop-image-preserved : goal.loop-image-preserved
loop-image-preserved c =
    let anchor = c.args.anchor.now in
    let image : PageImage = c.image-item.result in
    All-more (λ (i : PageImage). IsLoggable anchor i.home) c.args.images.now c.loop-image.image-index image c.loop-image-test.true c.loop-image.invariant
    (subst (λ (i : PageImage). IsLoggable anchor i.home) c.image-item.is (c.is_loggable.ensures.0 c.if-not-is_loggable.false))

pub returns : goal.returns
returns c = λ yes. subst (λ (l : List PageImage). AreLoggable c.args.anchor.now l) (take_all c.loop-image.image-index c.args.images.now c.loop-image-test.false) c.loop-image.invariant
