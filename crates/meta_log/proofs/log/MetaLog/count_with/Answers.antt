use Rattle.std.proofs.Common.{List, length, sym, ◌∙◌, ap, subst}
use Rattle.log_ring.specs.Images.{AreDistinctHomes, joined}
use Rattle.log_ring.specs.declared.image.PageImage.{PageImage}
use Rattle.meta_log.proofs.Pending.{images_between}
use Rattle.meta_log.proofs.log.MetaLog.count_with.Goals as goal

pub count_joined-requires-clause-pending : goal.count_joined-requires-clause-pending
count_joined-requires-clause-pending c =
    subst AreDistinctHomes (sym (images_between c.self.inside.slots.items c.deref.result.now c.self.inside.logged c.self.inside.end c.deref.ensures.value)) c.self.invariant.is.distinct

pub returns : goal.returns
returns c =
    c.count_joined.ensures
    ∙ ap (λ (l : List PageImage). length (joined c.args.change.now l)) (images_between c.self.inside.slots.items c.deref.result.now c.self.inside.logged c.self.inside.end c.deref.ensures.value ∙ (λ i. (c.self.view_is i).pending))
