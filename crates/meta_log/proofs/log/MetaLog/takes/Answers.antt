use Rattle.std.proofs.Common.{◌≡◌, ℕ, List, length, sym, ◌∙◌, ap, inl, inr, subst}
use Rattle.log_ring.specs.Images.{AreDistinctHomes, joined}
use Rattle.log_ring.specs.declared.image.PageImage.{PageImage}
use Rattle.meta_log.specs.Log.{HasPlaceFor, Log, images_at}
use Rattle.meta_log.proofs.Appending.{not_full}
use Rattle.meta_log.proofs.Pending.{images_between}
use Rattle.meta_log.proofs.log.MetaLog.takes.Goals as goal

pub count_at-count-requires-clause-pending : goal.count_at-count-requires-clause-pending
count_at-count-requires-clause-pending c =
    subst AreDistinctHomes (sym (images_between c.self.inside.slots.items c.deref.result.now c.self.inside.logged c.self.inside.end c.deref.ensures.value)) c.self.invariant.is.distinct

pub returns : goal.returns
returns c = λ pages.
    let log : Log = c.args.self.now in
    let homes = c.args.homes.now in
    let n = length (joined (images_at pages homes) log.pending) in
    let pending_is = images_between c.self.inside.slots.items c.deref.result.now c.self.inside.logged c.self.inside.end c.deref.ensures.value ∙ (λ i. (c.self.view_is i).pending) in
    let count : c.count_at-count.result ≡ n = c.count_at-count.ensures pages ∙ ap (λ (l : List PageImage). length (joined (images_at pages homes) l)) pending_is in (
      λ fits. subst (λ (m : ℕ). HasPlaceFor log m) count (c.has_place_for.ensures.yes fits),
      λ place. elim c.has_place_for.ensures.no [
        | inl fits ↦ fits
        | inr full ↦ absurd (not_full log c.count_at-count.result (subst (λ (m : ℕ). HasPlaceFor log m) (sym count) place) full)
      ],
    )
